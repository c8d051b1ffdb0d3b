-- How the stack changes: a node goes on it, the last open node takes a lower mark, or it is done with all above it.
use mathlib.Core.Path.{◌≡◌, sym, ap, ◌∙◌, subst}
use mathlib.Core.Logic.{◌≢◌, ◌⊎◌, inl, inr, ⊎_elim}
use Prim.Native.Nat.{ℕ, zero, suc, ◌-◌, ◌≤◌, ◌<◌, min}
use native.Mathlib.Nat.{eq-or-lt_of_le, not-suc-le-zero}
use native.Mathlib.Omega.{arith}
use lib.ListN.{length}
use Rattle.laws.specs.Cases.{same?, below?}
use Rattle.node.specs.Nodes.{kbwg}
use Rattle.graph.specs.Runs.{Graph}
use Rattle.graph.specs.Loops.{Step, Reach, once, then, Loops}
use Rattle.graph.specs.ChecksLaws.{Fit}
use Rattle.graph.specs.LoopLaws.{step-inside, Reach-inside}
use Rattle.graph.specs.WordsEquation.{Reach_trans}
use Rattle.loops.specs.NodeMarks.{done, OnStack, resized}
use Rattle.loops.specs.Stack.{StackPlace, SearchStack}

module _ (g : Graph) (R A B : ℕ → ℕ) (size top low : ℕ) (K : Fit g) (S : SearchStack g R A size B top low) where
  abbrev M : ℕ → ℕ
  M k = R (A k)

  -- a mark of the stack is not done
  not_done : (j : ℕ) → j < size → M j ≢ done
  not_done j h e = let a = (S.places j h).own in let b = S.few in let c = K.most in omega arith

  -- a node that is met and not done is on the stack
  on_stack : (x : ℕ) → x < length g → R x ≢ 0 → R x ≢ done → OnStack A size x
  on_stack x h n f = ⊎_elim (λ z. absurd (n z)) (⊎_elim (λ z. absurd (f z)) (λ v. v)) (S.marks x h)

  pub top_le : top ≤ size
  top_le = ⊎_elim (λ z. omega arith) (λ n. let a = (S.at_top (top - 1) (omega (arith, n))).0 in omega arith) (same? top 0)

  -- the place from which an open one was met is open
  open-below : (j i : ℕ) → j < size → M j ≡ suc j → B j ≡ suc i → M i ≡ suc i
  open-below j i l o e = ⊎_elim (λ y. y) (λ y. let a = y.0 in absurd (omega arith)) ((S.places j l).parent i e)

  -- an open place reaches those above it
  down : (f j : ℕ) → j < f → j < size → M j ≡ suc j → (i : ℕ) → i < j → M i ≡ suc i → Reach kbwg g (A i) (A j)
  down zero j h l o i b p = absurd (not-suc-le-zero h)
  down (suc f) j h l o i b p =
      let P = S.places j l in
      let c = P.between i b p in
      let d = P.below in
      let k = B j - 1 in
      let e : B j ≡ suc k = omega arith in
      let s = P.from k e in
      ⊎_elim
      (λ z. subst (λ x. Reach kbwg g (A x) (A j)) (sym z) (once s))
      (λ n. Reach_trans kbwg (down f k (omega arith) (omega arith) (open-below j k l o e) i (omega (arith, n)) p) (once s))
      (same? i k)

  -- ---- the last open node
  module _ (s : ℕ) (at : top ≡ suc s) where
    pub top_in : s < size
    top_in = (S.at_top s at).0

    pub top-open : M s ≡ suc s
    top-open = (S.at_top s at).1

    -- every node of the stack reaches it: an open one along the path to it, a passed one by a lower place
    to-top : (f j : ℕ) → j < f → j < size → j ≢ s → Reach kbwg g (A j) (A s)
    to-top zero j h l n = absurd (not-suc-le-zero h)
    to-top (suc f) j h l n =
        let P = S.places j l in
        let m = P.marked in
        let o = P.own in
        ⊎_elim
        (λ e. let b = S.last j l e in down size s top_in top_in top-open j (omega (arith, n)) e)
        (λ u.
        let r = P.reaches (M j - 1) (omega (arith, u)) (omega (arith, m)) in
        ⊎_elim
        (λ e. subst (λ k. Reach kbwg g (A j) (A k)) e r)
        (λ z. Reach_trans kbwg r (to-top f (M j - 1) (omega (arith, u)) (omega (arith, u)) z))
        (same? (M j - 1) s))
        (same? (M j) (suc j))

    -- a node that it leads to and that is not done makes it loop
    pub top-loops : (q : ℕ) → Step kbwg g (A s) q → R q ≢ 0 → R q ≢ done → Loops kbwg g (A s)
    top-loops q d n f =
        let v = on_stack q (step-inside K.steps d) n f in
        let first : Step kbwg g (A s) (A v.place) = subst (λ x. Step kbwg g (A s) x) (sym v.holds) d in
        ⊎_elim
        (λ e. once (subst (λ k. Step kbwg g (A s) (A k)) e first))
        (λ z. then first (to-top size v.place v.within v.within z))
        (same? v.place s)

    -- where all that it leads to is done, it does not loop
    pub top-clear : ((q : ℕ) → Step kbwg g (A s) q → R q ≡ done) → Loops kbwg g (A s) → ⊥
    top-clear all r = not_done s top_in (after r)
      where
        stays : {x y : ℕ} → R x ≡ done → Reach kbwg g x y → R y ≡ done
        stays {x} {y} e (once d) = S.closed x y e d
        stays {x} e (then {q = q} d t) = stays (S.closed x q e d) t

        after : {y : ℕ} → Reach kbwg g (A s) y → R y ≡ done
        after {y} (once d) = all y d
        after (then {q = q} d t) = stays (all q d) t

    -- a place above it is passed
    above-passed : (j : ℕ) → s < j → j < size → M j ≤ j
    above-passed j h l =
        let o = (S.places j l).own in
        let n : M j ≢ suc j = λ e. let b = S.last j l e in omega arith in
        omega (arith, n)

    -- ---- it is passed, and counts among the passed nodes that loop
    module _ (low' : ℕ) (chosen : (Loops kbwg g (A s) × (low' ≡ min low (A s))) ⊎ ((Loops kbwg g (A s) → ⊥) × (low' ≡ low))) where
      passed-loops : (low' ≡ length g) ⊎ Loops kbwg g low'
      passed-loops =
          ⊎_elim
          (λ y. let e = y.1 in ⊎_elim
          (λ h. rw (e ∙ let u : min low (A s) ≡ low = omega arith in u) S.low-loops)
          (λ h. rw (e ∙ let u : min low (A s) ≡ A s = omega arith in u) (inr y.0))
          (below? low (A s)))
          (λ y. rw y.1 S.low-loops) chosen

      -- what is lower and loops is another node, of which the mark stays
      passed-left : (R' : ℕ → ℕ) (size' : ℕ) → s ≤ size' → ((k : ℕ) → k < s → R' (A k) ≡ M k) → ((x : ℕ) → R x ≡ 0 → R' x ≡ 0)
          → (x : ℕ) → Loops kbwg g x → x < low' → (R' x ≡ 0) ⊎ ((v : OnStack A size' x) × (R' (A v.place) ≡ suc v.place))
      passed-left R' size' room same unmet x r h =
          ⊎_elim
          (λ z. inl (unmet x z))
          (λ v.
          let n : v.0.place ≢ s = λ e. not_itself (sym v.0.holds ∙ ap A e) in
          let b = S.last v.0.place v.0.within v.1 in
          inr (resized v.0 (omega (arith, n)), same v.0.place (omega (arith, n)) ∙ v.1))
          (S.lower-left x r (⊎_elim (λ y. let e = y.1 in omega arith) (λ y. let e = y.1 in omega arith) chosen))
        where
          not_itself : x ≡ A s → ⊥
          not_itself e = ⊎_elim (λ y. let a = y.1 in omega arith) (λ y. y.0 (subst (λ k. Reach kbwg g k k) e r)) chosen

      -- ---- it takes the mark of a node that it leads to: the lowest of them, and lower than its own
      module _
          (q : ℕ) (d : Step kbwg g (A s) q) (n : R q ≢ 0) (lower : R q ≤ s) (least : (r : ℕ) → Step kbwg g (A s) r → R q ≤ R r)
          (R' : ℕ → ℕ) (Rp : R' (A s) ≡ R q) (Rs : (x : ℕ) → x ≢ A s → R' x ≡ R x) where
        same-mark : (k : ℕ) → k < size → k ≢ s → R' (A k) ≡ M k
        same-mark k h m = Rs (A k) (λ e. m (S.differ k s h top_in e))

        lowered-below : (k : ℕ) → k < s → R' (A k) ≡ M k
        lowered-below k h = let t = top_in in same-mark k (omega arith) (λ z. omega arith)

        -- the marks of nodes that are not met, or done, stay
        lowered-other : (x : ℕ) → (R x ≡ 0) ⊎ (R x ≡ done) → R' x ≡ R x
        lowered-other x o =
            Rs x (λ e. let f : R x ≡ M s = ap R e in ⊎_elim (λ z. (S.places s top_in).marked (sym f ∙ z)) (λ z. not_done s top_in (sym f ∙ z)) o)

        was_open : (j : ℕ) → j < size → R' (A j) ≡ suc j → (j ≢ s) × (M j ≡ suc j)
        was_open j h o =
            let m : j ≢ s = λ e. let y : R' (A j) ≡ R' (A s) = ap (λ i. R' (A i)) e in omega arith in
            (m, sym (same-mark j h m) ∙ o)

        -- the node at the place that is its mark now
        reaches-low : (i : ℕ) → R q ≡ suc i → Reach kbwg g (A s) (A i)
        reaches-low i e =
            let v = on_stack q (step-inside K.steps d) n (λ z. let a = top_in in let b = S.few in let c = K.most in omega arith) in
            let P = S.places v.place v.within in
            let m : M v.place ≡ suc i = ap R v.holds ∙ e in
            let o = P.own in
            ⊎_elim
            (λ z. once (subst (λ x. Step kbwg g (A s) x) (sym v.holds ∙ ap A (sym z)) d))
            (λ z. then d (subst (λ x. Reach kbwg g x (A i)) v.holds (P.reaches i (omega (arith, z)) m)))
            (same? i v.place)

        -- what its leads are, by the lowest of their marks
        leads-low : (x : ℕ) → Step kbwg g (A s) x → (R' x ≡ done) ⊎ ((v : OnStack A size x) × (R q ≤ suc v.place))
        leads-low x r =
            let a = least x r in
            ⊎_elim
            (λ z. absurd (omega (arith, n)))
            (⊎_elim (λ z. inl (lowered-other x (inr z) ∙ z))
            (λ v. let o = (S.places v.place v.within).own in
            let f : M v.place ≡ R x = ap R v.holds in
            inr (v, omega arith)))
            (S.marks x (step-inside K.steps r))

        lowered-place : (j : ℕ) → j < size → StackPlace g R' A size B j
        lowered-place j h = ⊎_elim (λ e. subst (λ k. StackPlace g R' A size B k) (sym e) itself) other (same? j s)
          where
            itself : StackPlace g R' A size B s
            itself =
                let P = S.places s top_in in
                let b = P.below in
                let t = top_in in
                record {
                  node = P.node;
                  marked = rw Rp n;
                  own = rw Rp (omega arith);
                  reaches = λ i l e. reaches-low i (sym Rp ∙ e);
                  leads = λ _ x r. rw Rp (leads-low x r);
                  below = b;
                  from = P.from;
                  between = λ i l o. P.between i l (was_open i (omega arith) o).1;
                  parent = λ i e. inl (lowered-below i (omega arith) ∙ open-below s i t top-open e);
                }

            other : j ≢ s → StackPlace g R' A size B j
            other m =
                let P = S.places j h in
                let e = same-mark j h m in
                let b = P.below in
                record {
                  node = P.node;
                  marked = rw e P.marked;
                  own = rw e P.own;
                  reaches = λ i l y. P.reaches i l (sym e ∙ y);
                  leads = λ l x r. ⊎_elim (λ z. inl (lowered-other x (inr z) ∙ z))
                      (λ v. inr (v.0, rw e v.1)) (P.leads (subst (λ k. k ≤ j) e l) x r);
                  below = b;
                  from = P.from;
                  between = λ i l o. P.between i l (was_open i (omega arith) o).1;
                  parent = λ i y. ⊎_elim
                      (λ z. let a = above-passed j (omega arith) h in
                      let c = least (A j) (subst (λ k. Step kbwg g (A k) (A j)) z (P.from i y)) in
                      inr (rw e a, subst (λ k. R' (A k) ≤ R' (A j)) (sym z) (rw (Rp, e) c)))
                      (λ z. let f = same-mark i (omega arith) z in ⊎_elim (λ o. inl (f ∙ o)) (λ o. inr (rw e o.0, rw (e, f) o.1)) (P.parent i y))
                      (same? i s);
                }

        pub lowered : SearchStack g R' A size B (B s) low'
        lowered =
            let b = (S.places s top_in).below in
            let t = top_in in
            record {
              few = S.few;
              places = lowered-place;
              differ = S.differ;
              marks = λ x h. ⊎_elim (λ z. inl (lowered-other x (inl z) ∙ z))
                  (λ y. inr (⊎_elim (λ z. inl (lowered-other x (inr z) ∙ z)) (λ v. inr v) y))
                  (S.marks x h);
              closed = λ x r e y.
                  let m : x ≢ A s = λ z. let a : R' x ≡ R q = ap R' z ∙ Rp in let f = S.few in let k = K.most in omega arith in
                  let f = S.closed x r (sym (Rs x m) ∙ e) y in
                  lowered-other r (inr f) ∙ f;
              last = λ j h o.
                  let w = was_open j h o in
                  let m = w.0 in
                  let l = S.last j h w.1 in
                  (S.places s t).between j (omega (arith, m)) w.1;
              at_top = λ j e. (omega arith, lowered-below j (omega arith) ∙ open-below s j t top-open e);
              low-loops = passed-loops;
              lower-left = passed-left R' size (omega arith) lowered-below (λ x z. lowered-other x (inl z) ∙ z);
            }

      -- ---- it is done, and all above it: none of them leads to a place below it
      module _
          (ahead : (r : ℕ) → Step kbwg g (A s) r → s < R r) (R' : ℕ → ℕ)
          (gone : (j : ℕ) → s ≤ j → j < size → R' (A j) ≡ done)
          (others : (x : ℕ) → (R' x ≡ R x) ⊎ ((v : OnStack A size x) × (s ≤ v.place))) where
        released-below : (j : ℕ) → j < s → R' (A j) ≡ M j
        released-below j h =
            let t = top_in in
            ⊎_elim
            (λ e. e)
            (λ v. let e = S.differ v.0.place j v.0.within (omega arith) v.0.holds in let l = v.1 in absurd (omega arith))
            (others (A j))

        stays_unmet : (x : ℕ) → R x ≡ 0 → R' x ≡ 0
        stays_unmet x z = ⊎_elim (λ e. e ∙ z) (λ v. absurd ((S.places v.0.place v.0.within).marked (ap R v.0.holds ∙ z))) (others x)

        -- a node at its place or above is done
        at_or_above : {x : ℕ} (v : OnStack A size x) → s ≤ v.place → R' x ≡ done
        at_or_above v h = subst (λ y. R' y ≡ done) v.holds (gone v.place h v.within)

        stays-done : (x : ℕ) → R x ≡ done → R' x ≡ done
        stays-done x f = ⊎_elim (λ e. e ∙ f) (λ v. at_or_above v.0 v.1) (others x)

        -- no mark at or above its place is lower
        high : (f j : ℕ) → j < f → s ≤ j → j < size → s < M j
        high zero j h b l = absurd (not-suc-le-zero h)
        high (suc f) j h b l =
            ⊎_elim
            (λ e. subst (λ k. s < M k) (sym e) (let o = top-open in omega arith))
            (λ n.
            let P = S.places j l in
            let c = P.between s (omega (arith, n)) top-open in
            let d = P.below in
            let i = B j - 1 in
            let y : B j ≡ suc i = omega arith in
            ⊎_elim
            (λ o. let u = S.last i (omega arith) o in
            ahead (A j) (subst (λ k. Step kbwg g (A k) (A j)) (let w : i ≡ s = omega arith in w) (P.from i y)))
            (λ o. let u = high f i (omega arith) (omega arith) (omega arith) in let w = o.1 in omega arith)
            (P.parent i y))
            (same? j s)

        -- a node that one of them leads to
        led_done : (j q : ℕ) → s ≤ j → j < size → Step kbwg g (A j) q → R' q ≡ done
        led_done j q b l d = ⊎_elim by-top by-passed (same? j s)
          where
            by-top : j ≡ s → R' q ≡ done
            by-top e =
                let a = ahead q (subst (λ k. Step kbwg g (A k) q) e d) in
                ⊎_elim (λ z. absurd (omega arith))
                (⊎_elim (stays-done q)
                (λ v.
                let o = (S.places v.place v.within).own in
                let f : M v.place ≡ R q = ap R v.holds in
                at_or_above v (omega arith)))
                (S.marks q (step-inside K.steps d))

            by-passed : j ≢ s → R' q ≡ done
            by-passed n =
                let a = high size j l b l in
                ⊎_elim (stays-done q) (λ v. let u = v.1 in at_or_above v.0 (omega arith))
                ((S.places j l).leads (above-passed j (omega (arith, n)) l) q d)

        released-place : (j : ℕ) → j < s → StackPlace g R' A s B j
        released-place j h =
            let t = top_in in
            let P = S.places j (omega arith) in
            let e = released-below j h in
            let c = P.below in
            record {
              node = P.node;
              marked = rw e P.marked;
              own = rw e P.own;
              reaches = λ i l y. P.reaches i l (sym e ∙ y);
              leads = λ l x r. ⊎_elim (λ z. inl (stays-done x z))
                  (λ v. ⊎_elim (λ u. inr (resized v.0 u, rw e v.1)) (λ u. inl (at_or_above v.0 u)) (below? v.0.place s))
                  (P.leads (subst (λ k. k ≤ j) e l) x r);
              below = c;
              from = P.from;
              between = λ i l o. P.between i l (sym (released-below i (omega arith)) ∙ o);
              parent = λ i y. let k = released-below i (omega arith) in ⊎_elim (λ o. inl (k ∙ o)) (λ o. inr (rw e o.0, rw (e, k) o.1)) (P.parent i y);
            }

        pub released : SearchStack g R' A s B (B s) low'
        released =
            let t = top_in in
            let f = S.few in
            let b = (S.places s t).below in
            record {
              few = omega arith;
              places = released-place;
              differ = λ i j h l. S.differ i j (omega arith) (omega arith);
              marks = λ x h. ⊎_elim (λ z. inl (stays_unmet x z))
                  (λ y. inr (⊎_elim (λ z. inl (stays-done x z))
                  (λ v. ⊎_elim (λ u. inr (resized v u)) (λ u. inl (at_or_above v u)) (below? v.place s)) y))
                  (S.marks x h);
              closed = λ x q e d. ⊎_elim
                  (λ k. stays-done q (S.closed x q (sym k ∙ e) d))
                  (λ v. led_done v.0.place q v.1 v.0.within (subst (λ y. Step kbwg g y q) (sym v.0.holds) d))
                  (others x);
              last = λ j h o. (S.places s t).between j h (sym (released-below j h) ∙ o);
              at_top = λ j e. (omega arith, released-below j (omega arith) ∙ open-below s j t top-open e);
              low-loops = passed-loops;
              lower-left = passed-left R' s (omega arith) released-below stays_unmet;
            }

  -- ---- a new node goes on the stack
  module _
      (q : ℕ) (q< : q < length g) (new : R q ≡ 0) (room : size < length g) (d : (i : ℕ) → top ≡ suc i → Step kbwg g (A i) q)
      (R' A' B' : ℕ → ℕ) (Rq : R' q ≡ suc size) (Rs : (x : ℕ) → x < length g → x ≢ q → R' x ≡ R x)
      (Aq : A' size ≡ q) (As : (j : ℕ) → j < size → A' j ≡ A j) (Bq : B' size ≡ top) (Bs : (j : ℕ) → j < size → B' j ≡ B j) where
    met-mark : (x : ℕ) → x < length g → R x ≢ 0 → R' x ≡ R x
    met-mark x h n = Rs x h (λ e. n (ap R e ∙ new))

    old-mark : (j : ℕ) → j < size → R' (A' j) ≡ M j
    old-mark j h = let P = S.places j h in ap R' (As j h) ∙ met-mark (A j) P.node P.marked

    new-mark : R' (A' size) ≡ suc size
    new-mark = ap R' Aq ∙ Rq

    still-on : {x : ℕ} → OnStack A size x → OnStack A' (suc size) x
    still-on v = let h = v.within in record { place = v.place; within = omega arith; holds = As v.place h ∙ v.holds }

    old-place : (j : ℕ) → j < size → StackPlace g R' A' (suc size) B' j
    unfolding still-on
    old-place j h =
        let P = S.places j h in
        let e = old-mark j h in
        let b = P.below in
        record {
          node = rw (As j h) P.node;
          marked = rw e P.marked;
          own = rw e P.own;
          reaches = λ i l y. rw (As j h, As i (omega arith)) (P.reaches i l (sym e ∙ y));
          leads = λ l x r. ⊎_elim
              (λ z. inl (met-mark x (step-inside K.steps r) (λ y. omega arith) ∙ z))
              (λ v. inr (still-on v.0, rw e v.1))
              (P.leads (subst (λ k. k ≤ j) e l) x (subst (λ y. Step kbwg g y x) (As j h) r));
          below = rw (Bs j h) b;
          from = λ i y. let z = sym (Bs j h) ∙ y in rw (As j h, As i (omega arith)) (P.from i z);
          between = λ i l o. rw (Bs j h) (P.between i l (sym (old-mark i (omega arith)) ∙ o));
          parent = λ i y.
              let z = sym (Bs j h) ∙ y in
              let k = old-mark i (omega arith) in
              ⊎_elim (λ o. inl (k ∙ o)) (λ o. inr (rw e o.0, rw (e, k) o.1)) (P.parent i z);
        }

    new-place : StackPlace g R' A' (suc size) B' size
    new-place =
        let t = top_le in
        let e = new-mark in
        record {
          node = rw Aq q<;
          marked = λ z. omega arith;
          own = omega arith;
          reaches = λ i l y. absurd (omega arith);
          leads = λ l. absurd (omega arith);
          below = rw Bq t;
          from = λ i y. let z = sym Bq ∙ y in rw (Aq, As i (omega arith)) (d i z);
          between = λ i l o. rw Bq (S.last i l (sym (old-mark i l) ∙ o));
          parent = λ i y. let a = S.at_top i (sym Bq ∙ y) in inl (old-mark i a.0 ∙ a.1);
        }

    -- the new node is at no place yet
    apart : (j : ℕ) → j < size → A' j ≢ q
    apart j h e = (S.places j h).marked (ap R (sym (As j h) ∙ e) ∙ new)

    pub pushed : SearchStack g R' A' (suc size) B' (suc size) low
    unfolding still-on
    pushed =
        record {
          few = room;
          places = λ j h. ⊎_elim (λ e. subst (λ k. StackPlace g R' A' (suc size) B' k) (sym e) new-place) (old-place j) (eq-or-lt_of_le (omega arith));
          differ = λ i j h l e. ⊎_elim
              (λ y. ⊎_elim (λ z. y ∙ sym z) (λ z. absurd (apart j z (sym e ∙ ap A' y ∙ Aq))) (eq-or-lt_of_le (omega arith)))
              (λ y. ⊎_elim (λ z. absurd (apart i y (e ∙ ap A' z ∙ Aq))) (λ z. S.differ i j y z (sym (As i y) ∙ e ∙ As j z)) (eq-or-lt_of_le (omega arith)))
              (eq-or-lt_of_le (omega arith));
          marks = λ x h. ⊎_elim
              (λ e. inr (inr (record { place = size; within = omega arith; holds = Aq ∙ sym e })))
              (λ n. let e = Rs x h n in ⊎_elim (λ z. inl (e ∙ z)) (λ y. inr (⊎_elim (λ z. inl (e ∙ z)) (λ v. inr (still-on v)) y)) (S.marks x h))
              (same? x q);
          closed = λ x r e y.
              let m = K.most in
              let n : x ≢ q = λ z. let a : R' x ≡ suc size = ap R' z ∙ Rq in omega arith in
              let f = S.closed x r (sym (Rs x (Reach-inside kbwg (once y)) n) ∙ e) y in
              met-mark r (step-inside K.steps y) (λ z. omega arith) ∙ f;
          last = λ j h o. h;
          at_top = λ j e. let y : j ≡ size = omega arith in (omega arith, ap (λ k. R' (A' k)) y ∙ new-mark ∙ sym (ap suc y));
          low-loops = S.low-loops;
          lower-left = λ x r h. ⊎_elim
              (λ z. ⊎_elim
              (λ e. inr (record { place = size; within = omega arith; holds = Aq ∙ sym e }, new-mark))
              (λ n. inl (Rs x (Reach-inside kbwg r) n ∙ z))
              (same? x q))
              (λ v. inr (still-on v.0, old-mark v.0.place v.0.within ∙ v.1))
              (S.lower-left x r h);
        }
