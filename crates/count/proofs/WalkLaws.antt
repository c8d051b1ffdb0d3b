-- The walk's state after a node goes on the stack, and after the top is counted and goes off.
use mathlib.Core.Path.{◌≡◌, sym, ap, ◌∙◌, subst}
use mathlib.Core.Logic.{◌≢◌, ◌⊎◌, inl, inr, ⊎_elim, ⊎_map}
use mathlib.Core.List.{List}
use Prim.Native.Nat.{ℕ, zero, suc, ◌+◌, ◌-◌, ◌*◌, ◌≤◌, ◌<◌, min}
use native.Mathlib.Nat.{eq-or-lt_of_le}
use native.Mathlib.Omega.{arith}
use lib.ListN.{length, get_or, set, length-set}
use lib.Seq.{get_or-set_same, get_or-set_other}
use Rattle.laws.specs.Cases.{same?}
use Rattle.node.specs.Nodes.{kbwg}
use Rattle.graph.specs.Runs.{Graph}
use Rattle.graph.specs.Words.{count}
use Rattle.graph.specs.Loops.{Step, Reach, once, then, Loops, Clear}
use Rattle.graph.specs.ChecksLaws.{Fit}
use Rattle.graph.specs.LoopLaws.{step-inside, clear_above}
use Rattle.graph.specs.CountLaws.{sum_at, sum-capped}
use Rattle.graph.proofs.CountEquationLaws.{count-equation}
use Rattle.graph.specs.Lent.{kept-all, kept_set}
use Rattle.loops.specs.NodeMarks.{mark, done, stacked, node_pushed, is_met}
use Rattle.loops.specs.NodeMarksLaws.{sum-keeps-at, sum-rises-at, mets_le, one-not-met, pushed-mark, pushed-others, pushed-top, pushed-below, pushed-kept}
use Rattle.count.specs.CountWalk.{is_done, dones, OnPath, Entry, Done, CountWalk, StepTaken}

-- ---- a step changes the mark of x, and of no other node
module _ (g : Graph) (w w' : List ℕ) (x : ℕ) (others : (k : ℕ) → k < length g → k ≢ x → mark w' k ≡ mark w k) where
  met-after : mark w' x ≢ 0 → (k : ℕ) → k < length g → mark w k ≢ 0 → mark w' k ≢ 0
  met-after met k h n z = ⊎_elim (λ e. met (sym (ap (mark w') e) ∙ z)) (λ d. n (sym (others k h d) ∙ z)) (same? k x)

  marks-after : {limit : ℕ} {c c' : List ℕ} {size size' : ℕ} → Done limit g c' w' x ⊎ OnPath g w' size' x
      → ((k : ℕ) → k < length g → k ≢ x → Done limit g c w k → Done limit g c' w' k)
      → ((k : ℕ) → k < length g → k ≢ x → OnPath g w size k → OnPath g w' size' k)
      → ((k : ℕ) → k < length g → (mark w k ≡ 0) ⊎ (Done limit g c w k ⊎ OnPath g w size k))
      → (k : ℕ) → k < length g → (mark w' k ≡ 0) ⊎ (Done limit g c' w' k ⊎ OnPath g w' size' k)
  marks-after {limit} {c} {c'} {size} {size'} new dones opens marks k h =
      ⊎_elim
      (λ e. inr (subst (λ j. Done limit g c' w' j ⊎ OnPath g w' size' j) (sym e) new))
      (λ d. ⊎_map (λ z. others k h d ∙ z) (⊎_map (dones k h d) (opens k h d)) (marks k h))
      (same? k x)

module _ (limit : ℕ) (g : Graph) (c w : List ℕ) (size : ℕ) (K : Fit g) (W : CountWalk limit g c w size) where
  -- the stack holds no more nodes than there are
  size_le : size ≤ length g
  size_le =
      let a = W.tallied in
      let l = mets_le g w in
      omega arith

  -- what a node of the stack reaches, each one below it reaches
  climb : (r j d : ℕ) → j + d < size → Reach kbwg g (stacked (length g) w (j + d)) r → Reach kbwg g (stacked (length g) w j) r
  climb r j zero h R = subst (λ k. Reach kbwg g (stacked (length g) w k) r) (omega arith) R
  climb r j (suc d) h R =
      climb r j d (omega arith)
      (then (W.path (j + d) (omega arith)) (subst (λ k. Reach kbwg g (stacked (length g) w k) r) (omega arith) R))

  -- a node of the stack that the top leads to loops
  loop-closed : (q s : ℕ) → suc s ≡ size → Step kbwg g (stacked (length g) w s) q → OnPath g w size q → Loops kbwg g q
  loop-closed q s h d o =
      let b = o.on.within in
      let i = o.on.place in
      let e : i + (s - i) ≡ s = omega arith in
      subst (λ k. Reach kbwg g k q) o.on.holds
      (climb q i (s - i) (omega arith) (subst (λ k. Reach kbwg g (stacked (length g) w k) q) (sym e) (once d)))

  -- ---- a new node goes on the stack
  module _ (q : ℕ) (q< : q < length g) (new : mark w q ≡ 0) where
    -- there is room for it
    pub size_lt : size < length g
    size_lt =
        let a = W.tallied in
        let r = W.room in
        let b = one-not-met g w q (omega arith) q< new in
        omega arith

    w' : List ℕ
    w' = node_pushed w (length g) size q

    others : (k : ℕ) → k < length g → k ≢ q → mark w' k ≡ mark w k
    unfolding w'
    others = pushed-others (length g) w size q W.room q< size_lt

    at-node : mark w' q ≡ suc size
    unfolding w'
    at-node = pushed-mark (length g) w size q W.room q< size_lt

    at_top : stacked (length g) w' size ≡ q
    unfolding w'
    at_top = pushed-top (length g) w size q W.room q< size_lt

    at_entry : (i : ℕ) → i < size → stacked (length g) w' i ≡ stacked (length g) w i
    unfolding w'
    at_entry = pushed-below (length g) w size q W.room q< size_lt

    old-entry : (i : ℕ) → i < size → Entry g w' i
    old-entry i h =
        let n = W.entries i h in
        let m = stacked (length g) w i in
        let differs : m ≢ q = λ z. let y : mark w m ≡ 0 = ap (mark w) z ∙ new in let x = n.marked in omega arith in
        record {
          node = rw (at_entry i h) n.node;
          marked = rw (at_entry i h) (others m n.node differs ∙ n.marked);
        }

    new-entry : Entry g w' size
    new-entry = record { node = rw at_top q<; marked = rw at_top at-node }

    entries' : (i : ℕ) → i < size + 1 → Entry g w' i
    entries' i h = ⊎_elim (λ e. subst (λ k. Entry g w' k) (sym e) new-entry) (λ l. old-entry i l) (eq-or-lt_of_le (omega arith))

    new-open : OnPath g w' (size + 1) q
    new-open = record { on = record { place = size; within = omega arith; holds = at_top }; marked = at-node }

    still-done : (k : ℕ) → k < length g → k ≢ q → Done limit g c w k → Done limit g c w' k
    still-done k h n o = record { marked = others k h n ∙ o.marked; clear = o.clear; counted = o.counted }

    still_open : (k : ℕ) → k < length g → k ≢ q → OnPath g w size k → OnPath g w' (size + 1) k
    still_open k h n o =
        let b = o.on.within in
        record {
          on = record { place = o.on.place; within = omega arith; holds = at_entry o.on.place b ∙ o.on.holds };
          marked = others k h n ∙ o.marked;
        }

    -- the top leads to it
    module _ (d : (i : ℕ) → suc i ≡ size → Step kbwg g (stacked (length g) w i) q) where
      path' : (i : ℕ) → suc i < size + 1 → Step kbwg g (stacked (length g) w' i) (stacked (length g) w' (suc i))
      path' i h =
          rw (at_entry i (omega arith)) (⊎_elim
          (λ e. subst (λ k. Step kbwg g (stacked (length g) w i) (stacked (length g) w' k)) (sym e) (rw at_top (d i e)))
          (λ l. rw (at_entry (suc i) l) (W.path i l))
          (eq-or-lt_of_le (omega arith)))

      pub pushed-walk : StepTaken limit g c w c (node_pushed w (length g) size q) (size + 1)
      unfolding w'
      pushed-walk =
          let a = W.tallied in
          let e = at-node in
          let m = sum-rises-at is_met w w' (length g) q others q< (omega arith) in
          let d = sum-keeps-at is_done w w' (length g) q others q< (let z : is_done (mark w q) ≡ 0 = ap is_done new in omega arith) in
          record {
            walk = record {
              room = simp length-set W.room;
              room-counts = W.room-counts;
              entries = entries';
              path = path';
              marks = marks-after g w w' q others (inr new-open) still-done still_open W.marks;
              tallied = omega arith;
            };
            met = met-after g w w' q others (λ z. omega arith);
            on = omega arith;
            counts-kept = kept-all (length g) c;
            work-kept = pushed-kept (length g) w size q W.room q< size_lt;
          }

  done_of : (q : ℕ) → q < length g → mark w q ≡ done → Done limit g c w q
  done_of q h f =
      ⊎_elim
      (λ z. absurd (omega arith))
      (λ y. ⊎_elim
      (λ o. o)
      (λ o. let b = o.on.within in let m = o.marked in let a = size_le in let s = K.most in absurd (omega arith))
      y)
      (W.marks q h)

  open_of : (q : ℕ) → q < length g → mark w q ≢ 0 → mark w q ≢ done → OnPath g w size q
  open_of q h n f = ⊎_elim (λ z. absurd (n z)) (λ y. ⊎_elim (λ o. absurd (f o.marked)) (λ o. o) y) (W.marks q h)

  -- ---- the top is counted, by nodes that are done, and goes off the stack
  module _
      (s : ℕ) (last : suc s ≡ size) (p : ℕ) (top : stacked (length g) w s ≡ p)
      (all : (q : ℕ) → Step kbwg g p q → mark w q ≡ done)
      (v : ℕ) (sum : v ≡ min (sum_at kbwg g (λ q. get_or c q 0) p) limit) where
    w'' : List ℕ
    w'' = set w p done

    c'' : List ℕ
    c'' = set c p v

    p< : p < length g
    p< = subst (λ k. k < length g) top (W.entries s (omega arith)).node

    p<w : p < length w
    p<w =
        let r = W.room in
        let l = p< in
        omega arith

    open-p : mark w p ≡ suc s
    open-p = subst (λ k. mark w k ≡ suc s) top (W.entries s (omega arith)).marked

    other-w : (k : ℕ) → k ≢ p → mark w'' k ≡ mark w k
    unfolding w''
    other-w k n = get_or-set_other w p k done 0 n

    other-c : (k : ℕ) → k ≢ p → get_or c'' k 0 ≡ get_or c k 0
    unfolding c''
    other-c k n = get_or-set_other c p k v 0 n

    entry-w : (i : ℕ) → stacked (length g) w'' i ≡ stacked (length g) w i
    entry-w i = other-w (length g + i) (λ z. let l = p< in omega arith)

    entries'' : (i : ℕ) → i < s → Entry g w'' i
    entries'' i h =
        let n = W.entries i (omega arith) in
        let m = stacked (length g) w i in
        let differs : m ≢ p = λ z. let y : mark w m ≡ suc s = ap (mark w) z ∙ open-p in let x = n.marked in omega arith in
        record {
          node = rw (entry-w i) n.node;
          marked = rw (entry-w i) (other-w m differs ∙ n.marked);
        }

    path'' : (i : ℕ) → suc i < s → Step kbwg g (stacked (length g) w'' i) (stacked (length g) w'' (suc i))
    path'' i h = rw (entry-w i, entry-w (suc i)) (W.path i (omega arith))

    after : (q : ℕ) → Step kbwg g p q → Done limit g c w q
    after q d = done_of q (step-inside K.steps d) (all q d)

    clear-p : Clear kbwg g p
    clear-p = clear_above kbwg g p (λ q d. (after q d).clear)

    counted-p : v ≡ min (count kbwg g p) limit
    counted-p =
        sum
        ∙ sum-capped kbwg limit g (count kbwg g) (λ q. get_or c q 0) p p< (λ q d. (after q d).counted)
        ∙ ap (λ n. min n limit) (sym (count-equation kbwg g p p< clear-p))

    new-done : Done limit g c'' w'' p
    unfolding w'' c''
    new-done =
        let r = W.room-counts in
        let l = p< in
        record {
          marked = get_or-set_same w p done 0 p<w;
          clear = clear-p;
          counted = get_or-set_same c p v 0 (omega arith) ∙ counted-p;
        }

    still_done'' : (k : ℕ) → k < length g → k ≢ p → Done limit g c w k → Done limit g c'' w'' k
    still_done'' k h n o = record { marked = other-w k n ∙ o.marked; clear = o.clear; counted = other-c k n ∙ o.counted }

    still_open'' : (k : ℕ) → k < length g → k ≢ p → OnPath g w size k → OnPath g w'' s k
    still_open'' k h n o =
        let b = o.on.within in
        let differs : o.on.place ≢ s = λ z. n (sym o.on.holds ∙ ap (stacked (length g) w) z ∙ top) in
        record {
          on = record { place = o.on.place; within = omega (arith, differs); holds = entry-w o.on.place ∙ o.on.holds };
          marked = other-w k n ∙ o.marked;
        }

    counted-walk : StepTaken limit g c w (set c p v) (set w p done) s
    unfolding w'' c''
    counted-walk =
        let a = W.tallied in
        let l = size_le in
        let f = K.most in
        let o = open-p in
        let n = new-done.marked in
        let z : is_done (mark w p) ≡ is_done (suc s) = ap is_done o in
        let y : is_done (mark w'' p) ≡ is_done done = ap is_done n in
        let m = sum-keeps-at is_met w w'' (length g) p (λ k h. other-w k) p< (omega arith) in
        let d = sum-rises-at is_done w w'' (length g) p (λ k h. other-w k) p< (omega arith) in
        record {
          walk = record {
            room = simp length-set W.room;
            room-counts = simp length-set W.room-counts;
            entries = entries'';
            path = path'';
            marks = marks-after g w w'' p (λ k h. other-w k) (inl new-done) still_done'' still_open'' W.marks;
            tallied = omega arith;
          };
          met = met-after g w w'' p (λ k h. other-w k) (λ z. omega arith);
          on = omega arith;
          counts-kept = kept_set (length g) c p v p<;
          work-kept = kept_set (2 * length g) w p done (let h = p< in omega arith);
        }

-- ---- the same by the code's terms: p is what stands at the top of the stack
module _ (limit : ℕ) (g : Graph) (c w : List ℕ) (size : ℕ) (K : Fit g) (W : CountWalk limit g c w size) (some : 0 < size) where
  pub top-place : length g + (size - 1) < length w
  top-place =
      let l = size_le limit g c w size K W in
      let r = W.room in
      omega arith

  module _ (p : ℕ) (top : p ≡ stacked (length g) w (size - 1)) where
    pub top-node : p < length g
    top-node = rw top (W.entries (size - 1) (omega arith)).node

    module _ (q : ℕ) (d : Step kbwg g p q) where
      pub step-loops : mark w q ≢ done → mark w q ≢ 0 → Loops kbwg g q
      step-loops f n =
          loop-closed limit g c w size K W q (size - 1) (omega arith) (rw top at d) (open_of limit g c w size K W q (step-inside K.steps d) n f)

      pub step_pushes : mark w q ≡ 0 → StepTaken limit g c w c (node_pushed w (length g) size q) (size + 1)
      step_pushes n =
          pushed-walk limit g c w size K W q (step-inside K.steps d) n
          (λ i e. subst (λ k. Step kbwg g k q) (top ∙ ap (stacked (length g) w) (omega arith)) d)

    pub step_counts : ((q : ℕ) → Step kbwg g p q → mark w q ≡ done) → (v : ℕ) → v ≡ min (sum_at kbwg g (λ q. get_or c q 0) p) limit
        → StepTaken limit g c w (set c p v) (set w p done) (size - 1)
    step_counts all v e = counted-walk limit g c w size K W (size - 1) (omega arith) p (sym top) all v e
