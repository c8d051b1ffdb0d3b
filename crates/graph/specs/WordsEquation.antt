-- What words are made of where nothing at or below a node loops: a path that never comes back to a node ends before it has followed
-- as many arcs as there are nodes (`clear-short`).
use Rattle.std.specs.Prelude.{◌≡◌, ◌≢◌, ◌⊎◌, eqb, ltb}
use Rattle.std.proofs.Math.Path.{refl, sym, ap, subst}
use Rattle.std.proofs.Common.{ap₂, ◌∙◌, eqb-true, ltb-true, ltb-false, length-drop, drop_of_length-le, drop-cons}
use Rattle.std.proofs.Math.Logic.{inl, inr, ⊎_elim}
use mathlib.Core.List.{List, [], ◌∷◌, ◌++◌, head-eq_of_cons-eq, tail-eq_of_cons-eq}
use mathlib.Core.List.Memᴰ
use mathlib.Core.List.{Memᴰ}
use Prim.Native.Nat.{ℕ, zero, suc, ◌-◌, ◌≤◌, ◌<◌}
use native.Mathlib.Omega.{arith}
use Rattle.std.proofs.lemmas.Bool.{eqb-false}
use Rattle.std.proofs.Math.ListN.{length, drop}
use Rattle.laws.specs.Cases.{split}
use Rattle.laws.specs.Without.{without, without_lt, without-keeps, below, length-below, in_below}
use Rattle.node.specs.Nodes.{BitLayout, arc, is_end}
use Rattle.graph.specs.Runs.{Graph, node, run}
use Rattle.graph.specs.Words.{Word, in_order, spelled, words_within, words}
use Rattle.graph.specs.Loops.{Step, by-arc, by-run, Reach, once, then, Clear}

pub in_order_ext : (f h : ℕ → List Word) (l : List ℕ) → ((v : ℕ) → Memᴰ v l → f v ≡ h v) → in_order f l ≡ in_order h l
unfolding in_order
in_order_ext f h [] e = refl
in_order_ext f h (v ∷ l) e = ap₂ ◌++◌ (e v (Memᴰ.head refl)) (in_order_ext f h l (λ w m. e w (Memᴰ.tail m)))

module _ (y : BitLayout) where
  -- ---- along a run, wherever its arcs lead: the words after an arc follow one less
  abbrev pub after_arc : Graph → ℕ → List Word
  after_arc g q = words_within y (length g - 1) g q

  pub words-run : (g : Graph) (p : ℕ) → 0 < length g → words y g p ≡ in_order (spelled y (after_arc g)) (run y (drop p g))
  unfolding words words_within
  words-run [] p h = absurd (omega arith)
  words-run (v ∷ l) p h =
      let k : length l ≡ suc (length l) - 1 = omega arith in
      ap (λ n. in_order (spelled y (λ q. words_within y n (v ∷ l) q)) (run y (drop p (v ∷ l)))) k

  -- every path from p follows fewer than k arcs, or leaves the graph by the last of k
  abbrev pub Short : Graph → ℕ → ℕ → Type 0
  Short g zero p = length g ≤ p
  Short g (suc k) p = (v : ℕ) → Memᴰ v (run y (drop p g)) → arc y v ≢ 0 → Short g k (arc y v)

  pub no_run : (g : Graph) (p : ℕ) → length g ≤ p → run y (drop p g) ≡ []
  unfolding run
  no_run g p h = rw (drop_of_length-le g h)

  short-outside : (g : Graph) (k p : ℕ) → length g ≤ p → Short g k p
  short-outside g zero p h = h
  short-outside g (suc k) p h = λ v m n. absurd (Memᴰ.not-nil (rw (no_run g p h) at m))

  -- ---- no loop: no path is long
  pub Reach_trans : {g : Graph} {p q r : ℕ} → Reach y g p q → Reach y g q r → Reach y g p r
  Reach_trans (once s) t = then s t
  Reach_trans (then s u) t = then s (Reach_trans u t)

  -- a node of the run from p stands at p, or is reached from it
  module _ (g : Graph) where
    record Placed (p : ℕ) (v : ℕ) : Type 0 where
      at : ℕ
      within : at < length g
      is : node g at ≡ v
      from : (at ≡ p) ⊎ Reach y g p at

    cons_here : (p : ℕ) (v : ℕ) (l : Graph) → drop p g ≡ v ∷ l → p < length g
    cons_here p v l e = let n : length g - p ≡ suc (length l) = sym (length-drop p g) ∙ ap length e in omega arith

    in_run : (l : Graph) (p : ℕ) → drop p g ≡ l → (v : ℕ) → Memᴰ v (run y l) → Placed p v
    unfolding run
    in_run [] p e v m = absurd (Memᴰ.not-nil m)
    in_run (w ∷ l) p e v m =
        let h : p < length g = cons_here p w l e in
        let c : node g p ∷ drop (suc p) g ≡ w ∷ l = sym (drop-cons g p 0 h) ∙ e in
        let here : node g p ≡ w = head-eq_of_cons-eq c in
        ⊎_elim
        (λ i. record { at = p; within = h; is = here ∙ sym i; from = inl refl })
        (λ t. split (is_end y w)
        (λ x. absurd (Memᴰ.not-nil (rw x at t)))
        (λ x.
        let r = in_run l (suc p) (tail-eq_of_cons-eq c) v (rw x at t) in
        let s : Step y g p (suc p) = by-run h (ap (is_end y) here ∙ x) in
        record {
          at = r.at;
          within = r.within;
          is = r.is;
          from = inr (⊎_elim (λ i. subst (λ k. Reach y g p k) (sym i) (once s)) (λ u. then s u) r.from);
        }))
        (Memᴰ.cases_cons m)

    -- so its arc is reached
    arc-reached : (p : ℕ) (v : ℕ) → Memᴰ v (run y (drop p g)) → arc y v ≢ 0 → Reach y g p (arc y v)
    arc-reached p v m n =
        let r = in_run (drop p g) p refl v m in
        let step = once (by-arc r.within (λ z. n (ap (arc y) (sym r.is) ∙ z))) in
        let s : Reach y g r.at (arc y v) = subst (λ w. Reach y g r.at (arc y w)) r.is step in
        ⊎_elim (λ i. subst (λ k. Reach y g k (arc y v)) i s) (λ u. Reach_trans u s) r.from

  module _ (g : Graph) where
    pub clear-reached : (p q : ℕ) → Clear y g p → Reach y g p q → Clear y g q
    clear-reached p q c r = record { itself = c.below q r; below = λ z s. c.below z (Reach_trans r s) }

    inside : (xs : List ℕ) (p : ℕ) → Clear y g p → ((x : ℕ) → x < length g → Memᴰ x xs ⊎ Reach y g x p) → p < length g → Memᴰ p xs
    inside xs p c u l = ⊎_elim (λ m. m) (λ r. absurd (c.itself r)) (u p l)

    -- xs holds every node from which p is not reached
    short : (k : ℕ) (xs : List ℕ) → length xs ≤ k → (p : ℕ) → Clear y g p
        → ((x : ℕ) → x < length g → Memᴰ x xs ⊎ Reach y g x p) → Short g k p
    short zero xs h p c u =
        split (ltb p (length g))
        (λ i. let less = without_lt p xs (inside xs p c u (ltb-true p (length g) i)) in absurd (omega arith))
        (λ o. ltb-false p (length g) o)
    short (suc k) xs h p c u =
        split (ltb p (length g))
        (λ i v m n.
        let r = arc-reached g p v m n in
        let less = without_lt p xs (inside xs p c u (ltb-true p (length g) i)) in
        short k (without p xs) (omega arith) (arc y v) (clear-reached p (arc y v) c r)
        (λ x l. ⊎_elim
        (λ j. split (eqb x p)
        (λ e. inr (subst (λ z. Reach y g z (arc y v)) (sym (eqb-true x p e)) r))
        (λ e. inl (without-keeps p x xs (eqb-false x p e) j)))
        (λ s. inr (Reach_trans s r))
        (u x l)))
        (λ o. short-outside g (suc k) p (ltb-false p (length g) o))

    pub clear-short : (p : ℕ) → Clear y g p → Short g (length g) p
    clear-short p c =
        short (length g) (below (length g)) (let h = length-below (length g) in omega arith) p c (λ x l. inl (in_below (length g) x l))
