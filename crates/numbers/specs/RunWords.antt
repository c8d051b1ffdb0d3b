-- The words of a run, node by node, and which word of a list has a number.
use Rattle.std.specs.Prelude.{◌≡◌, refl, true, false, ◌≢◌, List, [], ◌∷◌, ◌++◌, map, ℕ, suc, ◌+◌, ◌-◌, ◌≤◌, ◌<◌, eqb, length, get_or}
use Rattle.std.proofs.Common.{ap, ◌∙◌, eqb-true, length-append, get_or-append-add}
use native.Mathlib.Omega.{arith}
use Rattle.std.proofs.lemmas.Bool.{eqb-false}
use Rattle.std.proofs.Math.ListN.{get_or-append}
use Rattle.laws.specs.Cases.{split}
use Rattle.node.specs.Nodes.{tile, arc, accepts, accepts_bit, kbwg, is_end}
use Rattle.graph.specs.Runs.{Graph, node}
use Rattle.graph.specs.Words.{Word, spelled, words, count}
use Rattle.graph.specs.Loops.{Clear}
use Rattle.graph.proofs.CountEquationLaws.{words-end, words-on}

pub accepts-one : (v : ℕ) → accepts kbwg v ≡ true → accepts_bit kbwg v ≡ 1
accepts-one v e = eqb-true (accepts_bit kbwg v) 1 e

pub accepts-zero : (v : ℕ) → accepts kbwg v ≡ false → accepts_bit kbwg v ≡ 0
accepts-zero v e = let n : accepts_bit kbwg v ≢ 1 = eqb-false (accepts_bit kbwg v) 1 e in omega arith

-- ---- the words spelled at one node
module _ (g : Graph) where
  abbrev W : ℕ → List Word
  W q = words kbwg g q

  -- how many words a node spells
  abbrev pub size : ℕ → ℕ
  size v = length (spelled kbwg W v)

  -- the words spelled at a node, in the four cases
  pub spelled-alone : (v : ℕ) → accepts kbwg v ≡ true → eqb (arc kbwg v) 0 ≡ true → spelled kbwg W v ≡ (tile kbwg v ∷ []) ∷ []
  unfolding spelled
  spelled-alone v a z = rw (a, z, spelled)

  pub spelled_both : (v : ℕ) → accepts kbwg v ≡ true → eqb (arc kbwg v) 0 ≡ false → spelled kbwg W v ≡ (tile kbwg v ∷ []) ∷ map (tile kbwg v ∷◌) (W (arc kbwg v))
  unfolding spelled
  spelled_both v a z = rw (a, z, spelled)

  pub spelled_none : (v : ℕ) → accepts kbwg v ≡ false → eqb (arc kbwg v) 0 ≡ true → spelled kbwg W v ≡ []
  unfolding spelled
  spelled_none v a z = rw (a, z, spelled)

  pub spelled-arc : (v : ℕ) → accepts kbwg v ≡ false → eqb (arc kbwg v) 0 ≡ false → spelled kbwg W v ≡ map (tile kbwg v ∷◌) (W (arc kbwg v))
  unfolding spelled
  spelled-arc v a z = rw (a, z, spelled)

  pub own-word : (v : ℕ) → accepts kbwg v ≡ true → (0 < size v) × (get_or (spelled kbwg W v) 0 [] ≡ tile kbwg v ∷ [])
  unfolding spelled
  own-word v e = rw (e, spelled) (omega arith, refl)

  pub own-fits : (v : ℕ) → accepts_bit kbwg v ≤ size v
  own-fits v =
      split (accepts kbwg v)
      (λ a. let o = accepts-one v a in let w = (own-word v a).0 in omega arith)
      (λ a. let o = accepts-zero v a in omega arith)

  -- ---- along the run
  module _ (p : ℕ) (h : p < length g) (c : Clear kbwg g p) where
    -- a word of the first node of the run
    pub first_word : (idx : ℕ) → idx < size (node g p) → (idx < count kbwg g p) × (get_or (W p) idx [] ≡ get_or (spelled kbwg W (node g p)) idx [])
    first_word idx l =
        split (is_end kbwg (node g p))
        (λ e. rw (words-end kbwg g p h c e) (l, refl))
        (λ e. rw (words-on kbwg g p h c e) (rw length-append (omega arith), get_or-append (spelled kbwg W (node g p)) (W (suc p)) [] idx l))

    pub size_fits : size (node g p) ≤ count kbwg g p
    size_fits =
        split (is_end kbwg (node g p))
        (λ e. let l = ap length (words-end kbwg g p h c e) in omega arith)
        (λ e. let l = ap length (words-on kbwg g p h c e) ∙ length-append (spelled kbwg W (node g p)) (W (suc p)) in omega arith)

  -- a word of the rest of the run
  module _ (p v : ℕ) (e : W p ≡ spelled kbwg W v ++ W (suc p)) where
    pub count_splits : count kbwg g p ≡ size v + count kbwg g (suc p)
    count_splits = ap length e ∙ length-append (spelled kbwg W v) (W (suc p))

    pub at-later : (idx : ℕ) → size v ≤ idx → get_or (W p) idx [] ≡ get_or (W (suc p)) (idx - size v) []
    at-later idx k =
        let i : idx ≡ size v + (idx - size v) = omega arith in
        ap (λ j. get_or (W p) j []) i ∙ ap (λ l. get_or l (size v + (idx - size v)) []) e ∙ get_or-append-add (spelled kbwg W v) (W (suc p)) (idx - size v) []
