-- The order in which a writer meets blocks, and their places, from document 01, "Files for other programs"; over blocks of any kind with a
-- test whether two are the same.
use Rattle.std.specs.Prelude.{Bool, true, false, List, [], ◌∷◌, ◌++◌, ℕ, zero, suc, ◌+◌, eqb}
use Rattle.laws.specs.Lists.{some_of}

-- each of the list, one after the other, on what the one before it left
abbrev pub each : {A : Type 0} → (List A → A → List A) → List A → List A → List A
each f seen [] = seen
each f seen (q ∷ qs) = each f (f seen q) qs

module _ {A : Type 0} (same : A → A → Bool) where
  -- "depth first, each before its children"; "the chain left falls from 64": the blocks seen, and after them those met from p
  unfoldable pub met : (A → List A) → ℕ → List A → A → List A
  met children zero seen p = seen
  met children (suc left) seen p =
      elim (some_of (same p) seen) [ true ↦ seen | false ↦ each (met children left) (seen ++ p ∷ []) (children p) ]

  -- the place of p's block, where the blocks of the list stand one after the other from a place on
  unfoldable pub block_at : (A → ℕ) → ℕ → List A → A → ℕ
  block_at size at [] p = at
  block_at size at (q ∷ qs) p = elim (same p q) [ true ↦ at | false ↦ block_at size (at + size q) qs p ]

-- what is met through an arc, which may be none
unfoldable pub met_by : (ℕ → List ℕ) → ℕ → List ℕ → ℕ → List ℕ
met_by children left seen p = elim (eqb p 0) [ true ↦ seen | false ↦ met eqb children left seen p ]

-- the nodes that the blocks take together
unfoldable pub total : {A : Type 0} → (A → ℕ) → List A → ℕ
total size [] = 0
total size (q ∷ qs) = size q + total size qs
