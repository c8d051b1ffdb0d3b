-- The words of a run by their first tiles.
use Rattle.std.specs.Prelude.{Bool, true, false, List, [], ◌∷◌, map, ℕ, eqb, length}
use Rattle.laws.specs.Lists.{is_empty, has_entries, filtered, some_of}
use Rattle.graph.specs.Words.{Word}

-- a first tile, and what follows it in the words that begin with it
pub record Branch : Type 0 where
  pub first : ℕ
  pub rests : List Word

abbrev pub branch : ℕ → List Word → Branch
branch t us = record { first = t; rests = us }

-- with one word more before all others, whose first tile is t and whose rest is u
unfoldable pub branches_with : ℕ → Word → List Branch → List Branch
branches_with t u [] = branch t (u ∷ []) ∷ []
branches_with t u (b ∷ bs) = elim (eqb t b.first) [ true ↦ branch t (u ∷ b.rests) ∷ bs | false ↦ branch t (u ∷ []) ∷ b ∷ bs ]

unfoldable pub branches : List Word → List Branch
branches [] = []
branches ([] ∷ ws) = branches ws
branches ((t ∷ u) ∷ ws) = branches_with t u (branches ws)

-- how many nodes their run has
abbrev pub first_tiles : List Word → ℕ
first_tiles ws = length (branches ws)

-- whether the tile alone is a word
abbrev pub tile_alone : Branch → Bool
tile_alone b = some_of is_empty b.rests

-- the words of the run that the tile leads to
abbrev pub onward : Branch → List Word
onward b = filtered has_entries b.rests

-- the runs that a run leads to
unfoldable pub onwards : List Word → List (List Word)
onwards ws = filtered has_entries (map onward (branches ws))
