-- Which label is taken: "The longest label that matches at a place is taken, then the lower tile" (02, C-13). `MatchLaws.Taken` says
-- the same in words.
use Rattle.std.specs.Prelude.{Bool, true, false, ◌&&◌, ◌||◌, List, [], ◌∷◌, ℕ, eqb, ltb, length}
use Rattle.std.proofs.Math.Option.{Option, none, some}
use Rattle.label_index.specs.Labels.{Label}

-- whether a text starts with a label: the label matches where the text stands
unfoldable pub starts_with : List ℕ → List ℕ → Bool
starts_with [] s = true
starts_with (a ∷ l) [] = false
starts_with (a ∷ l) (b ∷ s) = eqb a b && starts_with l s

-- a tile and how many bytes its label has
abbrev pub Match : Type 0
Match = ℕ × ℕ

abbrev pub match_of : Label → Match
match_of l = (l.0, length l.1)

-- the longer one, then the lower tile
abbrev pub better : Match → Match → Bool
better m k = ltb k.1 m.1 || (eqb k.1 m.1 && ltb m.0 k.0)

-- the first where the test holds, else the second
abbrev pub chosen : Bool → Match → Match → Option Match
chosen true m k = some m
chosen false m k = some k

-- the better of a match and of what the others give
abbrev pub or_better : Match → Option Match → Option Match
or_better m none = some m
or_better m (some k) = chosen (better m k) m k

-- a label more: where it matches, it may be the better one
abbrev pub also_match : Bool → Match → Option Match → Option Match
also_match true m rest = or_better m rest
also_match false m rest = rest

-- what is taken of the labels where text s stands
unfoldable pub match_in : List Label → List ℕ → Option Match
match_in [] s = none
match_in (l ∷ ls) s = also_match (starts_with l.1 s) (match_of l) (match_in ls s)
