-- The lines of a text: "Lines end as in `text::lines`" (02, C-13), of which the original says: "each ends at "\n", "\r\n", or a lone "\r" ..,
-- the ending left off, and the last with or without one".
use Rattle.std.specs.Prelude.{Bool, true, false, ◌&&◌, ◌||◌, List, [], ◌∷◌, ℕ, ◌+◌, eqb, length, drop}

-- the bytes that end a line: 0A and 0D
abbrev pub is_ending : ℕ → Bool
is_ending b = eqb b 0x0A || eqb b 0x0D

-- 0D 0A, one ending
abbrev pub is_pair : ℕ → ℕ → Bool
is_pair b c = eqb b 0x0D && eqb c 0x0A

-- a byte more at the front of the first line
abbrev pub on_first : ℕ → List (List ℕ) → List (List ℕ)
on_first b [] = (b ∷ []) ∷ []
on_first b (l ∷ ls) = (b ∷ l) ∷ ls

-- the lines from byte b on: `pair`, it ends an empty line with the byte after it; `ending`, by itself; else it is the first of its line
abbrev pub lines_from : (pair ending : Bool) → ℕ → (after_pair next : List (List ℕ)) → List (List ℕ)
lines_from true ending b after_pair next = [] ∷ after_pair
lines_from false true b after_pair next = [] ∷ next
lines_from false false b after_pair next = on_first b next

-- the lines of a text (`visits-lines`, `visits-only`)
unfoldable pub lines : List ℕ → List (List ℕ)
lines [] = []
lines (b ∷ []) = lines_from false (is_ending b) b [] []
lines (b ∷ c ∷ s) = lines_from (is_pair b c) (is_ending b) b (lines s) (lines (c ∷ s))

-- ---- the first of them (`lines-first`)
-- its ending left off
unfoldable pub first_line : List ℕ → List ℕ
first_line [] = []
first_line (b ∷ s) = elim (is_ending b) [ true ↦ [] | false ↦ b ∷ first_line s ]

-- how many bytes the ending that a text begins with takes
unfoldable pub ending_width : List ℕ → ℕ
ending_width [] = 0
ending_width (b ∷ []) = 1
ending_width (b ∷ c ∷ s) = elim (is_pair b c) [ true ↦ 2 | false ↦ 1 ]

-- how many bytes the first line takes, its ending counted
unfoldable pub line_width : List ℕ → ℕ
line_width s = length (first_line s) + ending_width (drop (length (first_line s)) s)
