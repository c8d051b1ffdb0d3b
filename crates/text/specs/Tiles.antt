-- A tile in a text: "tile 1 to 63 (decimal, no leading zero)" (02, C-13).
use Rattle.std.specs.Prelude.{Bool, true, false, ◌&&◌, not, List, [], ◌∷◌, ℕ, ◌+◌, ◌-◌, ◌*◌, eqb, leb, cond, Option as Maybe, None, Some}
use Rattle.std.proofs.Math.Option.{Option, none, some}

-- the digits, 30 to 39 hexadecimal
abbrev pub is_digit : ℕ → Bool
is_digit b = leb 0x30 b && leb b 0x39

-- the value of the digit that a text begins with
unfoldable pub first_digit : List ℕ → Maybe ℕ
first_digit [] = None
first_digit (b ∷ s) = cond (is_digit b) (Some (b - 0x30)) None

-- the tile where it is one, with the bytes that it takes
abbrev pub tile_within : ℕ → ℕ → Option (ℕ × ℕ)
tile_within t width = elim (leb 1 t && leb t 63) [ true ↦ some (t, width) | false ↦ none ]

-- the tile of a first digit and what follows it
unfoldable pub tile_after : ℕ → List ℕ → Option (ℕ × ℕ)
tile_after d [] = tile_within d 1
tile_after d (b ∷ s) = elim (is_digit b) [ true ↦ tile_within (d * 10 + (b - 0x30)) 2 | false ↦ tile_within d 1 ]

-- the tile that a text begins with, and how many digits it has; no tile has a third (`leading-written`, `written-leads`)
unfoldable pub leading_tile : List ℕ → Option (ℕ × ℕ)
leading_tile [] = none
leading_tile (b ∷ s) = elim (is_digit b && not (eqb b 0x30)) [ true ↦ tile_after (b - 0x30) s | false ↦ none ]
