-- What the answers of the calls say.
use Rattle.std.specs.Prelude.{◌≡◌, List, ℕ, ◌+◌, drop, Option as Maybe, None, Some}
use Rattle.std.proofs.Math.Option.{Option, none, some}
use Rattle.text.specs.Lines.{first_line, line_width}

-- the tile and how many digits it has
abbrev pub tile_in : Maybe (ℕ × ℕ) → Option (ℕ × ℕ)
tile_in (Some t) = some t
tile_in None = none

-- "the line handed out is that part of the caller's own text", and the cursor stands after its ending
pub record LineRead (text : List ℕ) (at after : ℕ) (line : List ℕ) : Type 0 where
  pub part : line ≡ first_line (drop at text)
  pub cursor : after ≡ at + line_width (drop at text)
