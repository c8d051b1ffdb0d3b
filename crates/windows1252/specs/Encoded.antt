-- Where a code point is looked up in the table, and what that answers, as the option that `byte_of` gives.
use Rattle.std.specs.Prelude.{◌≡◌, ℕ, ◌<◌, Option as Maybe, None, Some}
use Rattle.std.proofs.Math.Option.{Option, none, some}
use Rattle.windows1252.specs.Windows1252.{StandsAt}

-- a place of the table, and where the code point stands if it does; of one that does not the choice is the program's
pub record OnlyPlace (c place : ℕ) : Type 0 where
  pub below : place < 32
  pub only : (i : ℕ) → StandsAt i c → place ≡ i

abbrev pub encoded : Maybe ℕ → Option ℕ
encoded (Some b) = some b
encoded None = none
