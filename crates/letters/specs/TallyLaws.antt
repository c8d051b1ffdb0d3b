-- A tally of at most 64 entries passes the row of the alpha sets.
use Rattle.std.specs.Prelude.{◌≡◌, List, ℕ, ◌≤◌, length}
use Rattle.std.proofs.Common.{◌∙◌, le-ltb}
use Rattle.std.proofs.Math.Option.{none}
use Rattle.answers.specs.Answers.{first_of}
use Rattle.answers.specs.RowLaws.{row-passes, row_ends}
use Rattle.letters.specs.AlphaSets.{tally_row}

pub tally-fits : (tally : List ℕ) → length tally ≤ 64 → first_of (tally_row tally) ≡ none
tally-fits tally h = row-passes _ _ _ (le-ltb 64 (length tally) h) ∙ row_ends
