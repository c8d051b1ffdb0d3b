-- A whole line that is a case has a number at least, and no more than there is room for.
use Rattle.std.specs.Prelude.{ℕ, ◌+◌, ◌≤◌, ◌<◌, ◌≡◌, refl, Bool, true, false, List, length, set, ltb}
use Rattle.std.proofs.Common.{arith, ltb-true, length-set}
use Rattle.stored.specs.Inputs.{pick}
use Rattle.stored.specs.Lines.{line_ended, line_completed}
use Rattle.stored.specs.declared.lines.Line.{Line}
use Rattle.stored.specs.declared.lines.Part.{Part}
use Rattle.stored.specs.declared.lines.Part.TheVariants.{Start, Number, Blank, Spoilt}
use Rattle.stored.specs.declared.lines.Ended.{Ended}
use Rattle.stored.specs.declared.lines.Ended.TheVariants.{Case, Malformed}

abbrev pub FillsCase : Ended → List ℕ → Type 0
FillsCase Ended.Comment numbers = Unit {0}
FillsCase (Case count) numbers = (1 ≤ count) × (count ≤ length numbers)
FillsCase Malformed numbers = Unit {0}

module _ (count : ℕ) (numbers : List ℕ) where
  whole_fills : (part : Part) → FillsCase (line_ended (length numbers) count part) (line_completed count part numbers)
  whole_fills Start = tt
  whole_fills (Number value) = kept (ltb count (length numbers)) (ltb-true _ _)
    where
      kept : (room : Bool) → (room ≡ true → count < length numbers) → FillsCase (pick room (Case (count + 1)) Malformed) (set numbers count value)
      kept true h = let l = h refl in (omega arith, simp length-set (omega arith))
      kept false h = tt
  whole_fills Blank = tt
  whole_fills Part.Comment = tt
  whole_fills Spoilt = tt

pub ended_fills :
    (line : Line) (before : List ℕ) {r : Ended} {after : List ℕ} → r ≡ line_ended (length before) line.count line.part →
    after ≡ line_completed line.count line.part before → FillsCase r after
ended_fills line before e f = rw (e, f) (whole_fills line.count before line.part)
