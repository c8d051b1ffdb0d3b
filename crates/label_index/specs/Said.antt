-- What the answers of the calls say.
use Rattle.std.specs.Prelude.{◌≡◌, List, ℕ, length, drop, Option as Maybe, Some, None, Result, Ok, Err}
use Rattle.std.proofs.Math.Option.{Option, none, some}
use Rattle.text.specs.Lines.{lines}
use Rattle.label_index.specs.Labels.{Label, bad_line, labels_in}
use Rattle.label_index.specs.Index.{LabelsIndexed, IndexReady}
use Rattle.label_index.specs.Matches.{Match}
use Rattle.label_index.specs.declared.refusal.BadLabelLine.{BadLabelLine}

-- a line's tile and label
abbrev pub label_in : Maybe (ℕ × ℕ) → List ℕ → Option Label
label_in (Some p) line = some (p.0, drop p.1 line)
label_in None line = none

-- the bad line's number
abbrev pub bad_in : {A : Type 0} → Result A BadLabelLine → Option ℕ
bad_in (Ok a) = none
bad_in (Err e) = some e.0

-- the label taken
abbrev pub matched : Maybe (ℕ × ℕ) → Option Match
matched (Some m) = some m
matched None = none

-- the label file is read: its first bad line, or the places and the order of all its lines
pub record FileRead (file starts order : List ℕ) (r : Result ℕ BadLabelLine) : Type 0 where
  pub bad : bad_in r ≡ bad_line 1 (lines file)
  pub index : (n : ℕ) → r ≡ Ok n → LabelsIndexed file (labels_in file) starts order
  pub count : (n : ℕ) → r ≡ Ok n → n ≡ length (labels_in file)

-- the index is made, or the file has a bad line
pub record FileIndexed (file starts order begin end : List ℕ) (r : Result ℕ BadLabelLine) : Type 0 where
  pub bad : bad_in r ≡ bad_line 1 (lines file)
  pub ready : (n : ℕ) → r ≡ Ok n → IndexReady file (labels_in file) starts order begin end
  pub count : (n : ℕ) → r ≡ Ok n → n ≡ length (labels_in file)
