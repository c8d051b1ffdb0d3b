-- The label file: "A label file gives one record a line: tile 1 to 63 (decimal, no leading zero), tab, label of 1 to 15 bytes; a tile may have
-- several lines, and the file at most 256." (02, C-13)
use Rattle.std.specs.Prelude.{Bool, true, false, ◌&&◌, List, [], ◌∷◌, ℕ, suc, ◌≤◌, eqb, leb, length, drop}
use Rattle.std.proofs.Math.Option.{Option, none, some}
use Rattle.laws.specs.Cases.{is_some}
use Rattle.text.specs.Lines.{lines}
use Rattle.text.specs.Tiles.{leading_tile}

-- a tile and its label
abbrev pub Label : Type 0
Label = ℕ × List ℕ

-- "tile 1 to 63 .., label of 1 to 15 bytes"
pub record GoodLabel (l : Label) : Type 0 where
  pub tile_low : 1 ≤ l.0
  pub tile_high : l.0 ≤ 63
  pub some_bytes : 1 ≤ length l.1
  pub few_bytes : length l.1 ≤ 15

-- the label where the test holds
abbrev pub label_where : Bool → Label → Option Label
label_where true l = some l
label_where false l = none

-- "tab, label of 1 to 15 bytes" after a tile's digits: the label is all that stands after the tab
unfoldable pub after_digits : ℕ → List ℕ → Option Label
after_digits t [] = none
after_digits t (b ∷ label) = label_where (eqb b 0x09 && (leb 1 (length label) && leb (length label) 15)) (t, label)

-- what follows the tile that the line begins with
abbrev pub after_tile : List ℕ → Option (ℕ × ℕ) → Option Label
after_tile line none = none
after_tile line (some t) = after_digits t.0 (drop t.1 line)

-- the record of a line (`record-written`, `written-record`)
unfoldable pub record_of : List ℕ → Option Label
record_of line = after_tile line (leading_tile line)

-- "27 for the first bad line of the label file with its line number from 1, a 257th line included": the first bad of the lines from number n on
unfoldable pub bad_line : ℕ → List (List ℕ) → Option ℕ
bad_line n [] = none
bad_line n (l ∷ ls) = elim (is_some (record_of l) && leb n 256) [ true ↦ bad_line (suc n) ls | false ↦ some n ]

-- before the others, where the line is a record
abbrev pub onto : Option Label → List Label → List Label
onto none ls = ls
onto (some l) ls = l ∷ ls

-- the records of the lines
unfoldable pub records_of : List (List ℕ) → List Label
records_of [] = []
records_of (l ∷ ls) = onto (record_of l) (records_of ls)

-- the records of a label file
abbrev pub labels_in : List ℕ → List Label
labels_in file = records_of (lines file)
