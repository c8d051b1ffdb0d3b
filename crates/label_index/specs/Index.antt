-- What is true of every `LabelIndex`, and what `index_labels` leaves and `match_at` asks for: proof matter. A reader needs only which label is taken,
-- `match_in` (Matches.antt). "found through an index of 256 entries by first byte" (02, C-13): the lines stand in order by first byte, then longest
-- label, then lower tile, and each first byte has a range there.
use Rattle.std.specs.Prelude.{◌≡◌, List, [], ◌∷◌, ℕ, suc, ◌+◌, ◌-◌, ◌*◌, ◌/◌, ◌≤◌, ◌<◌, ltb, length, get_or, set, take, drop}
use Rattle.std.proofs.Math.Option.{Option, none, some}
use Rattle.laws.specs.Sorting.{inserted, sorted}
use Rattle.label_index.specs.Labels.{Label, GoodLabel, record_of}

-- what stands past the last line
abbrev pub no_label : Label
no_label = (0, [])

abbrev pub label_at : List Label → ℕ → Label
label_at ls k = get_or ls k no_label

abbrev pub first_byte : Label → ℕ
first_byte l = get_or l.1 0 0

-- line k's number in the order: first byte, 15 less the label's length, tile, k
abbrev pub order_number : ℕ → Label → ℕ
order_number k l = ((first_byte l * 16 + (15 - length l.1)) * 64 + l.0) * 256 + k

-- the numbers of the lines from k on
unfoldable pub order_numbers : ℕ → List Label → List ℕ
order_numbers k [] = []
order_numbers k (l ∷ ls) = order_number k l ∷ order_numbers (suc k) ls

-- what a record of the file has
pub record SoundLabel (l : Label) : Type 0 where
  pub good : GoodLabel l
  pub byte : first_byte l < 256

-- the lines read so far: where each label stands in the file, and their numbers in order
pub record LabelsIndexed (file : List ℕ) (ls : List Label) (starts order : List ℕ) : Type 0 where
  pub few : length ls ≤ 256
  pub sound : (k : ℕ) → k < length ls → SoundLabel (label_at ls k)
  pub inside : (k : ℕ) → k < length ls → get_or starts k 0 + length (label_at ls k).1 ≤ length file
  pub stands : (k : ℕ) → k < length ls → take (length (label_at ls k).1) (drop (get_or starts k 0) file) ≡ (label_at ls k).1
  pub ordered : take (length ls) order ≡ sorted ltb (order_numbers 0 ls)

-- the number of a line that is no record
abbrev pub bad_number : ℕ → Option Label → Option ℕ
bad_number n none = some n
bad_number n (some l) = none

-- line n entered, which begins at place `start` of the file, where it is a record; else its number from 1 is given
pub record LineEntered (line : List ℕ) (start n : ℕ) (starts order starts' order' : List ℕ) (bad : Option ℕ) : Type 0 where
  pub read : bad ≡ bad_number (n + 1) (record_of line)
  pub byte : (l : Label) → record_of line ≡ some l → first_byte l < 256
  pub placed : (l : Label) → record_of line ≡ some l → starts' ≡ set starts n (start + (length line - length l.1))
  pub ordered : (l : Label) → record_of line ≡ some l → take (n + 1) order' ≡ inserted ltb (order_number n l) (take n order)

-- the first byte of the line at place i of the order
abbrev pub first_in : List ℕ → ℕ → ℕ
first_in order i = get_or order i 0 / 262144

-- each line stands in the range of its first byte: at or after its beginning, and before its end
abbrev pub RangesBegin : ℕ → List ℕ → List ℕ → Type 0
RangesBegin n order begin = (i : ℕ) → i < n → get_or begin (first_in order i) 0 ≤ i

abbrev pub RangesEnd : ℕ → List ℕ → List ℕ → Type 0
RangesEnd n order end = (i : ℕ) → i < n → i < get_or end (first_in order i) 0

-- no range ends past the lines
abbrev pub RangesWithin : ℕ → List ℕ → Type 0
RangesWithin n end = (b : ℕ) → get_or end b 0 ≤ n

-- the lines' first bytes are bytes
pub record FirstBytes (n : ℕ) (order : List ℕ) : Type 0 where
  pub lent : n ≤ length order
  pub bytes : (i : ℕ) → i < n → first_in order i < 256

-- the lines whose first byte is b stand from place `from` to place `to`
pub record FirstByteRange (n : ℕ) (order : List ℕ) (b from to : ℕ) : Type 0 where
  pub fits : to ≤ n
  pub all : (i : ℕ) → i < n → first_in order i ≡ b → (from ≤ i) × (i < to)

-- the index of the whole file
pub record IndexReady (file : List ℕ) (ls : List Label) (starts order begin end : List ℕ) : Type 0 where
  pub index : LabelsIndexed file ls starts order
  pub starts-lent : length ls ≤ length starts
  pub order-lent : length ls ≤ length order
  pub begin-lent : 256 ≤ length begin
  pub end-lent : 256 ≤ length end
  pub begun : RangesBegin (length ls) order begin
  pub ended : RangesEnd (length ls) order end
  pub within : RangesWithin (length ls) end
