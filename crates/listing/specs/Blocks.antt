-- The output in blocks: the lines of some numbers at a time, by the walk that names a number's word.
use Rattle.std.specs.Prelude.{Bool, true, false, ◌&&◌, List, [], ◌++◌, ℕ, zero, suc, ◌+◌, ◌-◌, ◌/◌, min}
use Rattle.answers.specs.Answers.{Answer, gives, nothing, refused}
use Rattle.graph.specs.Words.{Word}
use Rattle.listing.specs.Lines.{line, refusal_line}

-- the tiles put for a number, and the answer
abbrev pub NumberWalk : Type 0
NumberWalk = ℕ → Word × Answer

-- what is printed of number i: the line of its word, or of the refusal met
abbrev pub line_for : ℕ → Word → Answer → List ℕ
line_for i w (gives vs) = line i w
line_for i w nothing = []
line_for i w (refused n vs) = refusal_line n

-- "A refusal .. ends the output"
abbrev pub goes_on : Answer → Bool
goes_on (gives vs) = true
goes_on nothing = false
goes_on (refused n vs) = false

-- 10 digits, a tab, 256 tiles of 2 digits with a space between them, and the line's end
abbrev pub longest : ℕ
longest = 779

-- What a block holds, and the number to go on from.
pub record Block : Type 0 where
  pub bytes : List ℕ
  pub next : ℕ

-- the numbers of one block: as many as there is room for the longest lines, or all that are left
abbrev pub numbers_in : ℕ → ℕ → ℕ → ℕ
numbers_in count next room = min (count - next) (room / longest)

module _ (walk : NumberWalk) where
  -- the lines of k numbers from i on
  unfoldable pub lines_of : ℕ → ℕ → List ℕ
  lines_of i zero = []
  lines_of i (suc k) = line_for i (walk i).0 (walk i).1 ++ elim (goes_on (walk i).1) [ true ↦ lines_of (suc i) k | false ↦ [] ]

  -- whether each of them has a word
  unfoldable pub all_words : ℕ → ℕ → Bool
  all_words i zero = true
  all_words i (suc k) = goes_on (walk i).1 && all_words (suc i) k

  -- after a refusal no number is left
  unfoldable pub block : ℕ → ℕ → ℕ → Block
  block count next room =
      let k = numbers_in count next room in
      record { bytes = lines_of next k; next = elim (all_words next k) [ true ↦ next + k | false ↦ count ] }
