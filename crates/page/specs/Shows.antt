-- From document 02, C-11: each row shows "the word's labels in 28 columns, and a last column that is `+` where the word has more tiles";
-- "from the first number that names no word [..] rows are blank". On a graph that counts, lent with its own counts, the rows are the words
-- of their numbers.
use Rattle.std.specs.Prelude.{◌≡◌, true, false, List, [], ◌∷◌, ℕ, zero, suc, ◌+◌, ◌≤◌, ◌<◌, ltb, length, take}
use Rattle.answers.specs.Answers.{gives}
use Rattle.node.specs.Nodes.{kbwg}
use Rattle.graph.specs.Runs.{Graph}
use Rattle.graph.specs.Words.{Word, count}
use Rattle.lookup.specs.Steps.{on}
use Rattle.numbers.specs.WordNumbers.{word_at}
use Rattle.page.specs.Rows.{Widths, ShownWord, word_rows, row_of, blank_row}
use Rattle.page.specs.Shown.{shown_from}
use Rattle.page.specs.Page.{write_page}
use Rattle.page.specs.Columns.{page_in, row_at}

-- a word as a row shows it: its first tiles, and whether it has more than there are columns
abbrev pub shown_of : Widths → ℕ → Word → ShownWord
shown_of w n u = record { number = n; tiles = take w.word u; more = ltb w.word (length u) }

-- at most so many words, with the numbers from n on that are below the count
unfoldable pub words_shown : Widths → Graph → ℕ → ℕ → ℕ → List ShownWord
words_shown w g p zero n = []
words_shown w g p (suc rows) n =
    elim (ltb n (count kbwg g p)) [ true ↦ shown_of w n (word_at g p n) ∷ words_shown w g p rows (suc n) | false ↦ [] ]

-- the rows of a page: that of number first + r shows its word where it is below the count, and is blank from the count on
pub record RowsShow (w : Widths) (g : Graph) (p : ℕ) (labels : List ℕ) (first : ℕ) (page : List ℕ) : Type 0 where
  pub words : (r : ℕ) → r < word_rows → first + r < count kbwg g p
      → row_at w page (suc r) ≡ row_of w labels (shown_of w (first + r) (word_at g p (first + r)))
  pub rest : (r : ℕ) → r < word_rows → count kbwg g p ≤ first + r → row_at w page (suc r) ≡ blank_row w

pub record PageShows (w : Widths) (g : Graph) (nodes counted : List ℕ) (p : ℕ) (labels title : List ℕ) (first : ℕ) (lent : List ℕ) : Type 0 where
  -- the walks refuse nothing, and find the words
  pub walks : shown_from w nodes counted p word_rows first ≡ on (words_shown w g p word_rows first)
  -- a page that is written shows them
  pub rows : let left = write_page w nodes counted labels title p first lent in left.answer ≡ gives [] → RowsShow w g p labels first (page_in w left)
