-- The rows of a page, from document 02, C-11: "A page is 24 rows of 40 bytes, blanks filled in."
use Rattle.std.specs.Prelude.{Bool, true, false, List, [], ◌∷◌, ◌++◌, map, ℕ, ◌+◌, ◌-◌, ◌*◌, length, get_or, replicate}
use Rattle.laws.specs.Lists.{join_all}
use Rattle.decimal.specs.Decimal.{decimal}
use Rattle.graph.specs.Words.{Word}
use Rattle.graph.specs.Counting.{count_limit}

-- The columns of a number and those of a word's labels, and the greatest number.
pub record Widths : Type 0 where
  pub number : ℕ
  pub word : ℕ
  pub greatest : ℕ

-- "a word number right-aligned in 10 columns", "the word's labels in 28 columns"; a number over the limit of counts names no word
abbrev pub page_widths : Widths
page_widths = record { number = 10; word = 28; greatest = count_limit }

-- the rows below the title
abbrev pub word_rows : ℕ
word_rows = 23

abbrev pub blank : ℕ
blank = 0x20

abbrev pub blanks : ℕ → List ℕ
blanks n = replicate n blank

abbrev pub left_aligned : ℕ → List ℕ → List ℕ
left_aligned n text = text ++ blanks (n - length text)

abbrev pub right_aligned : ℕ → List ℕ → List ℕ
right_aligned n text = blanks (n - length text) ++ text

-- "a last column that is `+` where the word has more tiles and blank otherwise"
abbrev pub more_mark : Bool → ℕ
more_mark true = 0x2B
more_mark false = blank

-- "Labels are one number a tile, the blank's first" (01)
abbrev pub label_of : List ℕ → ℕ → ℕ
label_of labels t = get_or labels t 0

-- What a row shows: a number, the tiles of its word that have room, and whether the word has more.
pub record ShownWord : Type 0 where
  pub number : ℕ
  pub tiles : Word
  pub more : Bool

module _ (w : Widths) where
  -- number, blank, labels, last column
  abbrev pub row_length : ℕ
  row_length = w.number + 1 + w.word + 1

  abbrev pub page_length : ℕ
  page_length = (1 + word_rows) * row_length

  -- the tiles that a page has room for
  abbrev pub tile_room : ℕ
  tile_room = word_rows * w.word

  abbrev pub number_column : ℕ → List ℕ
  number_column n = right_aligned w.number (decimal n)

  abbrev pub word_column : List ℕ → Word → List ℕ
  word_column labels tiles = left_aligned w.word (map (label_of labels) tiles)

  -- "a word number right-aligned in 10 columns, a blank, the word's labels in 28 columns, and a last column"
  abbrev pub row_of : List ℕ → ShownWord → List ℕ
  row_of labels e = number_column e.number ++ blank ∷ (word_column labels e.tiles ++ more_mark e.more ∷ [])

  abbrev pub blank_row : List ℕ
  blank_row = blanks row_length

  -- "Row 0 is a title", then the words, then blank rows
  unfoldable pub page_rows : List ℕ → List ℕ → List ShownWord → List (List ℕ)
  page_rows labels title es = left_aligned row_length title ∷ (map (row_of labels) es ++ replicate (word_rows - length es) blank_row)

  abbrev pub page_text : List ℕ → List ℕ → List ShownWord → List ℕ
  page_text labels title es = join_all (page_rows labels title es)
