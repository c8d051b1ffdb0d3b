-- From document 02, C-11: "A viewer's page must never break a column, for every graph and number." Whatever is lent, a page that is
-- written has every row in its columns and the number's digits whole.
use Rattle.std.specs.Prelude.{◌≡◌, ◌⊎◌, List, [], ◌∷◌, ◌++◌, ℕ, suc, ◌+◌, ◌*◌, ◌^◌, ◌≤◌, ◌<◌, length, take, drop}
use Rattle.laws.specs.Lists.{All}
use Rattle.decimal.specs.Decimal.{decimal, from_decimal}
use Rattle.export.specs.Written.{Written}
use Rattle.page.specs.Rows.{Widths, word_rows, blank, blanks, left_aligned, row_length, page_length, blank_row}

-- the page, in the bytes that the call leaves, and a row of it
abbrev pub page_in : Widths → Written → List ℕ
page_in w left = take (page_length w) left.bytes

abbrev pub row_at : Widths → List ℕ → ℕ → List ℕ
row_at w page r = take (row_length w) (drop (r * row_length w) page)

-- the numbers' columns are enough for every number that is not too wide
abbrev pub WideEnough : Widths → Type 0
WideEnough w = (0 < w.number) × (w.greatest < 10 ^ w.number)

-- "20 to 7E hexadecimal"
abbrev pub Printable : ℕ → Type 0
Printable b = (0x20 ≤ b) × (b ≤ 0x7E)

-- "a word number right-aligned": blanks, then the digits that write n in decimal, all of them
pub record NumberColumn (columns n : ℕ) (text : List ℕ) : Type 0 where
  pub before : ℕ
  pub digits : List ℕ
  pub are : text ≡ blanks before ++ digits
  pub size : before + length digits ≡ columns
  pub each : All (λ b. (0x30 ≤ b) × (b ≤ 0x39)) digits
  pub value : from_decimal 0 digits ≡ n
  pub shortest : digits ≡ decimal n

-- "the word's labels", then blanks
pub record WordColumn (columns : ℕ) (text : List ℕ) : Type 0 where
  pub labels : List ℕ
  pub after : ℕ
  pub are : text ≡ labels ++ blanks after
  pub size : length labels + after ≡ columns

-- "a word number right-aligned in 10 columns, a blank, the word's labels in 28 columns, and a last column that is `+` where the word has
-- more tiles and blank otherwise": a `+` stands only after a full column
pub record InColumns (w : Widths) (n : ℕ) (row : List ℕ) : Type 0 where
  pub number : List ℕ
  pub word : List ℕ
  pub mark : ℕ
  pub are : row ≡ number ++ blank ∷ (word ++ mark ∷ [])
  pub number-column : NumberColumn w.number n number
  pub word-column : WordColumn w.word word
  pub last-column : ((mark ≡ 0x2B) × (word-column.after ≡ 0)) ⊎ (mark ≡ blank)
  pub size : length row ≡ row_length w

-- a page whose first word has the number `first`
pub record Columns (w : Widths) (title : List ℕ) (first : ℕ) (page : List ℕ) : Type 0 where
  pub size : length page ≡ page_length w
  pub bytes : All Printable page
  -- "Row 0 is a title"
  pub title-fits : length title ≤ row_length w
  pub title-row : row_at w page 0 ≡ left_aligned (row_length w) title
  -- so many rows show a word, each with its number
  pub shown : ℕ
  pub most : shown ≤ word_rows
  pub words : (r : ℕ) → r < shown → InColumns w (first + r) (row_at w page (suc r))
  -- the rest are blank
  pub rest : (r : ℕ) → shown ≤ r → r < word_rows → row_at w page (suc r) ≡ blank_row w
