-- Rows of one length stand at its multiples, and each row of a page has the length of a row where its number and its tiles have room.
use Rattle.std.specs.Prelude.{◌≡◌, ℕ, zero, suc, ◌+◌, ◌-◌, ◌*◌, ◌≤◌, ◌<◌, take, drop, replicate}
use Rattle.std.proofs.Common.{sym, ◌∙◌, zero-mul, arith, take_at}
use Rattle.std.proofs.Math.Path.{ap}
use mathlib.Core.List.{List, [], ◌∷◌, ◌++◌, map}
use Rattle.std.proofs.Math.ListN.{length, get_or, length-append, length-map, length-replicate, get_or-replicate, get_or-append}
use Rattle.std.proofs.Math.Seq.{drop-append-add, get_or-append-add}
use Rattle.laws.specs.Lists.{All, all_append, join_all}
use Rattle.laws.specs.Members.{get_or-map-in}
use Rattle.decimal.specs.Decimal.{decimal}
use Rattle.page.specs.Rows.{Widths, ShownWord, word_rows, blank, blanks, more_mark, left_aligned, right_aligned, label_of}
use Rattle.page.specs.Rows.{row_length, page_length, number_column, word_column, row_of, blank_row, page_rows, page_text}

-- ---- lists of one length, one after the other
module _ (n : ℕ) where
  pub joined_length : (rows : List (List ℕ)) → All (λ r. length r ≡ n) rows → length (join_all rows) ≡ length rows * n
  joined_length [] h = sym (zero-mul n)
  joined_length (x ∷ rows) h = omega (arith, h.0, joined_length rows h.1, length-append x (join_all rows))

  pub joined_at : (rows : List (List ℕ)) → All (λ r. length r ≡ n) rows → (r : ℕ) → r < length rows
      → take n (drop (r * n) (join_all rows)) ≡ get_or rows r []
  joined_at [] h r k = absurd (omega arith)
  joined_at (x ∷ rows) h zero k = rw (zero-mul n) (take_at x (join_all rows) n h.0)
  joined_at (x ∷ rows) h (suc r) k =
      let e : suc r * n ≡ length x + r * n = omega (arith, h.0) in
      ap (λ i. take n (drop i (x ++ join_all rows))) e ∙ ap (take n) (drop-append-add x (join_all rows) (r * n)) ∙ joined_at rows h.1 r (omega arith)

pub all_replicate : {A : Type 0} (P : A → Type 0) (n : ℕ) (a : A) → P a → All P (replicate n a)
all_replicate P zero a h = tt
all_replicate P (suc n) a h = (h, all_replicate P n a h)

pub all-joined : {A : Type 0} (P : A → Type 0) (rows : List (List A)) → All (All P) rows → All P (join_all rows)
all-joined P [] h = tt
all-joined P (x ∷ rows) h = all_append P x (join_all rows) h.0 (all-joined P rows h.1)

-- ---- the length of a row
pub left-length : (n : ℕ) (text : List ℕ) → length text ≤ n → length (left_aligned n text) ≡ n
left-length n text h = omega (arith, length-append text (blanks (n - length text)), length-replicate (n - length text) blank)

pub right-length : (n : ℕ) (text : List ℕ) → length text ≤ n → length (right_aligned n text) ≡ n
right-length n text h = omega (arith, length-append (blanks (n - length text)) text, length-replicate (n - length text) blank)

-- a word that has room in its row
pub record HasRoom (w : Widths) (e : ShownWord) : Type 0 where
  pub digits : length (decimal e.number) ≤ w.number
  pub tiles : length e.tiles ≤ w.word

module _ (w : Widths) (labels : List ℕ) where
  pub row-length : (e : ShownWord) → HasRoom w e → length (row_of w labels e) ≡ row_length w
  row-length e h =
      let text = map (label_of labels) e.tiles in
      let column = word_column w labels e.tiles in
      let mark = more_mark e.more ∷ [] in
      let number = right-length w.number (decimal e.number) h.digits in
      let word = left-length w.word text (omega (arith, length-map e.tiles (label_of labels), h.tiles)) in
      omega (arith, number, word, length-append (number_column w e.number) (blank ∷ (column ++ mark)), length-append column mark)

  words-sized : (es : List ShownWord) → All (HasRoom w) es → All (λ r. length r ≡ row_length w) (map (row_of w labels) es)
  words-sized [] h = tt
  words-sized (e ∷ es) h = (row-length e h.0, words-sized es h.1)

  -- ---- a page whose title has room, and at most as many words as rows, each with room in its own
  module _ (title : List ℕ) (es : List ShownWord) where
    abbrev shown_rows : List (List ℕ)
    shown_rows = map (row_of w labels) es

    abbrev free_rows : List (List ℕ)
    free_rows = replicate (word_rows - length es) (blank_row w)

    pub word_row : (r : ℕ) (z : ShownWord) → r < length es → get_or (page_rows w labels title es) (suc r) [] ≡ row_of w labels (get_or es r z)
    unfolding page_rows
    word_row r z h =
        get_or-append shown_rows free_rows [] r (omega (arith, length-map es (row_of w labels))) ∙ get_or-map-in (row_of w labels) es r z [] h

    pub blank-row : (r : ℕ) → length es ≤ r → r < word_rows → get_or (page_rows w labels title es) (suc r) [] ≡ blank_row w
    unfolding page_rows
    blank-row r h k =
        let e : r ≡ length shown_rows + (r - length es) = omega (arith, length-map es (row_of w labels)) in
        ap (λ i. get_or (shown_rows ++ free_rows) i []) e ∙ get_or-append-add shown_rows free_rows (r - length es) []
        ∙ get_or-replicate (word_rows - length es) (r - length es) (blank_row w) [] (omega arith)

    module _ (most : length es ≤ word_rows) (short : length title ≤ row_length w) (room : All (HasRoom w) es) where
      rows-sized : All (λ r. length r ≡ row_length w) (page_rows w labels title es)
      unfolding page_rows
      rows-sized = (
        left-length (row_length w) title short,
        all_append _ shown_rows free_rows (words-sized es room)
            (all_replicate _ (word_rows - length es) (blank_row w) (length-replicate (row_length w) blank)),
      )

      rows_are : length (page_rows w labels title es) ≡ 1 + word_rows
      unfolding page_rows
      rows_are =
          omega (arith, length-append shown_rows free_rows, length-map es (row_of w labels), length-replicate (word_rows - length es) (blank_row w))

      pub page-length : length (page_text w labels title es) ≡ page_length w
      page-length = joined_length (row_length w) (page_rows w labels title es) rows-sized ∙ ap (◌* row_length w) rows_are

      pub page-row : (r : ℕ) → r ≤ word_rows
          → take (row_length w) (drop (r * row_length w) (page_text w labels title es)) ≡ get_or (page_rows w labels title es) r []
      page-row r h = joined_at (row_length w) (page_rows w labels title es) rows-sized r (omega (arith, rows_are))
