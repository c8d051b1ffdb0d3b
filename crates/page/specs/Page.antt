-- The call, from document 02, C-11: "Checks: 19 for a long title, 11 for a page under 960 bytes, 14 and 15 of word numbers, 21 for a
-- shown tile without a label, then 26 where a title byte or a shown label is outside 20 to 7E hexadecimal; nothing is written on any."
use Rattle.std.specs.Prelude.{Bool, true, ◌||◌, List, [], ◌∷◌, ◌++◌, map, ℕ, ltb, leb, length, drop}
use Rattle.std.proofs.Math.Option.{Option, none, some}
use Rattle.laws.specs.Lists.{some_of, join_all}
use Rattle.answers.specs.Answers.{Answer, gives, refusing, Row, first_of}
use Rattle.graph.specs.Words.{Word}
use Rattle.export.specs.Written.{Written}
use Rattle.lookup.specs.Steps.{Try, on, stop, ◌>>=◌}
use Rattle.page.specs.Rows.{Widths, ShownWord, word_rows, row_length, page_length, label_of, page_text}
use Rattle.page.specs.Shown.{shown_from}

-- the tiles that stand on the page
abbrev pub shown_tiles : List ShownWord → Word
shown_tiles es = join_all (map (λ e. e.tiles) es)

-- "outside 20 to 7E hexadecimal"
abbrev pub outside : ℕ → Bool
outside b = ltb b 0x20 || ltb 0x7E b

-- a row of checks as a step: it goes on where nothing is refused
abbrev pub checking : Option Answer → Try Bool
checking none = on true
checking (some r) = stop r

-- "19 for a long title, 11 for a page under 960 bytes"
abbrev pub lent_row : Widths → List ℕ → ℕ → Row
lent_row w title lent = (ltb (row_length w) (length title), refusing 19 []) ∷ (ltb lent (page_length w), refusing 11 []) ∷ []

-- "21 for a shown tile without a label, then 26 where a title byte or a shown label is outside 20 to 7E hexadecimal"
abbrev pub label_row : List ℕ → List ℕ → Word → Row
label_row labels title tiles =
    (some_of (λ t. leb (length labels) t) tiles, refusing 21 [])
    ∷ (some_of outside title || some_of (λ t. outside (label_of labels t)) tiles, refusing 26 [])
    ∷ []

-- a page that can be shown
abbrev pub judged : List ℕ → List ℕ → List ShownWord → Try (List ShownWord)
judged labels title es = checking (first_of (label_row labels title (shown_tiles es))) >>= λ _. on es

-- "nothing is written on any"; bytes past the page stay
abbrev pub page_written : Widths → List ℕ → List ℕ → List ℕ → Try (List ShownWord) → Written
page_written w labels title lent (stop r) = record { answer = r; bytes = lent }
page_written w labels title lent (on es) = record { answer = gives []; bytes = page_text w labels title es ++ drop (page_length w) lent }

module _ (w : Widths) (nodes counts labels title : List ℕ) (p first : ℕ) where
  -- what the page shows, for so many bytes lent
  unfoldable pub page_words : ℕ → Try (List ShownWord)
  page_words lent = do
    _ ← checking (first_of (lent_row w title lent))
    es ← shown_from w nodes counts p word_rows first
    judged labels title es

  abbrev pub write_page : List ℕ → Written
  write_page lent = page_written w labels title lent (page_words (length lent))
