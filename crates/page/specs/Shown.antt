-- What the rows show, from document 02, C-11: "The caller names the node and the first number". A row's word is that of
-- `get_word_by_index`, with room for the word's columns.
use Rattle.std.specs.Prelude.{true, false, List, [], ◌∷◌, ℕ, zero, suc, eqb, ltb}
use Rattle.std.proofs.Math.Option.{Option, none, some}
use Rattle.answers.specs.Answers.{Answer, gives, nothing, refused}
use Rattle.graph.specs.Words.{Word}
use Rattle.lookup.specs.Steps.{Try, on, stop, ◌>>=◌}
use Rattle.lookup.specs.Walks.{word_by_index}
use Rattle.page.specs.Rows.{Widths, ShownWord}

-- the walk of a number as a row: its word, or none; where it is full "the walk stops at the first tile that doesn't fit", and the word has
-- more; any other refusal is the page's
abbrev pub shown_by : ℕ → Word × Answer → Try (Option ShownWord)
shown_by n (tiles, gives vs) = on (some (record { number = n; tiles = tiles; more = false }))
shown_by n (tiles, nothing) = on none
shown_by n (tiles, refused r vs) =
    elim (eqb r 16) [ true ↦ on (some (record { number = n; tiles = tiles; more = true })) | false ↦ stop (refused r vs) ]

module _ (w : Widths) (nodes counts : List ℕ) (p : ℕ) where
  -- none where the number "names no word, or is too wide"
  abbrev pub shown_at : ℕ → Try (Option ShownWord)
  shown_at n = elim (ltb w.greatest n) [ true ↦ on none | false ↦ shown_by n (word_by_index counts nodes w.word p n) ]

  -- so many rows from the number on: "from the first number that names no word, or is too wide, rows are blank"
  unfoldable pub shown_from : ℕ → ℕ → Try (List ShownWord)
  shown_from zero n = on []
  shown_from (suc rows) n =
      shown_at n >>= λ shown. elim shown [ none ↦ on [] | some e ↦ shown_from rows (suc n) >>= λ es. on (e ∷ es) ]
