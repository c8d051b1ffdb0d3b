-- What the code holds of the words that it has found: their tiles one after the other, and for each its size, that is how many tiles it
-- has, or one more than there are columns where it has more than that.
use Rattle.std.specs.Prelude.{◌≡◌, List, [], ◌∷◌, map, ℕ, suc, ◌+◌, ◌≤◌, min, ltb, length, take, drop}
use Rattle.laws.specs.Lists.{join_all}
use Rattle.page.specs.Rows.{Widths, ShownWord, page_widths, word_rows, row_of}

-- a word with the number and the size, whose tiles are the first of those left
abbrev pub held_word : ℕ → ℕ → List ℕ → ℕ → ShownWord
held_word columns n tiles size = record { number = n; tiles = take (min size columns) tiles; more = ltb columns size }

-- the words from a number on, by their sizes
unfoldable pub held : ℕ → ℕ → List ℕ → List ℕ → List ShownWord
held columns n tiles [] = []
held columns n tiles (s ∷ sizes) = held_word columns n tiles s ∷ held columns (suc n) (drop (min s columns) tiles) sizes

-- how many tiles they have
unfoldable pub held_tiles : ℕ → List ℕ → ℕ
held_tiles columns [] = 0
held_tiles columns (s ∷ sizes) = min s columns + held_tiles columns sizes

-- their rows
abbrev pub held_rows : Widths → List ℕ → ℕ → List ℕ → List ℕ → List ℕ
held_rows w labels n tiles sizes = join_all (map (row_of w labels) (held w.word n tiles sizes))

-- A row for each size, the tiles that the sizes say, and no number that is too large.
pub record IsHeld (first : ℕ) (tiles sizes : List ℕ) : Type 0 where
  pub rows : length sizes ≤ word_rows
  pub tally : held_tiles page_widths.word sizes ≡ length tiles
  pub narrow : first + length sizes ≤ page_widths.greatest + 1
