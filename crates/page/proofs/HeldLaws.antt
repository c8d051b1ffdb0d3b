-- The words that are held, one by one: the next of those left, and their rows.
use mathlib.Core.Path.{◌≡◌, refl, sym, ap, ◌∙◌}
use mathlib.Core.List.{List, [], ◌∷◌, ◌++◌, map}
use Prim.Native.Nat.{ℕ, suc, ◌+◌, ◌<◌, ◌≤◌, min}
use native.Mathlib.Numerals.{add-one}
use native.Mathlib.Omega.{arith}
use lib.ListN.{length, get_or, take, drop, length-take, length-drop, take-append-drop, drop_of_length-le}
use lib.Seq.{drop-cons, drop-drop}
use Rattle.laws.specs.Lists.{All, join_all, none_left}
use Rattle.page.specs.Rows.{Widths, row_of}
use Rattle.page.specs.RowsLaws.{HasRoom}
use Rattle.page.specs.Columns.{WideEnough}
use Rattle.page.proofs.ColumnsLaws.{digits-fit}
use Rattle.page.specs.Page.{shown_tiles}
use Rattle.page.specs.Held.{held_word, held, held_tiles, held_rows}

module _ (sizes : List ℕ) (row : ℕ) where
  pub tiles-next : (columns : ℕ) → row < length sizes
      → held_tiles columns (drop row sizes) ≡ min (get_or sizes row 0) columns + held_tiles columns (drop (row + 1) sizes)
  unfolding held_tiles
  tiles-next columns h = rw (drop-cons sizes row 0 h, add-one)

  held_next : (columns n : ℕ) (tiles : List ℕ) (from end : ℕ) → row < length sizes → end ≡ from + min (get_or sizes row 0) columns
      → held columns (n + row) (drop from tiles) (drop row sizes)
      ≡ held_word columns (n + row) (drop from tiles) (get_or sizes row 0)
      ∷ held columns (n + (row + 1)) (drop end tiles) (drop (row + 1) sizes)
  unfolding held
  held_next columns n tiles from end h e =
      let m = min (get_or sizes row 0) columns in
      let number : suc (n + row) ≡ n + (row + 1) = omega arith in
      let rest : drop m (drop from tiles) ≡ drop end tiles = drop-drop m from tiles ∙ ap (λ k. drop k tiles) (sym e) in
      rw (drop-cons sizes row 0 h, number, rest, add-one)

  pub rows_next : (w : Widths) (labels : List ℕ) (n : ℕ) (tiles : List ℕ) (from end : ℕ) → row < length sizes
      → end ≡ from + min (get_or sizes row 0) w.word
      → held_rows w labels (n + row) (drop from tiles) (drop row sizes)
      ≡ row_of w labels (held_word w.word (n + row) (drop from tiles) (get_or sizes row 0))
      ++ held_rows w labels (n + (row + 1)) (drop end tiles) (drop (row + 1) sizes)
  rows_next w labels n tiles from end h e = ap (λ ws. join_all (map (row_of w labels) ws)) (held_next w.word n tiles from end h e)

  pub rows-done : (w : Widths) (labels : List ℕ) (n : ℕ) (tiles : List ℕ) → length sizes ≤ row
      → held_rows w labels n tiles (drop row sizes) ≡ []
  unfolding held
  rows-done w labels n tiles h = rw (drop_of_length-le sizes h)

-- ---- all of them
pub held-length : (columns n : ℕ) (tiles sizes : List ℕ) → length (held columns n tiles sizes) ≡ length sizes
unfolding held
held-length columns n tiles [] = refl
held-length columns n tiles (s ∷ sizes) = ap suc (held-length columns (suc n) (drop (min s columns) tiles) sizes)

-- each has room in its row, where no number is too large
pub held-room : (w : Widths) → WideEnough w → (n : ℕ) (tiles sizes : List ℕ) → n + length sizes ≤ w.greatest + 1 → All (HasRoom w) (held w.word n tiles sizes)
unfolding held
held-room w wide n tiles [] h = tt
held-room w wide n tiles (s ∷ sizes) h = (
  record { digits = digits-fit w wide n (omega arith); tiles = omega (arith, length-take (min s w.word) tiles) },
  held-room w wide (suc n) (drop (min s w.word) tiles) sizes (omega arith),
)

-- their tiles are all that are held
pub held-tiles : (columns n : ℕ) (tiles sizes : List ℕ) → held_tiles columns sizes ≡ length tiles
    → shown_tiles (held columns n tiles sizes) ≡ tiles
unfolding held held_tiles
held-tiles columns n tiles [] h = sym (none_left tiles (sym h))
held-tiles columns n tiles (s ∷ sizes) h =
    let m = min s columns in
    let rest = held-tiles columns (suc n) (drop m tiles) sizes (omega (arith, h, length-drop m tiles)) in
    ap (take m tiles ++◌) rest ∙ take-append-drop m tiles
