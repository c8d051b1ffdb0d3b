-- `writing::put_rows` meets its contract: what is left to put, put where it goes, gives all of it; the next row is that of the next word.
use native.Mathlib.Omega.{arith}
use mathlib.Core.Path.{◌≡◌, ap, ◌∙◌}
use mathlib.Core.List.{List, ◌++◌}
use Prim.Native.Nat.{ℕ, ◌+◌, ◌-◌, ◌≤◌, ◌<◌, min}
use lib.Dec.{ltb}
use lib.ListN.{length, get_or, take, drop, length-take}
use Rattle.endian.specs.Putting.{put-room}
use Rattle.endian.specs.Puts.{next-put, all-put}
use Rattle.page.specs.Rows.{page_widths, ShownWord, row_length, row_of}
use Rattle.page.specs.Held.{held_word, held_tiles, held_rows}
use Rattle.page.proofs.HeldLaws.{tiles-next, rows_next, rows-done}
use Rattle.page.specs.RowsLaws.{row-length}
use Rattle.page.proofs.ColumnsLaws.{page_wide, digits-fit}
use Rattle.page.proofs.writing.put_rows.Goals as goal
use Rattle.page.proofs.writing.put_rows.Goals.{After-shown_tiles, In-loop-row, Start}

-- a turn of the loop, once the size is read and cut to the columns
module _ (s : After-shown_tiles) where
  abbrev turn : In-loop-row
  turn = (goal.at.After-shown_tiles s).In-loop-row

  abbrev start : Start
  start = (goal.at.After-shown_tiles s).Start

  abbrev sizes : List ℕ
  sizes = start.args.words.sizes.now

  abbrev tiles : List ℕ
  tiles = start.args.words.tiles.now

  abbrev labels : List ℕ
  labels = start.args.labels.now

  abbrev row : ℕ
  row = turn.loop-row.row

  abbrev from : ℕ
  from = turn.loop-row.from

  abbrev size : ℕ
  size = get_or sizes row 0

  abbrev shown : ℕ
  shown = s.shown_tiles.result

  there : row < length sizes
  there = turn.loop-row-test.true

  -- the tiles of the words from here on are those that are left; so the word's are there, and after it
  rest-tiles : (from + shown) + held_tiles page_widths.word (drop (row + 1) sizes) ≡ length tiles
  rest-tiles = omega (arith, turn.loop-row.invariant.tiles, tiles-next sizes row page_widths.word there, s.shown_tiles.ensures)

  -- the next word
  abbrev number : ℕ
  number = start.args.words.first + row

  abbrev next : ShownWord
  next = record { number = number; tiles = take (from + shown - from) (drop from tiles); more = ltb page_widths.word size }

  is-next : held_word page_widths.word number (drop from tiles) size ≡ next
  is-next =
      let e : min size page_widths.word ≡ from + shown - from = omega (arith, s.shown_tiles.ensures) in
      ap (λ k. record { number = number; tiles = take k (drop from tiles); more = ltb page_widths.word size }) e

  fits : length next.tiles ≤ page_widths.word
  fits = omega (arith, s.shown_tiles.ensures, length-take (from + shown - from) (drop from tiles))

  long : length (row_of page_widths labels next) ≡ row_length page_widths
  long =
      let digits = digits-fit page_widths page_wide number (omega (arith, there, start.args.words.fit.narrow)) in
      row-length page_widths labels next (record { digits = digits; tiles = fits })

  -- its row, and those after it
  abbrev rest : List ℕ
  rest = held_rows page_widths labels (start.args.words.first + (row + 1)) (drop (from + shown) tiles) (drop (row + 1) sizes)

  splits : held_rows page_widths labels number (drop from tiles) (drop row sizes) ≡ row_of page_widths labels next ++ rest
  splits =
      rows_next sizes row page_widths labels start.args.words.first tiles from (from + shown) there (ap (from +◌) s.shown_tiles.ensures)
      ∙ ap (λ e. row_of page_widths labels e ++ rest) is-next

  room : turn.loop-row.at + row_length page_widths ≤ length turn.loop-row.out
  room = omega (arith, long, put-room turn.loop-row.invariant.left (row_of page_widths labels next) rest splits start.requires.room)

pub slice_bounds-put_row-end : goal.slice_bounds-put_row-end
slice_bounds-put_row-end c = omega (arith, rest-tiles (goal.at.slice_bounds-put_row-end c).After-shown_tiles)

pub put_row-at-requires-clause-page_widths_in_bounds : goal.put_row-at-requires-clause-page_widths_in_bounds
put_row-at-requires-clause-page_widths_in_bounds c =
    let s = (goal.at.put_row-at-requires-clause-page_widths_in_bounds c).After-shown_tiles in (room s, fits s)

pub loop-row-preserved : goal.loop-row-preserved
loop-row-preserved c = let s = (goal.at.loop-row-preserved c).After-shown_tiles in
    record { tiles = rest-tiles s; left = next-put (rest s) (turn s).loop-row.invariant.left (splits s) c.put_row-at.ensures }

pub returns : goal.returns
returns c = let a = c.args in
    let l = c.loop-row in
    all-put l.invariant.left (rows-done a.words.sizes.now l.row page_widths a.labels.now (a.words.first + l.row) (drop l.from a.words.tiles.now) c.loop-row-test.false)
