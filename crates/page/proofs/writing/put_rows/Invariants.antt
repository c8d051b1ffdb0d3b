-- `writing::put_rows` meets its contract: what is left to put, put where it goes, gives all of it; the next row is that of the next word.
use Rattle.std.proofs.Common.{◌≡◌, ◌+◌, length, drop}
use Rattle.endian.specs.Putting.{Putting}
use Rattle.page.specs.Rows.{page_widths}
use Rattle.page.specs.Held.{held_tiles, held_rows}
use Rattle.page.proofs.writing.put_rows.Given as goal

abbrev pub invariant-loop-row : goal.invariant-loop-row
invariant-loop-row l = record {
  tiles : l.from + held_tiles page_widths.word (drop l.row l.words.sizes.now) ≡ length l.words.tiles.now;
  left : Putting (held_rows page_widths l.labels l.words.first l.words.tiles.now l.words.sizes.now) l.initial.out l.at-2
      (held_rows page_widths l.labels (l.words.first + l.row) (drop l.from l.words.tiles.now) (drop l.row l.words.sizes.now)) l.out l.at;
}
