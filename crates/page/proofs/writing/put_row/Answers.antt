-- `writing::put_row` meets its contract: a row is blanks, and over them the number, the labels and the last column.
use native.Mathlib.Omega.{arith}
use Prim.Native.Nat.{◌≤◌}
use lib.ListN.{length}
use Rattle.decimal.specs.Decimal.{decimal}
use Rattle.endian.specs.Puts.{put-size}
use Rattle.page.specs.Rows.{page_widths}
use Rattle.page.proofs.ColumnsLaws.{page_wide, digits-fit}
use Rattle.page.proofs.PutLaws.{row_put}
use Rattle.page.proofs.writing.put_row.Goals as goal
use Rattle.page.proofs.writing.put_row.Goals.{Start}

digits-room : (s : Start) → length (decimal s.args.number) ≤ page_widths.number
digits-room s = digits-fit page_widths page_wide s.args.number (omega arith)

pub put_digits-requires : goal.put_digits-requires
put_digits-requires c =
    let s = (goal.at.put_digits-requires c).Start in
    (omega (arith, digits-room s), omega (arith, s.requires.page_widths_in_bounds.0, put-size c.put_blanks-end.ensures))

pub returns : goal.returns
returns c =
    let s = (goal.at.returns c).Start in
    row_put page_widths s.args.labels.now
    (record { number = s.args.number; tiles = s.args.tiles.now; more = s.args.more })
    (record { digits = digits-room s; tiles = s.requires.page_widths_in_bounds.1 })
    c.put_blanks-end.ensures
    c.put_digits.ensures
    c.put_labels.ensures
    c.more_mark.ensures
    c.put_byte.ensures
