-- `encode` meets its contract: a code point is its own byte, or stands in the table in its one place.
use Rattle.std.proofs.Common.{sym, arith}
use Rattle.windows1252.specs.Windows1252.{entries}
use Rattle.windows1252.proofs.Windows1252Laws.{itself-byte, from_80, entry-byte}
use Rattle.windows1252.proofs.PlaceLaws.{not_there}
use Rattle.windows1252.proofs.encode.Goals as goal

pub returns-then-is_itself : goal.returns-then-is_itself
returns-then-is_itself c = sym (itself-byte _ (sym c.if-is_itself.ensures))

pub returns-then-place-c : goal.returns-then-place-c
unfolding entries
returns-then-place-c c =
    let h = from_80 c.args.c (sym c.if-is_itself.ensures) in
    sym (entry-byte _ c.args.c (record { below = c.table_place-place.ensures.below; is = c.if-place-c.true; character = λ z. omega arith }))

pub returns-else-place-c : goal.returns-else-place-c
unfolding entries
returns-else-place-c c = not_there _ _ (sym c.if-is_itself.ensures) c.table_place-place.ensures c.if-place-c.false
