-- `index_of_word` meets its contract: the node that the first tile leads to is lent.
use Rattle.std.proofs.Common.{sym, arith}
use Rattle.lookup.proofs.PassedLaws.{passed-first-lent}
use Rattle.lookup.proofs.by_tile.Numbered.index_of_word.Goals as goal

pub offset_bounds-self-node : goal.offset_bounds-self-node
offset_bounds-self-node c = omega (arith, passed-first-lent _ _ _ _ (sym (rw c.in-Some.is at c.in_ok-node.ensures)))

pub bounds-self-node : goal.bounds-self-node
bounds-self-node c = passed-first-lent _ _ _ _ (sym (rw c.in-Some.is at c.in_ok-node.ensures))
