-- `pass_to` meets its contract: the node found is not before the run's first.
use Rattle.std.proofs.Common.{sym}
use Rattle.lookup.proofs.RunSearchLaws.{found_between}
use Rattle.lookup.proofs.by_tile.Numbered.pass_to.Goals as goal

pub words_between-requires : goal.words_between-requires
words_between-requires c = (found_between _ _ _ _ (sym (rw c.in-Some.is at c.in_ok-node.ensures))).0
