-- `checking::check_list` meets its contract: the words passed refuse nothing, and the rows of the bytes left answer for the list.
use Rattle.std.proofs.Common.{length}
use Rattle.word_list.proofs.CheckLaws.{Checking}
use Rattle.word_list.proofs.checking.check_list.Given as goal

abbrev pub invariant-loop-before : goal.invariant-loop-before
invariant-loop-before l = Checking l.list l.before l.left

abbrev pub decreases-loop-before : goal.decreases-loop-before
decreases-loop-before l = length l.left
