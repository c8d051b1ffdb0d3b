-- `close_words` meets its contract. The loop's invariant: whatever lexicon the list is that of, the pass has come to one of its words, and the
-- dictionary has the tails of the words after it.
use Rattle.tails.proofs.TurnLaws.{Passes}
use Rattle.tails.proofs.close_words.Given as goal

abbrev pub invariant-loop-tails : goal.invariant-loop-tails
invariant-loop-tails l = Passes l.list l.n l.marks l.dict l.at l.behind l.tails

abbrev pub decreases-loop-tails : goal.decreases-loop-tails
decreases-loop-tails l = l.at
