-- `close_word` meets its contract. The loop's invariant: the word is closed from depth d on, whatever shelf its tails are those of.
use Rattle.tails.proofs.CloseLaws.{Closes}
use Rattle.tails.proofs.close_word.Given as goal

abbrev pub invariant-loop-d : goal.invariant-loop-d
invariant-loop-d l = Closes l.word l.kept l.initial.behind l.n l.initial.dict l.count l.behind l.dict l.d l.tails
