-- The loop's invariant: the first j blocks have the numbers of their sets.
use Rattle.letter_sets.specs.Letters.{set_by}
use Rattle.letter_sets.proofs.NumberLaws.{SetsSoFar}
use Rattle.letter_sets.proofs.number_sets.Given as goal

abbrev pub invariant-loop-j : goal.invariant-loop-j
invariant-loop-j l = SetsSoFar (set_by l.ranks l.nodes) l.n l.blocks l.fn.work l.list l.sets l.count l.j
