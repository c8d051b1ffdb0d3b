-- `inputs::copy_to` stores number after number: what is left to store makes the same list as all of them.
use Rattle.std.proofs.Common.{map}
use Rattle.stored.proofs.InputLaws.{LeftToStore}
use Rattle.stored.proofs.inputs.copy_to.Given as goal

abbrev pub invariant-loop-i : goal.invariant-loop-i
invariant-loop-i g l = LeftToStore l.numbers (map g.T.Number.value l.initial.list) (map g.T.Number.value l.list) l.i
