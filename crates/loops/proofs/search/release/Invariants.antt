-- `search::release` meets its contract: the loop's invariant is the contract up to the place reached.
use Rattle.loops.specs.Search.{Released}
use Rattle.loops.proofs.search.release.Given as goal

abbrev pub invariant-loop-k : goal.invariant-loop-k
invariant-loop-k l = Released l.n l.initial.work l.i l.k l.work
