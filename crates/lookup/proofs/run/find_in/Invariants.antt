-- What is left to search gives the answer of the whole search.
use Rattle.std.proofs.Common.{◌≡◌, drop}
use Rattle.lookup.specs.Walks.{find_in}
use Rattle.lookup.proofs.run.find_in.Given as goal

abbrev pub invariant-loop-i : goal.invariant-loop-i
invariant-loop-i l = find_in (drop l.i l.nodes) l.i l.tile ≡ find_in (drop l.p l.nodes) l.p l.tile
