-- `run_length` meets its contract: the tails passed and those of the run that are left make the whole run.
use Prim.Native.Nat.{◌≤◌}
use lib.ListN.{length}
use Rattle.shelf.specs.Shelf.{Shelf}
use Rattle.tails.specs.Tails.{TailsIn}
use Rattle.build.proofs.RunLaws.{Passing}
use Rattle.build.proofs.places.run_length.Given as goal

abbrev pub invariant-loop-at : goal.invariant-loop-at
invariant-loop-at l = (sh : Shelf) → TailsIn l.n l.work sh → l.i ≤ length sh → Passing sh l.i l.at l.passed

abbrev pub decreases-loop-at : goal.decreases-loop-at
decreases-loop-at l = l.at
