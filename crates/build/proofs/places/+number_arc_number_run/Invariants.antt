use mathlib.Core.Path.{◌≡◌}
use Prim.Native.Nat.{◌+◌, ◌-◌, ◌*◌, ◌≤◌}
use lib.ListN.{length}
use Rattle.block_record.specs.Record.{order_in}
use Rattle.shelf.specs.Shelf.{Shelf}
use Rattle.build.specs.Numbering.{Recorded}
use Rattle.build.proofs.NumberingLaws.{Along}
use Rattle.build.proofs.places.+number_arc_number_run.Given as goal

abbrev pub decreases-number_arc : goal.decreases-number_arc
decreases-number_arc l = 2 * l.chain_left + 1

abbrev pub decreases-number_run : goal.decreases-number_run
decreases-number_run l = 2 * l.chain_left

-- ---- number_run
abbrev pub invariant-number_run-loop-at : goal.invariant-number_run-loop-at
invariant-number_run-loop-at l =
    (length l.work ≡ length l.initial.work)
    × ((sh : Shelf) → Recorded sh l.n l.initial.work l.initial.tally → l.i ≤ length sh → Along sh l.n (l.chain_left - 1) (order_in l.n l.initial.work l.initial.tally) l.i l.initial.work l.work l.tally l.at)

abbrev pub decreases-number_run-loop-at : goal.decreases-number_run-loop-at
decreases-number_run-loop-at l = l.at
