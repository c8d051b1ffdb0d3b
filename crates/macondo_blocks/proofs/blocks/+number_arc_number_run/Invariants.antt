-- The loop's invariant: the arcs before the one at hand are walked.
use Rattle.std.specs.Prelude.{◌+◌, ◌*◌}
use Rattle.macondo_blocks.proofs.BlockNumberingLaws.{ArcWalk}
use Rattle.macondo_blocks.proofs.blocks.+number_arc_number_run.Given as goal

abbrev pub decreases-number_arc : goal.decreases-number_arc
decreases-number_arc l = 2 * l.chain_left + 1

abbrev pub decreases-number_run : goal.decreases-number_run
decreases-number_run l = 2 * l.chain_left

abbrev pub invariant-number_run-loop-arc : goal.invariant-number_run-loop-arc
invariant-number_run-loop-arc l =
    ArcWalk l.g.nodes.now l.g.labels.now l.chain_left l.p l.arcs l.initial.work l.initial.sum l.work l.sum l.runs l.arc-index
