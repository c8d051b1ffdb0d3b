use Rattle.std.proofs.Common.{◌+◌, ◌-◌, ◌*◌, ◌<◌, eqb, length}
use Rattle.export.specs.Blocks.{met}
use Rattle.export.specs.Starts.{run_of, arcs_from}
use Rattle.block_record.specs.Record.{order_in}
use Rattle.lxd_blocks.proofs.NumberingLaws.{Along}
use Rattle.lxd_blocks.proofs.numbering.+number_arc_number_run.Given as goal

abbrev pub decreases-number_arc : goal.decreases-number_arc
decreases-number_arc l = 2 * l.chain_left + 1

abbrev pub decreases-number_run : goal.decreases-number_run
decreases-number_run l = 2 * l.chain_left

abbrev pub invariant-number_run-loop-child : goal.invariant-number_run-loop-child
invariant-number_run-loop-child l =
    (l.at < length l.g.nodes.now)
    × Along l.g.nodes.now (l.chain_left - 1) l.p l.fn.work l.work
    (met eqb (arcs_from l.g.nodes.now) l.chain_left (order_in (length l.g.nodes.now) l.fn.work l.fn.t) l.p) l.sum (run_of l.g.nodes.now l.at)

abbrev pub decreases-number_run-loop-child : goal.decreases-number_run-loop-child
decreases-number_run-loop-child l = length l.g.nodes.now - l.at
