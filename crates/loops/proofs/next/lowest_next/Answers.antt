-- `next::lowest_next` meets its contract: a node leads along its arc and along its run, and to nothing else.
use Rattle.std.proofs.Common.{arith}
use Rattle.graph.specs.ChecksLaws.{fit-holds}
use Rattle.loops.proofs.NextLaws.{next_in_run, next-by-arc}
use Rattle.loops.proofs.next.lowest_next.Goals as goal

pub mark_by_arc-by_arc-requires : goal.mark_by_arc-by_arc-requires
mark_by_arc-by_arc-requires c = let h = (fit-holds _ c.args.g.fit).steps.arcs _ c.requires.p_in_bounds in omega (arith, c.requires)

pub mark_by_run-by_run-requires : goal.mark_by_run-by_run-requires
mark_by_run-by_run-requires c =
    λ e. let h = (fit-holds _ c.args.g.fit).steps.runs _ c.requires.p_in_bounds e in omega (arith, c.requires)

pub returns-then-by_run-by_arc : goal.returns-then-by_run-by_arc
returns-then-by_run-by_arc c =
    next_in_run _ c.args.work.now _ c.requires.p_in_bounds _ _ c.mark_by_arc-by_arc.ensures c.mark_by_run-by_run.ensures c.if-by_run-by_arc.true

pub returns-else-by_run-by_arc : goal.returns-else-by_run-by_arc
returns-else-by_run-by_arc c =
    next-by-arc _ c.args.work.now _ c.requires.p_in_bounds _ _ c.mark_by_arc-by_arc.ensures c.mark_by_run-by_run.ensures
    _ c.arc_index.ensures c.if-by_run-by_arc.false
