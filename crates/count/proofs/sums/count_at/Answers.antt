-- `count_at` meets its contract: both nodes that p leads to are inside the graph, so their counts are lent.
use Rattle.std.proofs.Common.{arith}
use Rattle.graph.specs.ChecksLaws.{fit-holds}
use Rattle.count.proofs.sums.count_at.Goals as goal

pub words_by_arc-below-requires : goal.words_by_arc-below-requires
words_by_arc-below-requires c = let h = (fit-holds _ c.args.g.fit).steps.arcs _ c.requires.p_in_bounds in omega (arith, c.requires)

pub words_by_run-after-requires : goal.words_by_run-after-requires
words_by_run-after-requires c = λ e. let h = (fit-holds _ c.args.g.fit).steps.runs _ c.requires.p_in_bounds e in omega (arith, c.requires)
