-- `walk` meets its contract: the roots passed are done, and every step meets a node or ends one.
use Rattle.graph.specs.Counting.{count_limit}
use Rattle.count.proofs.Roots.{Roots, steps_left}
use Rattle.count.proofs.walk.walk.Given as goal

abbrev pub invariant-loop-root : goal.invariant-loop-root
invariant-loop-root l = Roots count_limit l.g.nodes.now l.fn.counts l.fn.work l.counts l.work l.root 0

abbrev pub invariant-loop-size : goal.invariant-loop-size
invariant-loop-size l = Roots count_limit l.g.nodes.now l.fn.counts l.fn.work l.counts l.work l.root l.size

abbrev pub decreases-loop-size : goal.decreases-loop-size
decreases-loop-size l = steps_left l.g.nodes.now l.work
