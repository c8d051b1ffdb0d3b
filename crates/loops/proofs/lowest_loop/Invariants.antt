-- `lowest_loop` meets its contract: the roots passed are met, and none is open when the next root is looked at.
use Rattle.std.proofs.Common.{◌≡◌, ◌≢◌}
use Rattle.loops.specs.NodeMarks.{mark}
use Rattle.loops.specs.Search.{search_left}
use Rattle.loops.proofs.RootLaws.{SearchRoots}
use Rattle.loops.proofs.lowest_loop.Given as goal

abbrev pub invariant-loop-root : goal.invariant-loop-root
invariant-loop-root l = SearchRoots l.g.nodes.now l.fn.counts l.fn.work l.counts l.work l.root l.s × (l.s.top ≡ 0)

abbrev pub invariant-loop-s : goal.invariant-loop-s
invariant-loop-s l = SearchRoots l.g.nodes.now l.fn.counts l.fn.work l.counts l.work l.root l.s × (mark l.work l.root ≢ 0)

abbrev pub decreases-loop-s : goal.decreases-loop-s
decreases-loop-s l = search_left l.g.nodes.now l.work l.s.top
