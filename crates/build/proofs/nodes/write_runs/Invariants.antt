-- `write_runs` meets its contract: what is left to write, after what is written, is the whole. Each tail goes on along its run, or to the next
-- run.
use Prim.Native.Nat.{suc, ◌+◌, ◌-◌, ◌*◌, min}
use Rattle.shelf.specs.Shelf.{Shelf}
use Rattle.build.specs.Writing.{WritesFrom}
use Rattle.build.proofs.WritingLaws.{RunsWriting}
use Rattle.build.proofs.nodes.write_runs.Given as goal

abbrev pub invariant-loop-j : goal.invariant-loop-j
invariant-loop-j l = (sh : Shelf) (h : WritesFrom sh l.n l.work l.blocks) → RunsWriting h l.initial.nodes l.nodes l.at l.j l.i

abbrev pub decreases-loop-j : goal.decreases-loop-j
decreases-loop-j l = (l.blocks - l.j) * suc l.n + min l.i l.n
