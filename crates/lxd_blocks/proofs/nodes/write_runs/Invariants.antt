-- `write_runs` meets its contract: what is left to write, after what is written, is the whole. Each node goes on along its run, or to the
-- next run.
use Prim.Native.Nat.{suc, ◌+◌, ◌-◌, ◌*◌}
use lib.ListN.{length}
use Rattle.lxd_blocks.proofs.PlacedLaws.{RunsWriting}
use Rattle.lxd_blocks.proofs.nodes.write_runs.Given as goal

abbrev pub invariant-loop-i : goal.invariant-loop-i
invariant-loop-i l = RunsWriting l.g.graph.nodes.now l.g.labels.now l.work l.blocks l.initial.file l.file l.at l.i l.p

abbrev pub decreases-loop-i : goal.decreases-loop-i
decreases-loop-i l = (l.blocks - l.i) * suc (length l.g.graph.nodes.now) + (length l.g.graph.nodes.now - l.p)
