-- The loop's invariant: the blocks left, written where they go, give them all.
use Rattle.std.specs.Prelude.{◌+◌}
use Rattle.macondo_writing.proofs.BlockNodes.{BlocksFrom}
use Rattle.macondo_writing.proofs.nodes.write_nodes.Given as goal

abbrev pub invariant-loop-j : goal.invariant-loop-j
invariant-loop-j l = BlocksFrom l.g.nodes.now l.g.labels.now l.t.ranks.now l.t.work.now l.t.counts.blocks l.initial.file (l.at + 4) l.j l.file l.w
