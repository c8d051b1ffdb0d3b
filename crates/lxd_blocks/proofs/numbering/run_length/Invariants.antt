-- `run_length` meets its contract: the nodes passed and those of the run left are the run.
use Rattle.std.proofs.Common.{◌≡◌, ◌+◌, ◌-◌, ◌≤◌, ◌<◌, length}
use Rattle.lxd_file.specs.File.{run_size}
use Rattle.lxd_blocks.proofs.numbering.run_length.Given as goal

abbrev pub invariant-loop-last : goal.invariant-loop-last
invariant-loop-last l =
    (l.p ≤ l.last) × (l.last < length l.g.nodes.now) × (l.passed ≡ l.last - l.p + 1) × (l.passed + run_size l.g.nodes.now l.last ≡ 1 + run_size l.g.nodes.now l.p)

abbrev pub decreases-loop-last : goal.decreases-loop-last
decreases-loop-last l = length l.g.nodes.now - l.last
