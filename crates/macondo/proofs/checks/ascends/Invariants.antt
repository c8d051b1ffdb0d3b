-- The loop's invariant: the nodes left ascend from the lowest tile that may come next just where all do.
use Rattle.std.specs.Prelude.{◌≡◌, drop}
use Rattle.node.specs.Nodes.{kbwg}
use Rattle.graph.specs.Runs.{ascends}
use Rattle.macondo.proofs.Tests.{ascends_from}
use Rattle.macondo.proofs.checks.ascends.Given as goal

abbrev pub invariant-loop-v : goal.invariant-loop-v
invariant-loop-v l = ascends_from l.lowest (drop l.v-index l.nodes) ≡ ascends kbwg l.nodes
