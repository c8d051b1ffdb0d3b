-- `largest_arc` meets its contract: the largest so far and the nodes from here on give the largest of all.
use Rattle.std.proofs.Common.{◌≡◌}
use Rattle.node.specs.Nodes.{kbwg}
use Rattle.graph.specs.Runs.{largest_arc}
use Rattle.graph.proofs.AlongNodes.{largest_from}
use Rattle.graph.proofs.largest_arc.Given as goal

abbrev pub invariant-loop-v : goal.invariant-loop-v
invariant-loop-v l = largest_from kbwg l.largest l.v-index l.nodes ≡ largest_arc kbwg l.nodes
