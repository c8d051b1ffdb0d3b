-- `start_node` meets its contract: a graph has node 0, whose arc leads to a node.
use Rattle.std.proofs.Common.{arith}
use Rattle.graph.specs.ChecksLaws.{fit-holds, start-inside}
use Rattle.lxd.proofs.start_node.Goals as goal

pub bounds-g-0 : goal.bounds-g-0
bounds-g-0 c = let two = (fit-holds c.args.g.nodes.now c.args.g.fit).two in omega arith

pub returns-clause-inside : goal.returns-clause-inside
returns-clause-inside c =
    let h = start-inside (fit-holds c.args.g.nodes.now c.args.g.fit) 0 (omega arith) in
    omega (arith, c.arc_index.ensures)
