-- `last_ends` meets its contract: no node is no end, else the last one decides.
use Rattle.std.proofs.Common.{ap, ◌∙◌, arith}
use Rattle.node.specs.Nodes.{kbwg, is_end}
use Rattle.graph.specs.ChecksLaws.{last_of}
use Rattle.graph.proofs.AlongNodes.{last_none}
use Rattle.graph.proofs.last_ends.Goals as goal

pub returns-in-Some : goal.returns-in-Some
returns-in-Some c =
    let last = c.in-Some.ensures.item in
    c.is_end.ensures ∙ ap (is_end kbwg) (last.3.1 0) ∙ last_of kbwg c.args.nodes.now last.3.0

pub returns-in-None : goal.returns-in-None
returns-in-None c = let none = c.in-None.ensures.item in last_none kbwg _ (omega arith)
