-- `graph_node` meets its contract: the arc's place is one of 24 bits, and flags and tile are below it.
use mathlib.Core.Path.{◌≡◌, ap, ◌∙◌}
use native.Mathlib.Omega.{arith}
use Rattle.node.specs.Nodes.{kbwg, arc}
use Rattle.block_record.specs.Record.{child_in}
use Rattle.build.proofs.nodes.graph_node.Goals as goal
use Rattle.build.proofs.nodes.graph_node.Goals.{After-child_place, Start}

module _ (c : After-child_place) where
  abbrev asked : Start
  asked = (goal.at.After-child_place c).Start

  place : c.child_place.result ≡ child_in asked.args.work.now (arc kbwg asked.args.node)
  place = c.child_place.ensures ∙ ap (child_in asked.args.work.now) c.arc_index.ensures

pub overflow_mul-result : goal.overflow_mul-result
overflow_mul-result c = omega (arith, place c, (asked c).requires.1)

pub overflow_add-result : goal.overflow_add-result
overflow_add-result c = omega (arith, place c, (asked c).requires.1)

pub returns : goal.returns
returns c = omega (arith, place c)
