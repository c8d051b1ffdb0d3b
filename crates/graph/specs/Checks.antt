-- The checks of a graph that several rows of "Where each check stands" share.
use Rattle.std.specs.Prelude.{◌≡◌, ◌||◌, not, false, [], ◌∷◌, ltb, leb, length, Result}
use Rattle.std.proofs.Math.Option.{Option}
use Rattle.laws.specs.Cases.{is_some}
use Rattle.answers.specs.Answers.{Answer, Refusal, refusing, refusal_of, Row, first_of}
use Rattle.node.specs.Nodes.{kbwg}
use Rattle.graph.specs.Runs.{Graph, largest_arc, last_ends}
use Rattle.graph.specs.declared.NodesRefusal.{NodesRefusal}
use Rattle.graph.specs.declared.NodesRefusal.TheVariants.{ArcPastEnd, NoEnd}
use Rattle.graph.specs.declared.GraphRefusal.{GraphRefusal}
use Rattle.graph.specs.declared.GraphRefusal.TheVariants.{WrongSize, Nodes}

-- what `check_nodes` refuses by
abbrev pub nodes_why : NodesRefusal → Refusal
nodes_why (ArcPastEnd r) = refusing 8 (r ∷ [])
nodes_why NoEnd = refusing 9 []

abbrev pub nodes_refusal : {A : Type 0} → Result A NodesRefusal → Option Answer
nodes_refusal r = refusal_of nodes_why r

-- "8 largest arc (carried) at least the node count; 9 last node no end"
abbrev pub nodes_row : Graph → Row
nodes_row g =
    (leb (length g) (largest_arc kbwg g), refusing 8 (largest_arc kbwg g ∷ []))
    ∷ (not (last_ends kbwg g), refusing 9 [])
    ∷ []

-- "10+ under 2 nodes or over 16,777,216; 8; 9"
abbrev pub graph_row : Graph → Row
graph_row g = (ltb (length g) 2 || ltb 16_777_216 (length g), refusing 10 []) ∷ nodes_row g

-- that a graph passes the row
abbrev pub IsFit : Graph → Type 0
IsFit g = is_some (first_of (graph_row g)) ≡ false

-- what `check_graph` refuses by
abbrev pub graph_why : GraphRefusal → Refusal
graph_why WrongSize = refusing 10 []
graph_why (Nodes why) = nodes_why why

abbrev pub graph_refusal : {A : Type 0} → Result A GraphRefusal → Option Answer
graph_refusal r = refusal_of graph_why r
