-- Where both walks meet a graph's own nodes and counts, and never leave them.
use Rattle.std.specs.Prelude.{◌≡◌, List, ℕ, ◌<◌, length}
use Rattle.node.specs.Nodes.{kbwg}
use Rattle.graph.specs.Runs.{Graph, node}
use Rattle.graph.specs.Words.{count}
use Rattle.graph.specs.ChecksLaws.{Closed}
use Rattle.graph.specs.Loops.{Clear}
use Rattle.lookup.specs.Steps.{lent, on}

pub record Walkable (g : Graph) (nodes counted : List ℕ) : Type 0 where
  -- every step leads to a node
  pub steps : Closed g
  -- no node that loops can be reached
  pub clear : (p : ℕ) → Clear kbwg g p
  -- the lent nodes begin with the graph's
  pub same : (p : ℕ) → p < length g → (p < length nodes) × (node nodes p ≡ node g p)
  -- the lent counts begin with those of the graph's words
  pub count-lent : (p : ℕ) → p < length g → lent counted p ≡ on (count kbwg g p)
