-- A graph whose every step leads to a node and that does not loop is walkable where it stands at the head of the lent nodes, and its
-- counts at the head of the lent counts.
use Rattle.std.specs.Prelude.{List, ℕ}
use Rattle.node.specs.Nodes.{kbwg}
use Rattle.graph.specs.Runs.{Graph}
use Rattle.graph.specs.ChecksLaws.{Fit}
use Rattle.graph.specs.Counting.{Loopless}
use Rattle.graph.specs.LoopLaws.{clear_where_loopless}
use Rattle.lookup.specs.GraphLent.{GraphLent, at_head, count-lent-at}
use Rattle.numbers.specs.Walkable.{Walkable}

pub walkable : (g : Graph) → Fit g → (nodes counted : List ℕ) → GraphLent g nodes counted → Loopless g → Walkable g nodes counted
walkable g fits nodes counted is loopless =
    record {
      steps = fits.steps;
      clear = clear_where_loopless kbwg g loopless;
      same = at_head g nodes is.nodes-are;
      count-lent = count-lent-at g nodes counted is;
    }
