-- A graph and its runs, from document 01, "Nodes and words".
use Rattle.std.specs.Prelude.{Bool, true, false, ◌&&◌, ◌||◌, List, [], ◌∷◌, ℕ, max, ltb, get_or}
use Rattle.node.specs.Nodes.{BitLayout, kbwg, tile, arc, is_end}

-- A graph is the list of its nodes, each a 32-bit number; node p stands at place p.
abbrev pub Graph : Type 0
Graph = List ℕ

abbrev pub node : Graph → ℕ → ℕ
node g p = get_or g p 0

-- "The start node s is node 0's arc, for a Macondo gaddag node 1's arc; if that is 0, s is node 0": an arc of 0 is node 0's number
abbrev pub start_node : Graph → ℕ → ℕ
start_node g root = arc kbwg (node g root)

module _ (y : BitLayout) where
  -- "The run from node p is p, p+1, .. up to the first end node": the run at the head of the nodes from p on
  unfoldable pub run : Graph → List ℕ
  run [] = []
  run (v ∷ vs) = v ∷ elim (is_end y v) [ true ↦ [] | false ↦ run vs ]

  -- "Runs ascend when each node that is not an end has a lower tile than the node after it."
  unfoldable pub ascends : Graph → Bool
  ascends [] = true
  ascends (v ∷ []) = true
  ascends (v ∷ w ∷ vs) = (is_end y v || ltb (tile y v) (tile y w)) && ascends (w ∷ vs)

  -- "largest arc"
  unfoldable pub largest_arc : Graph → ℕ
  largest_arc [] = 0
  largest_arc (v ∷ vs) = max (arc y v) (largest_arc vs)

  -- "last node no end", the other way round
  unfoldable pub last_ends : Graph → Bool
  last_ends [] = false
  last_ends (v ∷ []) = is_end y v
  last_ends (v ∷ w ∷ vs) = last_ends (w ∷ vs)
