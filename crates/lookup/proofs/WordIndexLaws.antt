-- The walk from a word to its number, tile by tile.
use mathlib.Core.Path.{◌≡◌}
use mathlib.Core.List.{List}
use Prim.Native.Nat.{ℕ, ◌+◌, ◌≤◌, ◌<◌}
use native.Mathlib.Numerals.{add-one}
use lib.ListN.{length, get_or, drop, drop_of_length-le}
use lib.Seq.{drop-cons}
use Rattle.node.specs.Nodes.{kbwg, accepts_bit}
use Rattle.graph.specs.Runs.{Graph, node}
use Rattle.graph.specs.Words.{Word}
use Rattle.lookup.specs.Steps.{on, ◌>>=◌, answer, sum}
use Rattle.lookup.specs.Walks.{passed_after, number_ending, index_from}

-- ---- a tile after others
module _ (limit : ℕ) (g : Graph) (counts : List ℕ) (v idx : ℕ) (w : Word) (i : ℕ) where
  pub index-end : length w ≤ i → index_from limit g counts v idx (drop i w) ≡ number_ending limit v idx
  unfolding index_from
  index-end h = rw (drop_of_length-le w h)

  pub index-next : i < length w → index_from limit g counts v idx (drop i w) ≡ answer do
    here ← sum limit idx (accepts_bit kbwg v)
    (q, before) ← passed_after g counts v (get_or w i 0)
    next ← sum limit here before
    on (index_from limit g counts (node g q) next (drop (i + 1) w))
  unfolding index_from
  index-next h = rw (add-one, drop-cons w i 0 h)
