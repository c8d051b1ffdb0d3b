-- The tiles left, from the node reached, give the answer of all.
use Rattle.std.proofs.Common.{◌≡◌, drop}
use Rattle.graph.specs.Counting.{count_limit}
use Rattle.lookup.specs.Walks.{index_from}
use Rattle.lookup.proofs.by_tile.Numbered.index_from.Given as goal

abbrev pub invariant-loop-tile : goal.invariant-loop-tile
invariant-loop-tile l =
    index_from count_limit l.self.nodes.now l.self.counts.now l.v l.idx (drop l.tile-index l.tiles)
    ≡ index_from count_limit l.self.nodes.now l.self.counts.now l.v-2 l.idx-2 l.tiles
