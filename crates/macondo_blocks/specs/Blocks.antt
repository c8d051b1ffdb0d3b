-- What the Macondo writer computes before it writes, named for the contracts of this crate.
use Rattle.std.specs.Prelude.{◌≡◌, true, false, List, [], ◌∷◌, ◌++◌, ℕ, ◌*◌, ◌≤◌, ◌<◌, eqb, length, take, drop, Result, Ok, Err}
use Rattle.laws.specs.Lists.{All, filtered}
use Rattle.laws.specs.Sorting.{inserted, inserted_all}
use Rattle.node.specs.Nodes.{kbwg, tile}
use Rattle.graph.specs.Runs.{Graph}
use Rattle.graph.specs.Lent.{Kept}
use Rattle.export.specs.Starts.{has_arc, deeper}
use Rattle.export.specs.Blocks.{met}
use Rattle.block_record.specs.Record.{order_in, HoldsBlocks}
use Rattle.block_record.specs.Depths.{Depth, Depths, NoneLeft}
use Rattle.block_record.specs.declared.BlockTally.{BlockTally}
use Rattle.macondo_file.specs.Alphabet.{by_tile}
use Rattle.macondo_file.specs.File.{children_of, size_of, blocks_from}
use Rattle.macondo_blocks.specs.declared.blocks.Reached.{Reached}
use Rattle.macondo_blocks.specs.declared.blocks.TooDeep.{TooDeep}

-- every node's tile has a label
abbrev pub AllLabelled : List ℕ → List ℕ → Type 0
AllLabelled labels vs = All (λ v. tile kbwg v < length labels) vs

-- where an entry goes in a list: the place of the first that it precedes, or the length
pub record Slot (labels list : List ℕ) (v r : ℕ) : Type 0 where
  pub within : r ≤ length list
  pub here : inserted (by_tile labels) v list ≡ take r list ++ v ∷ drop r list

-- a node put among the arcs in order, if it has an arc
abbrev pub with_arc : List ℕ → List ℕ → ℕ → List ℕ
with_arc labels arcs v = inserted_all (by_tile labels) arcs (filtered has_arc (v ∷ []))

-- the work list has room for the record and the depths; it holds the blocks numbered so far, and how deep they are
pub record BlocksRecorded (g : Graph) (labels : List ℕ) (w : List ℕ) (t : BlockTally) : Type 0 where
  pub room : 3 * length g ≤ length w
  pub holds : HoldsBlocks (length g) (size_of g labels) 0 w t (order_in (length g) w t)
  pub depths : Depths g w

-- what numbering leaves: the record of the blocks in the list, and the numbers past the depths as before
pub record BlocksNumbered (g : Graph) (labels : List ℕ) (w w' : List ℕ) (t : BlockTally) (blocks : List ℕ) : Type 0 where
  pub holds : HoldsBlocks (length g) (size_of g labels) 0 w' t blocks
  pub past : Kept (3 * length g) w w'

-- the same of a block and what its arcs lead to, where a record stands and a chain of c runs is left: the runs in the longest chain from
-- it, which are no more; the depths of all blocks that are not being followed; and that no other block is followed than before
pub record BlocksReached (g : Graph) (labels w : List ℕ) (t : BlockTally) (c p : ℕ) (w' : List ℕ) (r : Reached) : Type 0 where
  pub numbered : BlocksNumbered g labels w w' r.tally (met eqb (children_of g labels) c (order_in (length g) w t) p)
  pub depth : Depth g p r.runs
  pub within : r.runs ≤ c
  pub depths : Depths g w'
  pub left : NoneLeft g w w'

-- what numbering from a block answers: where it ends, or that a chain from the block has more than c runs
abbrev pub NumberingFrom : Graph → List ℕ → List ℕ → BlockTally → ℕ → ℕ → List ℕ → Result Reached TooDeep → Type 0
NumberingFrom g labels w t c p w' (Ok r) = BlocksReached g labels w t c p w' r
NumberingFrom g labels w t c p w' (Err e) = deeper g c p ≡ true

-- the blocks of a file whose start is node s: "over 64 runs, each reached by an arc of the one before, from the start", or the record of
-- the blocks and the runs in the longest chain
abbrev pub NumberingIs : Graph → List ℕ → ℕ → List ℕ → List ℕ → Result Reached TooDeep → Type 0
NumberingIs g labels s w w' (Ok r) = BlocksNumbered g labels w w' r.tally (blocks_from g labels s) × Depth g s r.runs × (deeper g 64 s ≡ false)
NumberingIs g labels s w w' (Err e) = deeper g 64 s ≡ true
