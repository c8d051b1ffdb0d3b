-- The record of runs as it grows, each run known by the tail that it begins with: "runs take consecutive places when first met" (document 02,
-- C-18).
use Rattle.std.specs.Prelude.{◌≡◌, List, ℕ, ◌+◌, ◌-◌, ◌*◌, ◌≤◌, ◌<◌, length, get_or, drop, Option, Some, None}
use Rattle.export.specs.Blocks.{total}
use Rattle.block_record.specs.Record.{order_in, HoldsBlocks}
use Rattle.block_record.specs.declared.BlockTally.{BlockTally}
use Rattle.shelf.specs.Shelf.{Shelf, run_entries, child_numbers}
use Rattle.tails.specs.Tails.{TailsIn}

-- "25 for over 16,777,216 nodes"
abbrev pub most_nodes : ℕ
most_nodes = 16777216

-- the two numbers of tail i
abbrev pub node_at : ℕ → List ℕ → ℕ → ℕ
node_at n w i = get_or w (2 * n + 4 * (i - 1)) 0

abbrev pub after_at : ℕ → List ℕ → ℕ → ℕ
after_at n w i = get_or w (2 * n + 4 * (i - 1) + 1) 0

-- the number of a tail, or 0
abbrev pub IsTail : ℕ → List ℕ → ℕ → Type 0
IsTail n w i = (sh : Shelf) × TailsIn n w sh × (i ≤ length sh)

-- the nodes of the run that begins with a tail
abbrev pub run_length : Shelf → ℕ → ℕ
run_length sh i = length (run_entries sh i)

abbrev pub HasLength : ℕ → List ℕ → ℕ → ℕ → Type 0
HasLength n w i r = (sh : Shelf) → TailsIn n w sh → i ≤ length sh → r ≡ run_length sh i

-- the work list holds the runs of the list, from node 2 on, and no node too many
pub record RunsPlaced (sh : Shelf) (n : ℕ) (w : List ℕ) (t : BlockTally) (o : List ℕ) : Type 0 where
  pub runs : HoldsBlocks n (run_length sh) 2 w t o
  pub within : t.nodes ≤ most_nodes

-- the record is that of runs met so far
pub record Recorded (sh : Shelf) (n : ℕ) (w : List ℕ) (t : BlockTally) : Type 0 where
  pub tails : TailsIn n w sh
  pub placed : RunsPlaced sh n w t (order_in n w t)

-- what an arc, and what a run needs to be numbered
abbrev pub ArcNumberable : ℕ → List ℕ → BlockTally → ℕ → Type 0
ArcNumberable n w t i = (sh : Shelf) × Recorded sh n w t × (i ≤ length sh)

abbrev pub Numberable : ℕ → List ℕ → BlockTally → ℕ → Type 0
Numberable n w t i = ArcNumberable n w t i × (0 < i)

-- what numbering leaves that meets the runs of the list: the tails are as before
pub record NumbersRuns (sh : Shelf) (n : ℕ) (w w' : List ℕ) (t : BlockTally) (o : List ℕ) : Type 0 where
  pub placed : RunsPlaced sh n w' t o
  pub tails : drop (2 * n) w' ≡ drop (2 * n) w

abbrev pub RunsNumberedAs : Shelf → ℕ → List ℕ → List ℕ → List ℕ → Option BlockTally → Type 0
RunsNumberedAs sh n w w' o (Some t) = NumbersRuns sh n w w' t o
RunsNumberedAs sh n w w' o None = most_nodes < 2 + total (run_length sh) o

-- what it answers, where `meets` tells what is met after those seen
abbrev pub NumbersAs : ℕ → List ℕ → BlockTally → ℕ → ((ℕ → List ℕ) → List ℕ → List ℕ) → List ℕ → Option BlockTally → Type 0
NumbersAs n w t i meets w' r = (sh : Shelf) → Recorded sh n w t → i ≤ length sh → RunsNumberedAs sh n w w' (meets (child_numbers sh) (order_in n w t)) r
