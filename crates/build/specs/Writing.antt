-- The nodes of the runs in the order of the record.
use Rattle.std.specs.Prelude.{◌≡◌, ℕ, ◌+◌, ◌*◌, ◌%◌, ◌≤◌, ◌<◌, length}
use mathlib.Core.List.{List, map, Memᴰ}
use Rattle.std.proofs.lemmas.List.Edits.{sets}
use Rattle.laws.specs.Lists.{join_all}
use Rattle.block_record.specs.Record.{child_in, blocks_in}
use Rattle.shelf.specs.Shelf.{Shelf, run_entries, entry_nodes}
use Rattle.tails.specs.Tails.{TailsIn}
use Rattle.build.specs.Numbering.{most_nodes}

-- a node with another arc
abbrev pub linked_to : ℕ → ℕ → ℕ
linked_to place v = place * 256 + v % 256

-- the nodes of runs one after the other, with their children's places by the record
abbrev pub order_nodes : Shelf → List ℕ → List ℕ → List ℕ
order_nodes sh w o = join_all (map (λ m. entry_nodes (child_in w) (run_entries sh m)) o)

-- what writing reads and needs
pub record WritesFrom (sh : Shelf) (n : ℕ) (w : List ℕ) (blocks : ℕ) : Type 0 where
  pub tails : TailsIn n w sh
  pub few : blocks ≤ n
  pub order : (m : ℕ) → Memᴰ m (blocks_in n w blocks) → (0 < m) × (m ≤ length sh)
  pub places : (c : ℕ) → c < n → child_in w c < most_nodes

abbrev pub Writable : ℕ → List ℕ → ℕ → ℕ → Type 0
Writable n w blocks room =
    (sh : Shelf) × WritesFrom sh n w blocks
    × (2 + length (order_nodes sh w (blocks_in n w blocks)) ≤ room) × (2 + length (order_nodes sh w (blocks_in n w blocks)) ≤ most_nodes)

abbrev pub WritesRuns : ℕ → List ℕ → ℕ → List ℕ → List ℕ → Type 0
WritesRuns n w blocks nodes nodes' = (sh : Shelf) → WritesFrom sh n w blocks → nodes' ≡ sets nodes 2 (order_nodes sh w (blocks_in n w blocks))
