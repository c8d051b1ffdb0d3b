-- The longest chain from each block, found while the blocks are numbered: "over 64 runs, each reached by an arc of the one before, from
-- the start" (document 01). The depths stand in the work list after the record; while the arcs of a block are followed its depth is 0, and
-- an arc that leads to such a block closes a loop.
use Rattle.std.specs.Prelude.{◌≡◌, ◌≢◌, true, ◌||◌, List, ℕ, suc, ◌+◌, ◌*◌, ◌<◌, ltb, length, get_or}
use Rattle.laws.specs.Lists.{some_of}
use Rattle.graph.specs.Runs.{Graph}
use Rattle.export.specs.Starts.{deeper}

-- the entry for the depth of p, of n nodes
abbrev pub depth_at : ℕ → ℕ → ℕ
depth_at n p = 2 * n + p

module _ (g : Graph) where
  -- the longest chain from q has d runs
  abbrev pub Depth : ℕ → ℕ → Type 0
  Depth q d = (k : ℕ) → deeper g k q ≡ ltb k d

  -- h is the most of the depths so far, of what p's arcs lead to: with those of the rest it decides every chain from p
  abbrev pub Deepest : ℕ → ℕ → List ℕ → Type 0
  Deepest p h rest = (k : ℕ) → ltb k h || some_of (deeper g k) rest ≡ deeper g (suc k) p

  -- q is numbered, and its arcs are being followed
  abbrev pub Followed : List ℕ → ℕ → Type 0
  Followed w q = (get_or w q 0 ≢ 0) × (get_or w (depth_at (length g) q) 0 ≡ 0)

  -- numbered blocks have their depths, but for those that are being followed
  abbrev pub Depths : List ℕ → Type 0
  Depths w = (q : ℕ) → q < length g → get_or w q 0 ≢ 0 → get_or w (depth_at (length g) q) 0 ≢ 0 → Depth q (get_or w (depth_at (length g) q) 0)

  -- a chain from p, after each block that is being followed, makes a chain one run longer from that block
  abbrev pub Below : List ℕ → ℕ → Type 0
  Below w p = (q : ℕ) → q < length g → Followed w q → (k : ℕ) → deeper g k p ≡ true → deeper g (suc k) q ≡ true

  -- no block is followed now that was not before, but for p
  abbrev pub NoneBut : ℕ → List ℕ → List ℕ → Type 0
  NoneBut p w w' = (q : ℕ) → q < length g → q ≢ p → Followed w' q → Followed w q

  -- no block is followed now that was not before
  abbrev pub NoneLeft : List ℕ → List ℕ → Type 0
  NoneLeft w w' = (q : ℕ) → q < length g → Followed w' q → Followed w q
