-- The record of runs as it grows: "a run takes consecutive places when first met" (document 01); and what the walk finds of each run on
-- its way back, for the checks 22 and 13.
use Rattle.std.specs.Prelude.{◌≡◌, ◌≢◌, Bool, true, false, ◌&&◌, List, ℕ, ◌+◌, ◌*◌, ◌^◌, ◌≤◌, ◌<◌, min, max, eqb, ltb, length, get_or, Result, Ok, Err}
use Rattle.base.specs.Numbers.{most}
use Rattle.graph.specs.Runs.{Graph}
use Rattle.export.specs.Starts.{deeper}
use Rattle.export.specs.Blocks.{total}
use Rattle.block_record.specs.Record.{order_in, HoldsBlocks}
use Rattle.block_record.specs.Depths.{depth_at, NoneLeft}
use Rattle.survey.specs.RunCounted.{RunCounted, words_through}
use Rattle.block_record.specs.declared.BlockTally.{BlockTally}
use Rattle.lxd_file.specs.File.{run_size}
use Rattle.lxd_blocks.specs.declared.numbering.Walked.{Walked}
use Rattle.lxd_blocks.specs.declared.numbering.WalkRefusal.{WalkRefusal}
use Rattle.lxd_blocks.specs.declared.numbering.WalkRefusal.TheVariants.{TooDeep, TooMany}

-- the entry for the words of p, of n nodes
abbrev pub words_at : ℕ → ℕ → ℕ
words_at n p = 3 * n + p

-- what is known after a node of a run, by what was known before it and of the run that its arc leads to
abbrev pub node_passed : ℕ → Walked → Walked → Walked
node_passed v before child =
    record {
      tally = child.tally;
      runs = max before.runs child.runs;
      words = min (before.words + words_through v child.words) most;
    }

-- and of the whole run, which is one run more
abbrev pub run_closed : Walked → Walked
run_closed f = record { tally = f.tally; runs = f.runs + 1; words = f.words }

-- the answer by the entries of a numbered run; while its arcs are being followed there is no end to its chains
abbrev pub looked_up : ℕ → List ℕ → ℕ → BlockTally → ℕ → Result Walked WalkRefusal
looked_up n w p t left =
    elim (eqb (get_or w (depth_at n p) 0) 0) [
      | true ↦ Err TooDeep
      | false ↦ elim (ltb left (get_or w (depth_at n p) 0)) [
        | true ↦ Err TooDeep
        | false ↦ Ok (record { tally = t; runs = get_or w (depth_at n p) 0; words = get_or w (words_at n p) 0 })
      ]
    ]

module _ (g : Graph) where
  -- the work list holds the runs of the list, from node 2 of the file on, and no node too many for a child's 22 bits
  pub record RunsHeld (w : List ℕ) (t : BlockTally) (o : List ℕ) : Type 0 where
    pub runs : HoldsBlocks (length g) (run_size g) 2 w t o
    pub within : t.nodes ≤ 2 ^ 22

  -- the entries of numbered runs are right, but for those whose arcs are being followed
  abbrev pub Known : List ℕ → Type 0
  Known w =
      (q : ℕ) → q < length g → get_or w q 0 ≢ 0 → get_or w (depth_at (length g) q) 0 ≢ 0
      → RunCounted g true q (get_or w (depth_at (length g) q) 0) (get_or w (words_at (length g) q) 0)

  -- what numbering begins with
  pub record RunsRecorded (w : List ℕ) (t : BlockTally) : Type 0 where
    pub room : 4 * length g ≤ length w
    pub held : RunsHeld w t (order_in (length g) w t)
    pub known : Known w

  -- what numbering leaves and finds that meets the runs of the list, from q if there is a run, where no chain is too long
  pub record RunsNumbered (w₀ w o : List ℕ) (there : Bool) (q left : ℕ) (f : Walked) : Type 0 where
    pub held : RunsHeld w f.tally o
    pub known : Known w
    pub followed : NoneLeft g w₀ w
    pub counted : RunCounted g there q f.runs f.words
    pub ends : f.runs ≤ left

  -- what it answers
  abbrev pub NumberedAs : List ℕ → List ℕ → List ℕ → Bool → ℕ → ℕ → Result Walked WalkRefusal → Type 0
  NumberedAs w₀ w o there q left (Ok f) = RunsNumbered w₀ w o there q left f
  NumberedAs w₀ w o there q left (Err TooDeep) = there && deeper g left q ≡ true
  NumberedAs w₀ w o there q left (Err TooMany) = 2 ^ 22 < 2 + total (run_size g) o
