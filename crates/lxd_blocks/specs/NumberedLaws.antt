-- What numbering begins with: a record that holds no run.
use Rattle.std.specs.Prelude.{◌≡◌, List, [], ℕ, ◌*◌, ◌≤◌, ◌<◌, length, get_or}
use Rattle.std.proofs.Common.{sym, subst, arith}
use Rattle.graph.specs.Runs.{Graph}
use Rattle.block_record.specs.RecordLaws.{holds-none}
use Rattle.block_record.specs.declared.BlockTally.{BlockTally}
use Rattle.lxd_file.specs.File.{run_size}
use Rattle.lxd_blocks.specs.RunsNumbered.{RunsHeld, RunsRecorded}

module _ (g : Graph) where
  pub none-recorded : {w : List ℕ} {t : BlockTally} → 4 * length g ≤ length w → ((p : ℕ) → p < length g → get_or w p 0 ≡ 0)
      → t.blocks ≡ 0 → t.nodes ≡ 2 → RunsRecorded g w t
  none-recorded {w} {t} r z a b =
      let none : RunsHeld g w t [] = record { runs = holds-none (length g) (run_size g) 2 w t z a b; within = omega arith } in
      record {
        room = r;
        held = subst (RunsHeld g w t) (sym none.runs.order) none;
        known = λ q l n. absurd (n (z q l));
      }
