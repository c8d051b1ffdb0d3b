-- A record that holds runs, by the order in it, and with entries after it changed.
use mathlib.Core.Path.{◌≡◌, sym, subst}
use mathlib.Core.List.{List}
use Prim.Native.Nat.{ℕ, ◌+◌, ◌≤◌}
use lib.ListN.{length, set}
use Rattle.graph.specs.Runs.{Graph}
use Rattle.block_record.specs.Record.{order_in}
use Rattle.block_record.specs.RecordLaws.{holds-past}
use Rattle.block_record.specs.declared.BlockTally.{BlockTally}
use Rattle.lxd_blocks.specs.RunsNumbered.{RunsHeld}

module _ (g : Graph) where
  pub held_as : {w : List ℕ} {t : BlockTally} {o o' : List ℕ} → o ≡ o' → RunsHeld g w t o → RunsHeld g w t o'
  held_as {w} {t} e h = subst (RunsHeld g w t) e h

  pub held-here : {w : List ℕ} {t : BlockTally} {o : List ℕ} → RunsHeld g w t o → RunsHeld g w t (order_in (length g) w t)
  held-here h = held_as (sym h.runs.order) h

  -- entries after the record change nothing in it
  pub held-past : {w : List ℕ} {t : BlockTally} {o : List ℕ} (i v : ℕ) → length g + length g ≤ i → RunsHeld g w t o → RunsHeld g (set w i v) t o
  held-past i v b h = record { runs = holds-past i v b h.runs; within = h.within }
