-- The record of blocks in a work list: "Each looks the arc's child up in its record of blocks already numbered" (document 01).
use Rattle.std.specs.Prelude.{◌≡◌, true, false, List, ℕ, zero, suc, ◌+◌, ◌-◌, ◌<◌, eqb, get_or, set, take, drop}
use Rattle.block_record.specs.declared.Place.{Place}
use Rattle.block_record.specs.declared.Place.TheVariants.{Numbered, Unnumbered}
use Rattle.laws.specs.Lists.{member}
use Rattle.export.specs.Blocks.{block_at, total}
use Rattle.block_record.specs.declared.BlockTally.{BlockTally}

-- entry p is 0, or the place of p's block plus 1
abbrev pub place_at : List ℕ → ℕ → Place
place_at w p = elim (eqb (get_or w p 0) 0) [ true ↦ Unnumbered | false ↦ Numbered (get_or w p 0 - 1) ]

-- where the block that an arc leads to stands by the record; an arc of 0 leads nowhere
unfoldable pub child_in : List ℕ → ℕ → ℕ
child_in w p = elim (eqb p 0) [ true ↦ 0 | false ↦ get_or w p 0 - 1 ]

-- the blocks in order stand from entry n on: the first k of them, and those of a tally
abbrev pub blocks_in : ℕ → List ℕ → ℕ → List ℕ
blocks_in n w k = take k (drop n w)

abbrev pub order_in : ℕ → List ℕ → BlockTally → List ℕ
order_in n w t = blocks_in n w t.blocks

-- the work list with p's block after those of the tally: p's place plus 1, and p in the order
abbrev pub block_pushed : ℕ → List ℕ → ℕ → BlockTally → List ℕ
block_pushed n w p t = set (set w p (t.nodes + 1)) (n + t.blocks) p

-- work list and tally after p's block, which takes s nodes
pub record Pushed (n : ℕ) (w : List ℕ) (p : ℕ) (t : BlockTally) (s : ℕ) (w' : List ℕ) (t' : BlockTally) : Type 0 where
  pub list : w' ≡ block_pushed n w p t
  pub blocks : t'.blocks ≡ t.blocks + 1
  pub nodes : t'.nodes ≡ t.nodes + s

-- how many of the first n entries are not 0
unfoldable pub used : ℕ → List ℕ → ℕ
used zero w = 0
used (suc n) w = used n w + elim (eqb (get_or w n 0) 0) [ true ↦ 0 | false ↦ 1 ]

-- the work list holds the blocks of n nodes in the order o, the first at the place `base`
pub record HoldsBlocks (n : ℕ) (size : ℕ → ℕ) (base : ℕ) (w : List ℕ) (t : BlockTally) (o : List ℕ) : Type 0 where
  pub order : order_in n w t ≡ o
  pub many : used n w ≡ t.blocks
  pub sum : t.nodes ≡ base + total size o
  pub new : (p : ℕ) → p < n → member p o ≡ false → get_or w p 0 ≡ 0
  pub old : (p : ℕ) → p < n → member p o ≡ true → get_or w p 0 ≡ block_at eqb size base o p + 1
