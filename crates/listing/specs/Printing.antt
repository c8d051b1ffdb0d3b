-- The output, block after block: what is left to print, one block of it, and all blocks.
use Rattle.std.specs.Prelude.{true, false, List, [], ◌∷◌, ℕ, zero, suc, ◌-◌, ltb}
use Rattle.std.proofs.Math.Option.{Option, none, some}
use Rattle.answers.specs.Answers.{Answer}
use Rattle.graph.specs.Words.{Word}
use Rattle.lookup.specs.Walks.{word_by_index}
use Rattle.listing.specs.Lines.{refusal_line}
use Rattle.listing.specs.Wordlist.{most_tiles}
use Rattle.listing.specs.Blocks.{block}
use Rattle.listing.specs.declared.opening.Unprinted.{Unprinted}
use Rattle.listing.specs.declared.opening.Unprinted.TheVariants.{Refusal, Words}

-- the bytes that a block has room for
abbrev pub room : ℕ
room = 65_536

-- the walk by the lent nodes and counts, from the start
abbrev pub walk_from : List ℕ → List ℕ → ℕ → ℕ → Word × Answer
walk_from nodes counts start i = word_by_index counts nodes most_tiles start i

-- how many lines are left, at most
abbrev pub lines_left : Unprinted → ℕ
lines_left (Refusal n) = 1
lines_left (Words start count next) = count - next

-- One block of what is left, and what is left after it.
pub record Next : Type 0 where
  pub bytes : List ℕ
  pub unprinted : Unprinted

module _ (nodes counts : List ℕ) where
  -- none where nothing is left; after a refusal nothing is
  unfoldable pub next_block : Unprinted → Option Next
  next_block (Refusal n) = some (record { bytes = refusal_line n; unprinted = Words 0 0 0 })
  next_block (Words start count next) =
      let b = block (walk_from nodes counts start) count next room in
      elim (ltb next count) [ true ↦ some (record { bytes = b.bytes; unprinted = Words start count b.next }) | false ↦ none ]

  -- the blocks one after the other, until nothing is left; so many at most
  unfoldable pub blocks_within : ℕ → Unprinted → List (List ℕ)
  blocks_within zero u = []
  blocks_within (suc t) u = elim (next_block u) [ none ↦ [] | some b ↦ b.bytes ∷ blocks_within t b.unprinted ]

  abbrev pub output_blocks : Unprinted → List (List ℕ)
  output_blocks u = blocks_within (lines_left u) u
