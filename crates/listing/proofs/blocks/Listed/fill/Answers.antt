-- `blocks::fill` meets its contract: the lines that are left, put where they go, give the block.
use native.Mathlib.Omega.{arith}
use Prim.Native.Nat.{ℕ}
use Rattle.std.proofs.Common.{ap}
use Rattle.listing.specs.Said.{continues}
use Rattle.listing.proofs.BlocksLaws.{block_filling_start, fill-next, fill-room, fill-last, fill_done}
use Rattle.listing.specs.Blocks.{NumberWalk}
use Rattle.listing.specs.Printing.{walk_from}
use Rattle.listing.proofs.blocks.Listed.fill.Goals as goal
use Rattle.listing.proofs.blocks.Listed.fill.Goals.{After-block_end-end, Start}

-- how many words there are, and the walk to them
module _ (b : After-block_end-end) where
  abbrev start : Start
  start = (goal.at.After-block_end-end b).Start

  abbrev count : ℕ
  count = start.args.count

  abbrev walk : NumberWalk
  walk = walk_from start.args.self.nodes.now start.args.self.counts.now start.args.self.start

pub loop-number-init : goal.loop-number-init
loop-number-init c = block_filling_start (walk c) (start c).args.next c.block_end-end.result (start c).args.out.now (omega (arith, c.block_end-end.ensures))

pub put_word-requires : goal.put_word-requires
put_word-requires c =
    let b = (goal.at.put_word-requires c).After-block_end-end in
    fill-room (walk b) c.loop-number.invariant (count b) b.block_end-end.ensures c.loop-number-test.true

pub returns-in-Break : goal.returns-in-Break
returns-in-Break c =
    let b = (goal.at.returns-in-Break c).After-block_end-end in
    rw c.in-Break.is at (fill-last (walk b) c.loop-number.invariant (count b) b.block_end-end.ensures c.loop-number-test.true c.put_word.ensures (ap continues c.in-Break.is))

pub loop-number-preserved : goal.loop-number-preserved
loop-number-preserved c =
    rw c.in-Continue.is at (fill-next (walk (goal.at.loop-number-preserved c).After-block_end-end) c.loop-number.invariant c.loop-number-test.true c.put_word.ensures (ap continues c.in-Continue.is))

pub returns : goal.returns
returns c =
    let b = (goal.at.returns c).After-block_end-end in
    fill_done (walk b) c.loop-number.invariant (count b) b.block_end-end.ensures c.loop-number-test.false
