-- `blocks::fill` meets its contract: the lines that are left, put where they go, give the block.
use Rattle.listing.proofs.BlocksLaws.{BlockFilling}
use Rattle.listing.specs.Printing.{walk_from}
use Rattle.listing.proofs.blocks.Listed.fill.Given as goal

abbrev pub invariant-loop-number : goal.invariant-loop-number
invariant-loop-number l = BlockFilling (walk_from l.self.nodes.now l.self.counts.now l.self.start) l.next l.end l.initial.out l.out l.number l.at
