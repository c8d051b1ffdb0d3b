-- `in_play::lowest_clear` meets its contract: the groups passed have no clear bit, so those left from a group on are all.
use Rattle.std.proofs.Common.{◌≡◌}
use Rattle.in_play.specs.InPlay.{not_in_play}
use Rattle.in_play.proofs.ScanLaws.{left_from}
use Rattle.in_play.proofs.record.Record.lowest_clear.Given as goal

abbrev pub invariant-loop-g : goal.invariant-loop-g
invariant-loop-g l = left_from l.self.bits.now l.self.total l.g ≡ not_in_play l.self.bits.now l.self.total
