-- `in_play::count_clear` meets its contract: those counted and those left from a group on are all.
use Rattle.std.proofs.Common.{◌≡◌, ◌+◌, length}
use Rattle.in_play.specs.InPlay.{not_in_play}
use Rattle.in_play.proofs.ScanLaws.{left_from}
use Rattle.in_play.proofs.record.Record.count_clear.Given as goal

abbrev pub invariant-loop-group : goal.invariant-loop-group
invariant-loop-group l = l.count + length (left_from l.self.bits.now l.self.total l.group-index) ≡ length (not_in_play l.self.bits.now l.self.total)
