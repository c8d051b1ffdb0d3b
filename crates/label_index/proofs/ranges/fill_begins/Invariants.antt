-- `ranges::fill_begins` meets its contract: the lines from the place reached on stand at or after their range's beginning.
use Rattle.std.proofs.Common.{length}
use Rattle.label_index.proofs.RangeLaws.{BegunFrom}
use Rattle.label_index.proofs.ranges.fill_begins.Given as goal

abbrev pub invariant-loop-i : goal.invariant-loop-i
invariant-loop-i l = BegunFrom l.i (length l.numbers) l.numbers l.begin
