-- `ranges::fill_ends` meets its contract: the lines before the place reached stand before their range's end.
use Rattle.std.proofs.Common.{length}
use Rattle.label_index.specs.Index.{RangesEnd, RangesWithin}
use Rattle.label_index.proofs.ranges.fill_ends.Given as goal

abbrev pub invariant-loop-i : goal.invariant-loop-i
invariant-loop-i l = RangesEnd l.i l.numbers l.end × RangesWithin (length l.numbers) l.end
