-- `writing::put_labels` meets its contract: what is left to put, put where it goes, gives all of it.
use Rattle.std.proofs.Common.{◌+◌, map, drop}
use Rattle.endian.specs.Putting.{Putting}
use Rattle.page.specs.Rows.{label_of}
use Rattle.page.proofs.writing.put_labels.Given as goal

abbrev pub invariant-loop-i : goal.invariant-loop-i
invariant-loop-i l = Putting (map (label_of l.labels) l.tiles) l.initial.out l.at (map (label_of l.labels) (drop l.i l.tiles)) l.out (l.at + l.i)
