-- `lines::put_tiles` meets its contract: what is left to put of the other tiles, put where it goes, gives the whole.
use Rattle.std.proofs.Common.{◌+◌, ◌≤◌, length, drop}
use Rattle.endian.specs.Putting.{Putting}
use Rattle.listing.specs.Lines.{spaced}
use Rattle.listing.proofs.lines.put_tiles.Given as goal

abbrev pub invariant-loop-tile : goal.invariant-loop-tile
invariant-loop-tile l = record {
  room : l.initial.end + length (spaced l.rest) ≤ length l.initial.out;
  left : Putting (spaced l.rest) l.initial.out l.initial.end (spaced (drop l.tile-index l.rest)) l.out l.end;
}
