-- `repack_in_place` meets its contract: the bytes from node i on give the answer and the bytes that all give.
use Rattle.std.proofs.Common.{◌≡◌, length}
use Rattle.node.specs.Said.{bit_layout}
use Rattle.load.proofs.InPlace.{answer_from, bytes_from}
use Rattle.load.proofs.repack.repack_in_place.Given as goal

abbrev pub invariant-loop-i : goal.invariant-loop-i
invariant-loop-i l = record {
  room : length l.bytes ≡ length l.initial.bytes;
  answer : answer_from (bit_layout l.from) (bit_layout l.to) l.bytes l.i ≡ answer_from (bit_layout l.from) (bit_layout l.to) l.initial.bytes 0;
  rewritten : bytes_from (bit_layout l.from) (bit_layout l.to) l.bytes l.i ≡ bytes_from (bit_layout l.from) (bit_layout l.to) l.initial.bytes 0;
}
