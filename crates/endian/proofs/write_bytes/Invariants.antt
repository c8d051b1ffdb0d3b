-- `write_bytes` meets its contract: the bytes that are left, put behind those that are in, give what all give.
use Rattle.std.proofs.Common.{◌≡◌, ◌+◌, drop}
use Rattle.std.proofs.lemmas.List.Edits.{sets}
use Rattle.endian.proofs.write_bytes.Given as goal

abbrev pub invariant-loop-i : goal.invariant-loop-i
invariant-loop-i l = sets l.bytes (l.p + l.i) (drop l.i l.text) ≡ sets l.initial.bytes l.p l.text
