-- `write_bytes` meets its contract: the bytes that are left, put behind those that are in, give what all give.
use Rattle.std.proofs.Common.{sym, ◌∙◌, ◌+◌, arith}
use Rattle.laws.specs.ListWrites.{sets-next, sets-done}
use Rattle.endian.proofs.write_bytes.Goals as goal

pub loop-i-preserved : goal.loop-i-preserved
loop-i-preserved c = let a = c.args in let i = c.loop-i in sym (sets-next i.bytes a.text.now a.p i.i (omega arith)) ∙ i.invariant

pub returns : goal.returns
returns c = let a = c.args in let i = c.loop-i in sym (sets-done i.bytes a.text.now (a.p + i.i) i.i (omega arith)) ∙ i.invariant
