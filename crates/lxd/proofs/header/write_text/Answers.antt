-- `write_text` meets its contract: the bytes left to write, written after those before, are the whole field.
use Rattle.std.proofs.Common.{arith}
use Rattle.lxd.proofs.HeaderLaws.{text-next}
use Rattle.lxd.proofs.header.write_text.Goals as goal

pub loop-i-preserved : goal.loop-i-preserved
loop-i-preserved c =
    text-next c.loop-i.file _ c.args.from c.args.size c.args.text.now c.loop-i.i _ (omega arith) c.text_byte.ensures c.loop-i.invariant
