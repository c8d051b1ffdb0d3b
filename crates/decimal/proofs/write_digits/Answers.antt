-- `write_digits` meets its contract: the digits that are left, before those that are written, are all of them; a division by ten takes the last.
use Rattle.std.proofs.Common.{◌≡◌, ◌-◌, ◌∙◌, arith}
use Rattle.decimal.proofs.PutLaws.{none_written, digit-written}
use Rattle.decimal.proofs.write_digits.Goals as goal

pub loop-i-init : goal.loop-i-init
loop-i-init c = none_written c.args.digits.now c.args.number c.requires

pub loop-i-preserved : goal.loop-i-preserved
loop-i-preserved c = let i = c.loop-i in digit-written i.digits (i.i - 1) i.left i.i (omega arith) (omega arith) ∙ i.invariant

pub returns : goal.returns
returns c = let e : c.loop-i.i ≡ 0 = omega arith in rw e at c.loop-i.invariant
