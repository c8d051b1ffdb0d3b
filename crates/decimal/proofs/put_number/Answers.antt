-- `put_number` meets its contract.
use Rattle.std.proofs.Common.{arith}
use Rattle.endian.proofs.PartStores.{part-stored}
use Rattle.decimal.specs.Decimal.{decimal}
use Rattle.decimal.specs.DecimalLaws.{decimal-one, length-one}
use Rattle.decimal.proofs.put_number.Goals as goal

pub put_byte-requires : goal.put_byte-requires
put_byte-requires c = omega (arith, c.requires, length-one c.args.number c.if-number-lt10.true)

pub returns-then-number-lt10 : goal.returns-then-number-lt10
returns-then-number-lt10 c = rw (decimal-one c.args.number c.if-number-lt10.true) c.put_byte.ensures

pub returns : goal.returns
returns c = let a = c.args in
    record {
      place = omega arith;
      stored = part-stored a.out.now a.at _ _ (decimal a.number) c.write_digits.ensures (omega arith) (omega arith);
    }
