-- `put_digits` meets its contract.
use Rattle.std.proofs.Common.{arith}
use Rattle.endian.proofs.PartStores.{part-stored}
use Rattle.decimal.specs.Decimal.{decimal}
use Rattle.decimal.proofs.put_digits.Goals as goal

pub returns : goal.returns
returns c = let a = c.args in
    record {
      place = omega (arith, c.requires.0);
      stored = part-stored a.out.now _ _ _ (decimal a.number) c.write_digits.ensures (omega (arith, c.requires.0)) (omega (arith, c.requires.0));
    }
