-- `write_digits` meets its contract: the digits that are left, before those that are written, are all of them; a division by ten takes the last.
use Rattle.std.proofs.Common.{◌≡◌, ◌++◌, drop}
use Rattle.decimal.specs.Decimal.{decimal}
use Rattle.decimal.proofs.PutLaws.{last_digits}
use Rattle.decimal.proofs.write_digits.Given as goal

abbrev pub invariant-loop-i : goal.invariant-loop-i
invariant-loop-i l = last_digits l.i l.left ++ drop l.i l.digits ≡ decimal l.number
