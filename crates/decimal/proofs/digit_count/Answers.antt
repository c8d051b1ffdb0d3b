-- `digit_count` meets its contract: how many digits there are is what `ilog10` says, and 0 has as many as 1.
use Rattle.std.proofs.Common.{◌≡◌, ℕ, zero, suc, ◌∙◌, ap, sym, arith, length, max}
use Rattle.decimal.specs.Decimal.{decimal}
use Rattle.decimal.specs.DecimalLaws.{decimal-count, length-one}
use Rattle.decimal.proofs.digit_count.Goals as goal

as_one : (n : ℕ) → length (decimal (max n 1)) ≡ length (decimal n)
as_one zero = length-one 1 (omega arith) ∙ sym (length-one 0 (omega arith))
as_one (suc n) = ap (λ m. length (decimal m)) (omega arith)

pub returns : goal.returns
returns c =
    let e = c.ilog10.ensures in
    let count : length (decimal (max c.args.number 1)) ≡ suc c.ilog10.result =
    rw (← c.max.ensures) (decimal-count c.ilog10.result c.max.result e.power_le e.next_power_gt) in
    omega (arith, count, as_one c.args.number)
