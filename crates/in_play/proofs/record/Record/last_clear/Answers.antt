-- `in_play::last_clear` meets its contract.
use Rattle.std.proofs.Common.{◌≡◌, ◌∙◌, ap, ap₂, arith, ◌+◌, ◌-◌, ◌*◌, ◌/◌, ◌%◌, ◌^◌, take, drop}
use Rattle.std.proofs.Math.Pow.{shl_exact}
use Rattle.std.proofs.lemmas.List.{drop-take}
use native.Mathlib.Nat.{one-mul}
use lib.Dec.{lit<}
use Rattle.in_play.specs.Groups.{joined, clear_bits}
use Rattle.in_play.proofs.record.Record.last_clear.Goals as goal

pub returns : goal.returns
returns c =
    let total = c.args.self.total in
    let bits = c.args.self.bits.now in
    let first = total / 64 * 8 in
    let end : first + (c.div_ceil-end.result - first) ≡ (total + 7) / 8 = omega (arith, c.div_ceil-end.ensures) in
    let part = ap (λ n. joined (drop first (take n bits))) end in
    let past = shl_exact 1 (total % 64) 64 (lit< tt) (omega arith) ∙ one-mul (2 ^ (total % 64)) in
    ap₂ (λ a b. clear_bits a % b) (c.short_group.ensures ∙ rw (← drop-take first (c.div_ceil-end.result - first) bits) part) past
