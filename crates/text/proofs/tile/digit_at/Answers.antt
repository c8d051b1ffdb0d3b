-- `tile::digit_at` meets its contract: past the text there is none, and else the byte there is tested.
use Rattle.std.proofs.Common.{sym, arith, ◌≤◌, length}
use Rattle.std.proofs.lemmas.Grind.{common_steps}
use Rattle.text.specs.TileLaws.{digit-here, digit-past}
use Rattle.text.proofs.tile.digit_at.Goals as goal

pub returns-in_err-b-clause-value : goal.returns-in_err-b-clause-value
returns-in_err-b-clause-value c = let past : length c.args.text.now ≤ c.args.at = search c.in_err-b.ensures.lookup in rw c.from_residual.ensures (sym (digit-past c.args.text.now c.args.at past))

pub returns-then-is_ascii_digit-clause-value : goal.returns-then-is_ascii_digit-clause-value
returns-then-is_ascii_digit-clause-value c = let h = c.in_ok-b.ensures.lookup in
    rw (digit-here c.args.text.now c.args.at (omega (arith, h)), ← h.3.1 0) (grind (arith, common_steps, c.if-is_ascii_digit.ensures.value))

pub returns-else-is_ascii_digit-clause-value : goal.returns-else-is_ascii_digit-clause-value
returns-else-is_ascii_digit-clause-value c = let h = c.in_ok-b.ensures.lookup in
    rw (digit-here c.args.text.now c.args.at (omega (arith, h)), ← h.3.1 0) (grind (arith, common_steps, c.if-is_ascii_digit.ensures.value))
