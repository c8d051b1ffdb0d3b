-- `tile::read_tile` meets its contract: by the two digits that may stand there.
use Rattle.std.proofs.Common.{sym, ◌∙◌, ◌+◌, ◌*◌, arith, drop}
use Rattle.text.specs.TileLaws.{within-tile, within_none, digit-none, digit-zero, digit-alone, digit-pair}
use Rattle.text.proofs.tile.read_tile.Goals as goal

pub returns-in_err-first : goal.returns-in_err-first
returns-in_err-first c = rw c.from_residual.ensures (sym (digit-none (drop c.args.at c.args.text.now) (sym c.in_err-first.ensures.value)))

pub returns-then-first-eq0 : goal.returns-then-first-eq0
returns-then-first-eq0 c = let e = sym c.in_ok-first.ensures.value in sym (digit-zero (drop c.args.at c.args.text.now) (rw c.if-first-eq0.true at e))

pub returns-then-tile-le63 : goal.returns-then-tile-le63
returns-then-tile-le63 c = let e = sym c.in_ok-first.ensures.value in
    sym (digit-pair c.args.text.now c.args.at c.in_ok-first.first e (omega arith) c.in-Some.second (sym c.in-Some.ensures.value)
    ∙ within-tile _ 2 (omega arith) (omega arith))

pub returns-else-tile-le63 : goal.returns-else-tile-le63
returns-else-tile-le63 c = let e = sym c.in_ok-first.ensures.value in
    sym (digit-pair c.args.text.now c.args.at c.in_ok-first.first e (omega arith) c.in-Some.second (sym c.in-Some.ensures.value)
    ∙ within_none (c.in_ok-first.first * 10 + c.in-Some.second) 2 (omega arith))

pub returns-in-None : goal.returns-in-None
returns-in-None c = let e = sym c.in_ok-first.ensures.value in
    sym (digit-alone c.args.text.now c.args.at c.in_ok-first.first e (omega arith) (omega (arith, c.in_ok-first.ensures.small)) (sym c.in-None.ensures.value))
