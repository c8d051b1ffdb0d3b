-- `ascends` meets its contract, a node at a time.
use Rattle.std.proofs.Common.{sym, ap, ◌∙◌, arith, drop_of_length-le}
use Rattle.macondo.proofs.Tests.{ascends_from, from_any, first_falls, first_passes}
use Rattle.macondo.proofs.checks.ascends.Goals as goal

pub loop-v-init : goal.loop-v-init
loop-v-init c = from_any c.args.nodes.now

pub returns-then-tile-lowest : goal.returns-then-tile-lowest
returns-then-tile-lowest c =
    let i = c.loop-v in
    sym (first_falls i.lowest c.args.nodes.now i.v-index (omega arith) (omega (arith, c.tile.ensures, c.if-tile-lowest.true))) ∙ i.invariant

pub loop-v-preserved : goal.loop-v-preserved
loop-v-preserved c =
    let i = c.loop-v in
    let passes = first_passes i.lowest c.args.nodes.now i.v-index (omega arith) (omega (arith, c.tile.ensures, c.if-tile-lowest.false)) in
    sym (passes c.lowest_after-lowest.result c.lowest_after-lowest.ensures) ∙ i.invariant

pub returns : goal.returns
returns c = ap (ascends_from c.loop-v.lowest) (sym (drop_of_length-le c.args.nodes.now c.loop-v-test.false)) ∙ c.loop-v.invariant
