-- `index_from` meets its contract, step by step.
use Rattle.std.proofs.Common.{rules, sym, ◌∙◌, arith}
use Rattle.lookup.proofs.PassedLaws.{passed-after-lent}
use Rattle.lookup.proofs.WordIndexLaws.{index-end, index-next}
use Rattle.lookup.proofs.by_tile.Numbered.index_from.Goals as goal

pub returns-in_err-here : goal.returns-in_err-here
returns-in_err-here c = rw (← c.loop-tile.invariant, index-next _ _ _ _ _ _ _ c.loop-tile-test.true) (search rules)

pub returns-in_err-node : goal.returns-in_err-node
returns-in_err-node c = rw (← c.loop-tile.invariant, index-next _ _ _ _ _ _ _ c.loop-tile-test.true) (search rules)

pub returns-in_default : goal.returns-in_default
returns-in_default c = rw (← c.loop-tile.invariant, index-next _ _ _ _ _ _ _ c.loop-tile-test.true) (search rules)

pub returns-in_err-idx : goal.returns-in_err-idx
returns-in_err-idx c = rw (← c.loop-tile.invariant, index-next _ _ _ _ _ _ _ c.loop-tile-test.true) (search rules)

pub offset_bounds-self-node : goal.offset_bounds-self-node
offset_bounds-self-node c = omega (arith, passed-after-lent _ _ _ _ (sym (rw c.in-Some.is at c.in_ok-node.ensures)))

pub bounds-self-node : goal.bounds-self-node
bounds-self-node c = passed-after-lent _ _ _ _ (sym (rw c.in-Some.is at c.in_ok-node.ensures))

pub loop-tile-preserved : goal.loop-tile-preserved
loop-tile-preserved c = rw (← c.loop-tile.invariant, index-next _ _ _ _ _ _ _ c.loop-tile-test.true) (search rules)

pub returns : goal.returns
returns c = c.number_ending.ensures ∙ sym (index-end _ _ _ _ _ _ _ c.loop-tile-test.false) ∙ c.loop-tile.invariant
