-- `find_in` meets its contract.
use Rattle.std.proofs.Common.{sym, ◌∙◌}
use Rattle.lookup.proofs.RunSearchLaws.{find-here, find_absent, find-next, find-out}
use Rattle.lookup.proofs.run.find_in.Goals as goal

pub returns-then-tile : goal.returns-then-tile
returns-then-tile c = sym (find-here _ _ _ c.loop-i-test.true (sym c.tile.ensures ∙ c.if-tile.true)) ∙ c.loop-i.invariant

pub returns-then-is_end : goal.returns-then-is_end
returns-then-is_end c =
    sym (find_absent _ _ _ c.loop-i-test.true (λ e. c.if-tile.false (c.tile.ensures ∙ e)) (sym c.is_end.ensures ∙ c.if-is_end.true))
    ∙ c.loop-i.invariant

pub loop-i-preserved : goal.loop-i-preserved
loop-i-preserved c =
    sym (find-next _ _ _ c.loop-i-test.true (λ e. c.if-tile.false (c.tile.ensures ∙ e)) (sym c.is_end.ensures ∙ c.if-is_end.false))
    ∙ c.loop-i.invariant

pub returns : goal.returns
returns c = sym (find-out _ _ _ c.loop-i-test.false) ∙ c.loop-i.invariant
