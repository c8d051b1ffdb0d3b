-- `closing` meets its contract.
use Rattle.std.proofs.Common.{sym, ap, ◌∙◌}
use Rattle.laws.specs.BitSets.{marked}
use Rattle.letters.proofs.AlphaLaws.{closing-out, closing_end, closing-next}
use Rattle.letters.proofs.alpha.closing.Goals as goal

pub returns-then-is_end : goal.returns-then-is_end
returns-then-is_end c =
    sym (closing_end _ _ _ c.loop-i-test.true _ (c.marked-answer.ensures ∙ ap (marked _ _) c.accepts.ensures) (sym c.is_end.ensures ∙ c.if-is_end.true))
    ∙ c.loop-i.invariant

pub loop-i-preserved : goal.loop-i-preserved
loop-i-preserved c =
    sym (closing-next _ _ _ c.loop-i-test.true _ (c.marked-answer.ensures ∙ ap (marked _ _) c.accepts.ensures) (sym c.is_end.ensures ∙ c.if-is_end.false))
    ∙ c.loop-i.invariant

pub returns : goal.returns
returns c = sym (closing-out _ _ _ c.loop-i-test.false) ∙ c.loop-i.invariant
