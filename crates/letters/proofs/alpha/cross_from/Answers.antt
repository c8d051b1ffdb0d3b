-- `cross_from` meets its contract, node by node.
use Rattle.std.proofs.Common.{sym, ◌∙◌, arith}
use Rattle.std.proofs.lemmas.Result.{err_from_is_err_and}
use Rattle.letters.proofs.AlphaLaws.{letters-end, letters-one, copies-none, copies-one, node-out, node_greater, node-no-arc, node-arc, node-stop, node_end, node-next}
use Rattle.letters.proofs.alpha.cross_from.Goals as goal

pub copies-init : goal.copies-init
copies-init c = sym (letters-one _ _ _ _ _ c.letters-test.true) ∙ c.letters.invariant

pub run-init : goal.run-init
run-init c = sym (copies-one _ _ _ _ _ _ _ (omega arith)) ∙ c.copies.invariant

pub returns-then-letter-tile : goal.returns-then-letter-tile
returns-then-letter-tile c =
    sym (node_greater _ _ _ _ _ _ c.run-test.true (omega (arith, c.tile-tile.ensures, c.if-letter-tile.true))) ∙ c.run.invariant

pub returns-then-p-eq0-2 : goal.returns-then-p-eq0-2
returns-then-p-eq0-2 c =
    sym (node-no-arc _ _ _ _ _ _ c.run-test.true (sym c.tile-tile.ensures ∙ c.if-tile-letter.true) (sym c.arc_index-p-then-tile-letter.ensures ∙ c.if-p-eq0-2.true))
    ∙ c.run.invariant

pub copies-preserved : goal.copies-preserved
copies-preserved c =
    sym (node-arc _ _ _ _ _ _ c.run-test.true _ c.arc_index-p-then-tile-letter.ensures (sym c.tile-tile.ensures ∙ c.if-tile-letter.true) c.if-p-eq0-2.false)
    ∙ c.run.invariant

pub returns-in_err-yes : goal.returns-in_err-yes
returns-in_err-yes c =
    let p = err_from_is_err_and c.from_residual-in_err-yes.result c.from_residual-in_err-yes.ensures.1 in
    rw p.1
    (sym (node-stop _ _ _ _ _ _ c.run-test.true (omega (arith, c.tile-tile.ensures, c.if-letter-tile.false))
    (λ e. c.if-tile-letter.false (c.tile-tile.ensures ∙ e)) (sym c.in_err-yes.ensures))
    ∙ c.run.invariant)

pub returns-then-is_end : goal.returns-then-is_end
returns-then-is_end c =
    sym (node_end _ _ _ _ _ _ c.run-test.true (omega (arith, c.tile-tile.ensures, c.if-letter-tile.false)) (λ e. c.if-tile-letter.false (c.tile-tile.ensures ∙ e))
    _ (sym c.in_ok-yes.ensures) _ c.marked-answer.ensures (sym c.is_end.ensures ∙ c.if-is_end.true))
    ∙ c.run.invariant

pub run-preserved : goal.run-preserved
run-preserved c =
    sym (node-next _ _ _ _ _ _ c.run-test.true (omega (arith, c.tile-tile.ensures, c.if-letter-tile.false)) (λ e. c.if-tile-letter.false (c.tile-tile.ensures ∙ e))
    _ (sym c.in_ok-yes.ensures) _ c.marked-answer.ensures (sym c.is_end.ensures ∙ c.if-is_end.false))
    ∙ c.run.invariant

pub returns-in-copies : goal.returns-in-copies
returns-in-copies c = sym (node-out _ _ _ _ _ _ c.run-test.false) ∙ c.run.invariant

pub letters-preserved : goal.letters-preserved
letters-preserved c = sym (copies-none _ _ _ _ _ _ (omega arith)) ∙ c.copies.invariant

pub returns : goal.returns
returns c = c.closing.ensures ∙ sym (letters-end _ _ _ _ _ c.letters-test.false) ∙ c.letters.invariant
