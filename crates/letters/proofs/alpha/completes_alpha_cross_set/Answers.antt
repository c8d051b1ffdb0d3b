-- `completes_alpha_cross_set` meets its contract.
use Rattle.std.proofs.Common.{rules, sym, ◌∙◌, arith}
use Rattle.letters.specs.AlphaSets.{accepts_at}
use Rattle.letters.proofs.AlphaLaws.{spent-end, spent-letter, spent-none, spent-step, spent-stop, completes-by}
use Rattle.letters.proofs.alpha.completes_alpha_cross_set.Goals as goal

pub copies-init : goal.copies-init
copies-init c = c.letters.invariant ∙ spent-letter _ _ _ _ c.letters-test.true

pub overflow_cast-letter : goal.overflow_cast-letter
overflow_cast-letter c = omega (arith, c.requires)

pub returns-in_err-q : goal.returns-in_err-q
unfolding accepts_at
returns-in_err-q c =
    let e = c.copies.invariant ∙ spent-stop _ _ _ _ _ (omega arith) (sym c.in_err-q.ensures) in rw (completes-by _ _ _ _ e) (search rules)

pub returns-in_default : goal.returns-in_default
unfolding accepts_at
returns-in_default c =
    let e = sym (rw c.in_default.is at c.in_ok-q.ensures) in
    rw (completes-by _ _ _ _ (c.copies.invariant ∙ spent-stop _ _ _ _ _ (omega arith) e)) (search rules)

pub copies-preserved : goal.copies-preserved
copies-preserved c =
    let e = sym (rw c.in-Some.is at c.in_ok-q.ensures) in c.copies.invariant ∙ spent-step _ _ _ _ _ _ (omega arith) e

pub letters-preserved : goal.letters-preserved
letters-preserved c = c.copies.invariant ∙ spent-none _ _ _ _ _ (omega arith)

pub returns-in_err-v : goal.returns-in_err-v
unfolding accepts_at
returns-in_err-v c = rw (completes-by _ _ _ _ (c.letters.invariant ∙ spent-end _ _ _ _ c.letters-test.false)) (search rules)

pub returns : goal.returns
unfolding accepts_at
returns c = rw (completes-by _ _ _ _ (c.letters.invariant ∙ spent-end _ _ _ _ c.letters-test.false)) (search rules)
