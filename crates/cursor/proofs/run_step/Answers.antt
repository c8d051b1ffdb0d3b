-- `run_step` meets its contract: a place in the lent part is a 32-bit number.
use Rattle.std.proofs.Common.{◌≡◌, ℕ, ◌<◌, List, length, ltb, ltb-true, arith, sym}
use Rattle.laws.specs.Cases.{split}
use Rattle.lookup.specs.Steps.{on, lent}
use Rattle.lookup.specs.StepsLaws.{stop-on, lent-part-length}
use Rattle.cursor.proofs.run_step.Goals as goal

inside : (l : List ℕ) (i : ℕ) {x : ℕ} → on x ≡ lent l i → i < length l
unfolding lent
inside l i e = split (ltb i (length l)) (ltb-true i (length l)) (λ f. stop-on (sym (rw (f, lent) at e)))

pub overflow_add-result : goal.overflow_add-result
overflow_add-result c =
    let h = rw c.lent_part-nodes.ensures at (inside _ _ c.in_ok-lent-2.ensures) in
    omega (arith, lent-part-length c.args.nodes.now)
