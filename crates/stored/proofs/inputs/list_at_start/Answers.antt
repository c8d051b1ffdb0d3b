-- `inputs::list_at_start` makes the tests of the list that the case starts with, in their order.
use Rattle.std.proofs.Common.{inl, inr, sym, ◌∙◌, arith}
use Rattle.stored.proofs.InputLaws.{empty-case, missing, no_room, too_high, there}
use Rattle.stored.proofs.inputs.list_at_start.Goals as goal

pub returns-in_err-count : goal.returns-in_err-count
returns-in_err-count c = rw c.from_residual.ensures (empty-case _ _ _ c.in_err-count.ensures.cases)

pub returns-then-rest-count : goal.returns-then-rest-count
returns-then-rest-count c =
    rw c.in_ok-count.ensures.cases.0 (elim c.then-rest-count.either [ inl h ↦ missing _ _ _ _ h | inr h ↦ no_room _ _ _ _ h.1 ])

pub returns-then-all_within : goal.returns-then-all_within
returns-then-all_within c =
    rw c.in_ok-count.ensures.cases.0 (there _ _ _ _ (omega arith) c.if-room-count.false (sym c.all_within.ensures ∙ c.if-all_within.true))

pub returns-else-all_within : goal.returns-else-all_within
returns-else-all_within c =
    rw c.in_ok-count.ensures.cases.0 (too_high _ _ _ _ (omega arith) c.if-room-count.false (sym c.all_within.ensures ∙ c.if-all_within.false))
