-- `letter_set` meets its contract, a node at a time.
use Rattle.std.specs.Prelude.{◌+◌, bit_or}
use Rattle.std.proofs.Common.{sym, ap, ◌∙◌, arith}
use Rattle.letter_sets.specs.Letters.{set_by}
use Rattle.letter_sets.proofs.RunLaws.{set_past, set-end, set_next}
use Rattle.letter_sets.proofs.runs.letter_set.Goals as goal

pub returns-then-is_end : goal.returns-then-is_end
returns-then-is_end c =
    c.with_letter-set.ensures ∙ sym (set-end c.args.ranks.now c.args.nodes.now c.loop-i.i _ (omega arith) (sym c.is_end.ensures ∙ c.if-is_end.true))
    ∙ c.loop-i.invariant

pub loop-i-preserved : goal.loop-i-preserved
loop-i-preserved c =
    ap (λ s. bit_or s (set_by c.args.ranks.now c.args.nodes.now (c.loop-i.i + 1))) c.with_letter-set.ensures
    ∙ sym (set_next c.args.ranks.now c.args.nodes.now c.loop-i.i _ (omega arith) (sym c.is_end.ensures ∙ c.if-is_end.false)) ∙ c.loop-i.invariant

pub returns : goal.returns
returns c = sym (set_past c.args.ranks.now c.args.nodes.now c.loop-i.i _ c.loop-i-test.false) ∙ c.loop-i.invariant
