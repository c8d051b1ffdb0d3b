-- `word_from` meets its contract, turn by turn.
use Rattle.std.proofs.Common.{refl, sym, ◌∙◌}
use Rattle.std.proofs.lemmas.Result.{err_from_is_err_and}
use Rattle.lookup.proofs.WordByIndexLaws.{turn-out, turn_last, turn-stop, turn-down, turn-none, turn-next}
use Rattle.lookup.proofs.Buffer.{by-stop, by-full, by_last, by_down, by_next}
use Rattle.lookup.proofs.by_tile.Numbered.word_from.Goals as goal

pub returns-then-word-n : goal.returns-then-word-n
returns-then-word-n c =
    by-full _ _ _ _ c.loop-p.invariant (turn_last _ _ _ _ c.loop-p-test.true (sym c.ends_at.ensures ∙ c.if-ends_at.true)) c.if-word-n.true

pub returns-then-ends_at : goal.returns-then-ends_at
returns-then-ends_at c =
    by_last _ _ _ _ c.loop-p.invariant (turn_last _ _ _ _ c.loop-p-test.true (sym c.ends_at.ensures ∙ c.if-ends_at.true)) c.tile.ensures
    c.if-word-n.false

pub returns-in_err-words : goal.returns-in_err-words
returns-in_err-words c =
    let p = err_from_is_err_and c.from_residual.result c.from_residual.ensures.1 in
    rw (p.1, p.2)
    (by-stop _ _ _ _ c.loop-p.invariant
    (turn-stop _ _ _ _ c.loop-p-test.true (sym c.ends_at.ensures ∙ c.if-ends_at.false) (sym c.in_err-words.ensures)))

pub returns-then-n-word : goal.returns-then-n-word
returns-then-n-word c =
    let longer = sym c.ends_at.ensures ∙ c.if-ends_at.false in
    by-full _ _ _ _ c.loop-p.invariant
    (turn-down _ _ _ _ c.loop-p-test.true longer (sym c.in_ok-words.ensures) refl c.if-idx-words.true) c.if-n-word.true

pub loop-p-preserved-then-idx-words : goal.loop-p-preserved-then-idx-words
loop-p-preserved-then-idx-words c =
    let longer = sym c.ends_at.ensures ∙ c.if-ends_at.false in
    by_down _ _ _ _ c.loop-p.invariant
    (turn-down _ _ _ _ c.loop-p-test.true longer (sym c.in_ok-words.ensures) c.accepts_bit-idx.ensures c.if-idx-words.true)
    c.tile-then-idx-words.ensures c.arc_index-p.ensures c.if-n-word.false

pub returns-then-is_end : goal.returns-then-is_end
returns-then-is_end c =
    let longer = sym c.ends_at.ensures ∙ c.if-ends_at.false in
    by-stop _ _ _ _ c.loop-p.invariant
    (turn-none _ _ _ _ c.loop-p-test.true longer (sym c.in_ok-words.ensures) c.if-idx-words.false (sym c.is_end.ensures ∙ c.if-is_end.true))

pub loop-p-preserved : goal.loop-p-preserved
loop-p-preserved c =
    let longer = sym c.ends_at.ensures ∙ c.if-ends_at.false in
    by_next _ _ _ _ c.loop-p.invariant _ _
    (turn-next _ _ _ _ c.loop-p-test.true longer (sym c.in_ok-words.ensures) c.if-idx-words.false (sym c.is_end.ensures ∙ c.if-is_end.false))

pub returns : goal.returns
returns c = by-stop _ _ _ _ c.loop-p.invariant (turn-out _ _ _ _ c.loop-p-test.false)
