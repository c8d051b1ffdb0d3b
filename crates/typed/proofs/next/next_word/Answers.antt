-- `next::next_word` meets its contract: the label file's bad line comes before any word.
use Rattle.std.proofs.Common.{◌∷◌, [], sym, length}
use Rattle.std.proofs.lemmas.Result.{err_from_is_err_and}
use Rattle.answers.specs.Answers.{refused}
use Rattle.typed.proofs.NextLaws.{filled_none, filled-by, call-bad, call-good}
use Rattle.typed.proofs.next.next_word.Goals as goal

pub returns-in_err-index : goal.returns-in_err-index
returns-in_err-index c =
    let a = c.args in
    let k = c.in_err-index.field-0.0.0 in
    let p = err_from_is_err_and c.from_residual.result c.from_residual.ensures.1 in
    rw (p.1, p.2)
    (filled-by (call-bad a.labels.now a.text.now (length a.word.now) a.at k (sym c.in_err-index.ensures.bad)) (filled_none a.word.now (refused 27 (k ∷ []))))

pub returns : goal.returns
returns c =
    let a = c.args in
    filled-by (call-good a.labels.now a.text.now (length a.word.now) a.at (sym c.in_ok-index.ensures.bad))
    (rw c.in_ok-index.ensures.of_file at c.word_from_place.ensures)
