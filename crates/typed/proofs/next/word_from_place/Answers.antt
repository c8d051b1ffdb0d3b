-- `next::word_from_place` meets its contract: past the text there is no word, and else that of the line that begins there.
use Rattle.std.proofs.Common.{length}
use Rattle.std.proofs.lemmas.Result.{err_from_is_err_and}
use Rattle.label_index.specs.Labels.{labels_in}
use Rattle.answers.specs.Answers.{nothing}
use Rattle.typed.proofs.NextLaws.{place_end, place-line, filled-by, filled_none}
use Rattle.typed.proofs.next.word_from_place.Goals as goal

pub returns-then-text-start : goal.returns-then-text-start
returns-then-text-start c =
    let a = c.args in
    filled-by (place_end (labels_in a.index.now.file.now) a.text.now (length a.word.now) a.at c.line_start-start.ensures c.if-text-start.true) (filled_none a.word.now nothing)

pub returns-in_err-found : goal.returns-in_err-found
returns-in_err-found c =
    let a = c.args in
    let p = err_from_is_err_and c.from_residual.result c.from_residual.ensures.1 in
    rw (p.1, p.2)
    (filled-by (place-line (labels_in a.index.now.file.now) a.text.now (length a.word.now) a.at c.line_start-start.ensures c.if-text-start.false) c.in_err-found.ensures)

pub returns : goal.returns
returns c =
    let a = c.args in
    filled-by (place-line (labels_in a.index.now.file.now) a.text.now (length a.word.now) a.at c.line_start-start.ensures c.if-text-start.false) c.in_ok-found.ensures
