-- `batch::read_words` meets its contract: the label file's bad line comes before any word.
use Rattle.std.proofs.Common.{refl, sym, length}
use Rattle.std.proofs.lemmas.Result.{err_from_is_err_and}
use Rattle.typed.proofs.BatchLaws.{read-bad, read-good}
use Rattle.typed.proofs.batch.read_words.Goals as goal

pub returns-in_err-index : goal.returns-in_err-index
returns-in_err-index c =
    let a = c.args in
    let p = err_from_is_err_and c.from_residual.result c.from_residual.ensures.1 in
    let bad = read-bad a.labels.now a.text.now (length a.sizes.now) (length a.tiles.now) a.at c.in_err-index.field-0.0.0 (sym c.in_err-index.ensures.bad) in
    rw (p.1, p.2, bad) (record { answer = refl; tiles = refl; sizes = refl })

pub returns : goal.returns
returns c =
    let a = c.args in
    rw (read-good a.labels.now a.text.now (length a.sizes.now) (length a.tiles.now) a.at (sym c.in_ok-index.ensures.bad))
    (rw c.in_ok-index.ensures.of_file at c.batch_from.ensures)
