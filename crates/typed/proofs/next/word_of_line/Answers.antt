-- `next::word_of_line` meets its contract: the line's tiles, with its two ends and the place after its ending.
use Rattle.std.proofs.Common.{length}
use Rattle.std.proofs.lemmas.Result.{err_from_is_err_and}
use Rattle.label_index.specs.Labels.{labels_in}
use Rattle.typed.proofs.NextLaws.{word-on-line}
use Rattle.typed.proofs.next.word_of_line.Goals as goal

pub returns-in_err-tiles : goal.returns-in_err-tiles
returns-in_err-tiles c =
    let p = err_from_is_err_and c.from_residual.result c.from_residual.ensures.1 in
    rw (p.1, p.2) (word-on-line c.next_line-line.ensures (labels_in c.args.index.now.file.now) (length c.args.word.now) c.in_err-tiles.ensures)

pub returns : goal.returns
returns c = word-on-line c.next_line-line.ensures (labels_in c.args.index.now.file.now) (length c.args.word.now) c.in_ok-tiles.ensures
