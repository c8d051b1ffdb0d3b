-- `files::to_lxd` meets its contract: the inputs are those of the case.
use Rattle.replay.proofs.FileLaws.{lxd-replies}
use Rattle.replay.proofs.files.to_lxd.Goals as goal

pub returns : goal.returns
returns c =
    let written = c.machirsun_to_lxd-written in
    let e = lxd-replies c.args.words.now written.result _ _ _ written.ensures.flat _ _ _ _ _ _ _ _ _ _ c.list_from-labels.ensures
    c.word_at-label_count.ensures c.list_from-title.ensures c.word_at-title_length.ensures c.list_from-date.ensures
    c.word_at-date_length.ensures c.list_from.ensures c.list_to.ensures c.list_to-2.ensures c.list_to-3.ensures written.ensures.written in
    cc
