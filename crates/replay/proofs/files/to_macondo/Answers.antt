-- `files::to_macondo` meets its contract: the inputs are those of the case.
use Rattle.replay.proofs.FileLaws.{macondo-replies}
use Rattle.replay.proofs.files.to_macondo.Goals as goal

pub returns : goal.returns
returns c =
    let written = c.machirsun_to_macondo-written in
    let e = macondo-replies c.args.words.now written.result _ _ _ written.ensures.flat c.args.name.now _ _ _ _ _ c.word_at-count.ensures
    c.list_from-rest.ensures c.list_from.ensures c.list_to.ensures c.word_at.ensures written.ensures.written in
    cc
