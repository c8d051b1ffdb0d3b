-- `lookups::word_by_index` meets its contract: the word that is lent has no tile, so that the tiles put show.
use Rattle.replay.proofs.LookupLaws.{word_fields_lem}
use Rattle.replay.proofs.TileLaws.{word-reply}
use Rattle.replay.proofs.lookups.word_by_index.Goals as goal

pub returns : goal.returns
returns c =
    let asked = c.machirsun_word_by_index-found in
    let e = word_fields_lem c.args.words.now asked.result _ _ _ _ _ _ _ _ _ _ c.list_from-graph.ensures c.word_at-count.ensures
    c.list_to.ensures c.list_from.ensures c.word_at.ensures c.word_at-2.ensures c.from-2.ensures asked.ensures c.tiles_put.ensures in
    let r = word-reply c.args.words.now in
    cc
