-- `lookups::tiles_put` meets its contract: the tiles put stand before the first mark.
use Rattle.std.proofs.Common.{◌∙◌, ap, eqb, take, rules, tests}
use Rattle.std.proofs.lemmas.Iterator.{YieldsList-from_slice}
use Rattle.std.proofs.lemmas.Iterator.Search.{position_from_yields_List}
use Rattle.replay.proofs.TileLaws.{put-tiles}
use Rattle.replay.proofs.lookups.tiles_put.Goals as goal

pub returns : goal.returns
returns c =
    let w = c.args.word.now in
    let found = position_from_yields_List (λ t. eqb t 165) c.position-put.new.self _ c.position-put.result c.position-put.ensures.ran
    (YieldsList-from_slice w (cc)) (λ x b q k. search (rules, tests)) in
    c.list_to.ensures ∙ ap (λ n. take n w) c.unwrap_or.ensures ∙ put-tiles w found
