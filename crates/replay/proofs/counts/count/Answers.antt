-- `counts::count` meets its contract: the number of the refusal, its arc, its node and the counts of the nodes are compared.
use Rattle.replay.proofs.CountLaws.{count-replies}
use Rattle.replay.proofs.counts.count.Goals as goal

pub returns : goal.returns
returns c =
    let asked = c.machirsun_count_words-counted in
    count-replies c.args.nodes.now _ c.args.stored.now _ asked.result _ _ asked.ensures.counted asked.ensures.flat c.list_to.ensures c.same_then.ensures
