-- `words::shared` meets its contract: it counts the pairs of tiles before the first that are not equal.
use Rattle.std.proofs.Common.{take, rules, tests, ◌∙◌}
use Rattle.std.proofs.lemmas.Iterator.{YieldsList-from_slice, YieldsList-from_zip}
use Rattle.std.proofs.lemmas.Iterator.Search.{YieldsList-from_take_while}
use Rattle.std.proofs.lemmas.Iterator.Consumers.{count_from_yields_List}
use Rattle.word_list.proofs.PartingLaws.{equal_pair, shared-pairs}
use Rattle.word_list.proofs.words.shared.Goals as goal

pub returns : goal.returns
returns c =
    let v = c.args.v.now in
    let w = c.args.w.now in
    let m = c.min-most.result in
    count_from_yields_List _ _ c.count.ensures.ran
    (YieldsList-from_take_while _ equal_pair (YieldsList-from_zip (YieldsList-from_slice (take m v) cc) (YieldsList-from_slice (take m w) cc)) c.take_while.ensures.closure
    c.take_while.ensures.done (λ x b q k. search (rules, tests)))
    ∙ shared-pairs v w m c.min-most.ensures
