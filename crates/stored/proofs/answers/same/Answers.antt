-- `answers::same` meets its contract: lists of one length are compared entry by entry.
use Rattle.std.proofs.Common.{◌≡◌, ◌∙◌, ne_eqb, rules, tests}
use Rattle.std.proofs.lemmas.Iterator.{YieldsList-from_slice, YieldsList-from_zip}
use Rattle.std.proofs.lemmas.Iterator.Consumers.{YieldsList-at}
use Rattle.std.proofs.lemmas.Iterator.Search.{all_from_yields_List}
use Rattle.stored.proofs.SameLaws.{each_same, same-each, other_length}
use Rattle.stored.proofs.answers.same.Goals as goal

pub returns-then-stored-list : goal.returns-then-stored-list
returns-then-stored-list g c =
    let s = c.args.stored.now in
    let l = c.args.list.now in
    let road = YieldsList-from_zip (YieldsList-at c.zip.ensures.first (YieldsList-from_slice s (cc)))
    (YieldsList-from_slice {s = c.zip.result.b} l c.zip.ensures.second.0) in
    let e : c.all.result ≡ each_same g.T.Number.value s l
    = all_from_yields_List _ c.all.new.self _ c.all.result c.all.ensures.ran road (λ x b q k. search (rules, tests)) in
    rw (g.met.T.Number.values_are l) (e ∙ same-each _ s l c.if-stored-list.true)

pub returns-else-stored-list : goal.returns-else-stored-list
returns-else-stored-list g c =
    rw (g.met.T.Number.values_are c.args.list.now, ne_eqb _ _ c.if-stored-list.false)
    (other_length g.T.Number.value c.args.stored.now c.args.list.now c.if-stored-list.false)
