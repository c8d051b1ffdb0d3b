-- `opening::count_loaded` meets its contract: a graph that counts has its start among the counts.
use Rattle.std.proofs.Common.{◌≡◌, ap, subst, List, [], ℕ}
use Rattle.answers.specs.Answers.{Answer, gives}
use Rattle.graph.specs.Counting.{IsCounted, count_limit}
use Rattle.count.specs.Said.{said_counting}
use Rattle.listing.proofs.OpeningLaws.{start-stands, counts-done}
use Rattle.listing.proofs.opening.count_loaded.Goals as goal

-- counted, where `count_words` said so
done : {g before after : List ℕ} {lent_work : ℕ} {a : Answer} → a ≡ gives [] → IsCounted count_limit g before lent_work a after
    → IsCounted count_limit g before lent_work (gives []) after
done {g} {before} {after} {lent_work} e k = subst (λ x. IsCounted count_limit g before lent_work x after) e k

pub at_start-requires : goal.at_start-requires
at_start-requires c =
    let a = c.args in
    start-stands a.nodes.now a.counts.now a.work.now _ (done (ap said_counting c.in_ok-count_words.was) c.count_words.ensures.counted)

pub returns : goal.returns
returns c =
    let a = c.args in
    let k = c.count_words.ensures in
    counts-done a.nodes.now a.counts.now a.work.now _ (done (ap said_counting c.in_ok-count_words.was) k.counted) c.at_start.ensures k.free
