-- `seek` meets its contract: a found place is one of the lent part, so it is a 32-bit number.
use Rattle.std.proofs.Common.{◌≡◌, ℕ, List, rules, arith, sym, ◌∙◌}
use Rattle.answers.specs.Answers.{Answer}
use Rattle.lookup.specs.StepsLaws.{lent-part-length}
use Rattle.lookup.specs.Walks.{seek}
use Rattle.lookup.specs.WordsBefore.{NamesBefore}
use Rattle.lookup.proofs.PassedLaws.{passed-from-lent}
use Rattle.lookup.proofs.WordsBeforeLaws.{seek-names}
use Rattle.lookup.proofs.by_tile.seek.Goals as goal

pub overflow_cast-result : goal.overflow_cast-result
overflow_cast-result c =
    let n = c.of_lent.ensures.nodes in
    let e = passed-from-lent _ _ _ _ (sym (rw c.in-Some.is at c.in_ok-node.ensures)) in
    omega (arith, lent-part-length c.args.nodes.now, rw n at e)

-- the answer of the definition names the words before the tile
both : (nodes counts : List ℕ) (p t : ℕ) {said : Answer} → said ≡ seek nodes counts p t
    → (said ≡ seek nodes counts p t) × NamesBefore nodes counts p t said
both nodes counts p t e = (e, λ g row up is h. e ∙ seek-names nodes counts p t g row up is h)

pub returns-in_err-node : goal.returns-in_err-node
unfolding seek
returns-in_err-node c = let b = both c.args.nodes.now c.args.counts.now c.args.p c.args.tile (search rules) in record { answer = b.0; names = b.1 }

pub returns-in_default : goal.returns-in_default
unfolding seek
returns-in_default c = let b = both c.args.nodes.now c.args.counts.now c.args.p c.args.tile (search rules) in record { answer = b.0; names = b.1 }

pub returns : goal.returns
unfolding seek
returns c = let b = both c.args.nodes.now c.args.counts.now c.args.p c.args.tile (search rules) in record { answer = b.0; names = b.1 }
