-- `checks::label_outside` meets its contract: each tile has a label.
use Rattle.std.proofs.Common.{arith, rules, get_or}
use Rattle.std.proofs.lemmas.Iterator.{YieldsList-from_slice}
use Rattle.std.proofs.lemmas.Iterator.Adapters.{serves_from_places}
use Rattle.laws.specs.Members.{at_in}
use Rattle.page.proofs.LabelLaws.{there}
use Rattle.page.proofs.checks.label_outside.Goals as goal

pub any-requires-clause-callable : goal.any-requires-clause-callable
any-requires-clause-callable c =
    let tiles = c.args.tiles.now in
    serves_from_places (YieldsList-from_slice tiles c.iter.ensures.rest) (λ x q r. search rules) (λ x k h e _ _ _ _ _ _ _ _.
    let there = there c.args.labels.now tiles c.requires (get_or tiles k x.now) (at_in tiles k x.now h) in omega arith)
