-- `unused_zero` meets its contract: the places past the skipped ones are tested, each for 0.
use Rattle.std.proofs.Common.{rules, tests, eqb}
use Rattle.std.proofs.lemmas.Iterator.{YieldsList-from_slice}
use Rattle.std.proofs.lemmas.Iterator.Adapters.{YieldsList-from_skip}
use Rattle.std.proofs.lemmas.Iterator.Search.{all_from_yields_List}
use Rattle.load.specs.Loading.{zeros}
use Rattle.load.proofs.held.unused_zero.Goals as goal

pub returns : goal.returns
unfolding zeros
returns c =
    all_from_yields_List (λ b. eqb b 0) _ _ _ c.all.ensures.ran
    (YieldsList-from_skip c.args.at (YieldsList-from_slice c.args.held cc) c.skip.ensures.count) (λ x b q k. search (rules, tests))
