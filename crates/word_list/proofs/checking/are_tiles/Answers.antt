-- `checking::are_tiles` meets its contract.
use Rattle.std.proofs.Common.{rules, tests, ◌≡◌, refl, ◌∙◌, Bool, not, List, [], ◌∷◌, ℕ}
use Rattle.std.specs.List.{list_all}
use Rattle.std.proofs.lemmas.Iterator.{YieldsList-from_slice}
use Rattle.std.proofs.lemmas.Iterator.Search.{all_from_yields_List}
use Rattle.laws.specs.Cases.{split}
use Rattle.laws.specs.Lists.{some_of}
use Rattle.built.specs.Listed.{no_tile}
use Rattle.word_list.proofs.checking.are_tiles.Goals as goal

each_not : (f : ℕ → Bool) (xs : List ℕ) → list_all (λ x. not (f x)) xs ≡ not (some_of f xs)
each_not f [] = refl
each_not f (x ∷ xs) = split (f x) (λ e. rw e) (λ e. rw e (each_not f xs))

pub returns : goal.returns
returns c =
    all_from_yields_List (λ t. not (no_tile t)) _ _ _ c.all.ensures.ran (YieldsList-from_slice c.args.word.now cc) (λ x b q k. search (rules, tests))
    ∙ each_not no_tile c.args.word.now
