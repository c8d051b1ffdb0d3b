-- `number_key` meets its contract: a link that leads to a key leads to one of those that are there, and the search goes on below it.
use Rattle.std.specs.Prelude.{◌≡◌, ◌+◌, ◌<◌, get_or}
use Rattle.std.proofs.Common.{arith}
use Rattle.dictionary.proofs.GrowthLaws.{numbered-found, numbered-new}
use Rattle.dictionary.proofs.SearchLaws.{seek-start, seek-below, seek-later, seek-next}
use Rattle.dictionary.proofs.number_key.Goals as goal
use Rattle.dictionary.proofs.number_key.Goals.{In-Some}

-- where a link leads to a key
module _ (c : In-Some) where
  leads : get_or c.args.dict.now c.loop-number.link 0 ≡ c.in-Some.number + 1
  leads = omega (arith, c.in-Some.ensures)

  there : c.in-Some.number < c.args.count
  there = seek-below c.requires.tree c.loop-number.invariant c.in-Some.number leads

pub loop-number-init : goal.loop-number-init
loop-number-init c = rw c.tree_of-link.ensures (seek-start c.requires.tree c.args.key (omega arith))

pub bounds-dict-at : goal.bounds-dict-at
bounds-dict-at c = let h = there (goal.at.bounds-dict-at c).In-Some in omega arith

pub bounds-dict-at-in-Some : goal.bounds-dict-at-in-Some
bounds-dict-at-in-Some c = let h = there (goal.at.bounds-dict-at-in-Some c).In-Some in omega arith

pub returns-then-from-key : goal.returns-then-from-key
returns-then-from-key c =
    let p = (goal.at.returns-then-from-key c).In-Some in
    numbered-found c.requires.tree c.args.key c.in-Some.number (there p) (omega arith)

pub loop-number-smaller : goal.loop-number-smaller
loop-number-smaller c =
    let p = (goal.at.loop-number-smaller c).In-Some in
    let later = seek-later c.requires.tree c.loop-number.invariant c.in-Some.number (leads p) in
    let below = there p in
    omega arith

pub loop-number-preserved : goal.loop-number-preserved
loop-number-preserved c =
    let p = (goal.at.loop-number-preserved c).In-Some in
    seek-next c.requires.tree c.loop-number.invariant c.in-Some.number (leads p) (λ e. omega arith)

pub returns : goal.returns
returns c = rw c.add_key.ensures (numbered-new c.requires.tree c.requires.count_lt_n.0 c.loop-number.invariant (omega (arith, c.in_default.ensures)))
