-- `close_word` meets its contract. The loop's invariant: the word is closed from depth d on, whatever shelf its tails are those of.
use Rattle.std.proofs.Common.{◌≡◌, ◌+◌, ◌-◌, ◌≤◌, ◌<◌, arith}
use Rattle.dictionary.specs.NumberingLaws.{number-below, count_most}
use Rattle.tails.specs.Tails.{Closable, WordCloses}
use Rattle.tails.proofs.CloseLaws.{Closes-start, shallow, holding, entry-small, closes_next, no_room, closes_done}
use Rattle.tails.proofs.close_word.Goals as goal
use Rattle.tails.proofs.close_word.Goals.{At-loop-d, Start}

-- the word can be closed, and is from depth d on
module _ (c : At-loop-d) where
  abbrev start : Start
  start = (goal.at.At-loop-d c).Start

  pub can : Closable start.args.word.now start.args.kept start.args.behind.now start.args.n start.args.dict.now start.args.count
  can = start.requires

  pub low : c.loop-d.d < 65
  low = shallow can c.loop-d.invariant

  pub few : (c.loop-d.tails < start.args.n) × (start.args.n ≤ 16777216)
  few = let h = holding can c.loop-d.invariant in (h.few, h.small)

pub loop-d-init : goal.loop-d-init
loop-d-init c = Closes-start c.requires

pub returns-then-n-tails : goal.returns-then-n-tails
unfolding WordCloses
returns-then-n-tails c =
    let p = (goal.at.returns-then-n-tails c).At-loop-d in
    λ sh xs k. no_room (can p) p.loop-d.invariant c.loop-d-test.true c.if-n-tails.true sh xs k

pub tail_key-key-requires : goal.tail_key-key-requires
tail_key-key-requires c =
    let p = (goal.at.tail_key-key-requires c).At-loop-d in
    let at : p.loop-d.d - 1 + 1 ≡ p.loop-d.d = let h = c.loop-d-test.true in omega arith in
    rw at (entry-small (can p) p.loop-d.invariant c.loop-d-test.true)

pub number_key-numbered-requires-clause-tree : goal.number_key-numbered-requires-clause-tree
number_key-numbered-requires-clause-tree c = let p = (goal.at.number_key-numbered-requires-clause-tree c).At-loop-d in (holding (can p) p.loop-d.invariant).tree

pub overflow_add-behind-in-loop-d : goal.overflow_add-behind-in-loop-d
overflow_add-behind-in-loop-d c =
    let f = few (goal.at.overflow_add-behind-in-loop-d c).At-loop-d in
    let q = c.number_key-numbered.ensures in
    let m = count_most q in
    let b = number-below q in
    omega arith

pub loop-d-preserved : goal.loop-d-preserved
loop-d-preserved c =
    let p = (goal.at.loop-d-preserved c).At-loop-d in
    let h = c.loop-d-test.true in
    let at : p.loop-d.d - 1 + 1 ≡ p.loop-d.d = omega arith in
    let r = c.number_key-numbered in
    closes_next (can p) p.loop-d.invariant h c.if-n-tails.false at c.tail_key-key.ensures r.ensures r.auto.dict

pub returns : goal.returns
unfolding WordCloses
returns c = let p = (goal.at.returns c).At-loop-d in λ sh xs k. closes_done (can p) p.loop-d.invariant c.loop-d-test.false sh xs k
