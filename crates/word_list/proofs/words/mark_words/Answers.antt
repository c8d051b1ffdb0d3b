-- `words::mark_words` meets its contract: the words passed are marked, and they and those left are the lexicon's.
use native.Mathlib.Omega.{arith}
use mathlib.Core.List.{List}
use Prim.Native.Nat.{ℕ, suc, ◌+◌, ◌≤◌}
use lib.ListN.{length, get_or}
use Rattle.word_list.proofs.MarkLaws.{marking_begins, word-inside, Marking-next, marking_ends}
use Rattle.word_list.proofs.words.mark_words.Goals as goal
use Rattle.word_list.proofs.words.mark_words.Goals.{In-loop-at, Start}

pub loop-at-init : goal.loop-at-init
loop-at-init c = λ ws x e. marking_begins ws c.args.marks.now

-- a turn of the loop
module _ (c : In-loop-at) where
  abbrev given : Start
  given = (goal.at.In-loop-at c).Start

  abbrev bytes : List ℕ
  bytes = given.args.list.now

  abbrev here : ℕ
  here = c.loop-at.at

  inside : here + suc (get_or bytes here 0) ≤ length bytes
  inside = let x = given.requires.lexicon in word-inside x.2 (c.loop-at.invariant x.0 x.1 x.2) c.loop-at-test.true

pub overflow_add-at-in-loop-at : goal.overflow_add-at-in-loop-at
overflow_add-at-in-loop-at c = let i = inside (goal.at.overflow_add-at-in-loop-at c).In-loop-at in let e = c.from-before.ensures in omega arith

pub loop-at-smaller : goal.loop-at-smaller
loop-at-smaller c = let i = inside (goal.at.loop-at-smaller c).In-loop-at in let e = c.from-before.ensures in omega arith

pub loop-at-preserved : goal.loop-at-preserved
loop-at-preserved c =
    let s = (goal.at.loop-at-preserved c).In-loop-at in
    let l = s.loop-at in
    let room = (given s).requires.list_in_bounds in
    λ ws x e. rw c.from-before.ensures (Marking-next e (l.invariant ws x e) s.loop-at-test.true (omega arith))

pub returns : goal.returns
returns c = λ ws x e. marking_ends e c.requires.list_nonzero c.loop-at-test.false (c.loop-at.invariant ws x e)
