-- `run_length` meets its contract: the tails passed and those of the run that are left make the whole run.
use Prim.Native.Nat.{◌+◌, ◌≤◌, ◌<◌}
use native.Mathlib.Omega.{arith}
use lib.ListN.{length}
use mathlib.Core.Path.{sym, subst}
use Rattle.shelf.specs.Shelf.{Shelf}
use Rattle.tails.specs.Tails.{TailsIn}
use Rattle.tails.specs.TailsLaws.{tail_at}
use Rattle.build.proofs.RunLaws.{Passing, passing-starts, passing-goes, passing-done}
use Rattle.build.proofs.places.run_length.Goals as goal
use Rattle.build.proofs.places.run_length.Goals.{After-tail_after-at, In-loop-at, Start}

pub loop-at-init : goal.loop-at-init
loop-at-init c = λ sh t h. passing-starts sh _ h

-- a turn of the loop, by the tails that the call is asked with
module _ (c : In-loop-at) where
  abbrev asked : Start
  asked = (goal.at.In-loop-at c).Start

  here : Passing asked.requires.0 asked.args.i c.loop-at.at c.loop-at.passed
  here = c.loop-at.invariant asked.requires.0 asked.requires.1 asked.requires.2

  some : 0 < c.loop-at.at
  some = omega (arith, c.loop-at-test.true)

pub tail_after-at-requires : goal.tail_after-at-requires
tail_after-at-requires c =
    let t = (asked c).requires.1 in
    let few = t.few in
    let known = (here c).known in
    (t.small, t.room, some c, omega arith)

pub overflow_add-passed : goal.overflow_add-passed
overflow_add-passed c =
    let k = (goal.at.overflow_add-passed c).In-loop-at in
    let t = (asked k).requires.1 in
    let few = t.few in
    let small = t.small in
    let last = (asked k).requires.2 in
    let fallen = (here k).fallen in
    let more = some k in
    omega arith

-- the tail after the one at hand
module _ (c : After-tail_after-at) where
  next : (sh : Shelf) → TailsIn (asked (goal.at.After-tail_after-at c).In-loop-at).args.n (asked (goal.at.After-tail_after-at c).In-loop-at).args.work.now sh → (asked (goal.at.After-tail_after-at c).In-loop-at).args.i ≤ length sh
      → Passing sh (asked (goal.at.After-tail_after-at c).In-loop-at).args.i c.tail_after-at.result (c.loop-at.passed + 1)
  next sh t h =
      subst (λ x. Passing sh (asked (goal.at.After-tail_after-at c).In-loop-at).args.i x (c.loop-at.passed + 1)) (sym c.tail_after-at.ensures)
      (passing-goes t (c.loop-at.invariant sh t h) (some (goal.at.After-tail_after-at c).In-loop-at))

pub loop-at-smaller : goal.loop-at-smaller
loop-at-smaller c =
    let k = (goal.at.loop-at-smaller c).In-loop-at in
    let r = tail_at (asked k).requires.1 k.loop-at.at (some k) (here k).known in
    omega (arith, r.next-is, r.next-below, c.tail_after-at.ensures)

pub loop-at-preserved : goal.loop-at-preserved
loop-at-preserved c = next c

pub returns : goal.returns
returns c = λ sh t h. passing-done t (c.loop-at.invariant sh t h) (omega (arith, c.loop-at-test.false))
