-- `number_arc` and `number_run` meet their contracts: what an arc and a run meet is held, or too much is met. The run_entries left falls from the one
-- to the other and back.
use mathlib.Core.Path.{◌≡◌, refl, sym, ap, ◌∙◌, subst}
use mathlib.Core.List.{List}
use Rattle.std.specs.Prelude.{Option, Some, None}
use Prim.Native.Nat.{ℕ, ◌+◌, ◌-◌, ◌*◌, ◌≤◌, ◌<◌}
use native.Mathlib.Omega.{arith}
use lib.Dec.{eqb}
use lib.ListN.{length, get_or, drop}
use Rattle.node.specs.Nodes.{kbwg, arc}
use Rattle.export.specs.Blocks.{met, met_by, total}
use Rattle.block_record.specs.Record.{order_in}
use Rattle.block_record.specs.RecordLaws.{met-by-none, met-by-arc, place_none, place-some}
use Rattle.block_record.specs.declared.BlockTally.{BlockTally}
use Rattle.shelf.specs.Shelf.{Shelf, run_entries, child_numbers}
use Rattle.tails.specs.TailsLaws.{TailAt}
use Rattle.build.specs.Numbering.{most_nodes, run_length, Recorded, RunsNumberedAs}
use Rattle.build.proofs.RunLaws.{entry-child}
use Rattle.build.proofs.NumberingLaws.{numbers-none, numbers-old, numbers-new, blocks-left, run_over, pushed-recorded, pushed-tails, pushed-order}
use Rattle.build.proofs.NumberingLaws.{walk, run-met, placed_as, Along, along-starts, along-done, here, along_over, along-goes}
use Rattle.build.proofs.places.+number_arc_number_run.Goals as goal
use Rattle.build.proofs.places.+number_arc_number_run.Goals.{number_run-After-number_arc, number_run-After-push_block-tally, number_run-After-tail_after-after, number_run-At-loop-at, number_run-Else-chain_left-eq0, number_run-Else-t-size, number_run-In-loop-at, number_run-Start}

pub number_arc-place_of-requires : goal.number_arc-place_of-requires
number_arc-place_of-requires b c = let h = c.requires.2 in omega (arith, c.requires.1.tails.few, c.requires.1.tails.room)

pub number_arc-returns-then-child-eq0 : goal.number_arc-returns-then-child-eq0
number_arc-returns-then-child-eq0 b c = λ sh r h. numbers-none r (met-by-none (child_numbers sh) _ _ _ c.if-child-eq0.true)

pub number_arc-number_run-requires : goal.number_arc-number_run-requires
number_arc-number_run-requires b c =
    let new = place_none c.args.work.now c.args.child (sym c.in_default.ensures) in
    (omega (arith, c.decreases), ((c.requires, omega (arith, c.if-child-eq0.false)), new))

pub number_arc-returns-in_default : goal.number_arc-returns-in_default
number_arc-returns-in_default b c = λ sh r h.
    let a = c.args in
    rw (met-by-arc (child_numbers sh) a.chain_left _ a.child c.if-child-eq0.false) (c.number_run.ensures sh r h)

pub number_arc-returns : goal.number_arc-returns
number_arc-returns b c = λ sh r h.
    let a = c.args in
    rw (met-by-arc (child_numbers sh) a.chain_left _ a.child c.if-child-eq0.false)
    (numbers-old r a.child h a.chain_left (place-some a.work.now a.child _ (sym c.in-Numbered.ensures)))

-- the call
module _ {b : ℕ} (s : number_run-Start b) where
  abbrev n : ℕ
  n = s.args.n

  abbrev lent : List ℕ
  lent = s.args.work.now

  abbrev tally : BlockTally
  tally = s.args.t

  abbrev own : Shelf
  own = s.requires.numberable.0.0

  recorded : Recorded own n lent tally
  recorded = s.requires.numberable.0.1

  known : s.args.i ≤ length own
  known = s.requires.numberable.0.2

  new : get_or lent s.args.i 0 ≡ 0
  new = s.requires.i_value

pub number_run-returns-then-chain_left-eq0 : goal.number_run-returns-then-chain_left-eq0
number_run-returns-then-chain_left-eq0 b c = λ sh r h. let s = (goal.at.number_run-returns-then-chain_left-eq0 b c).Start in numbers-new r s.args.i h (new s) s.args.chain_left c.if-chain_left-eq0.true

-- where a run is left in the run_entries
abbrev called : {b : ℕ} → number_run-Else-chain_left-eq0 b → number_run-Start b
called {b = b} c = (goal.at.number_run-Else-chain_left-eq0 b c).Start

pub number_run-run_length-size-requires : goal.number_run-run_length-size-requires
number_run-run_length-size-requires b c = let s = called c in (own s, (recorded s).tails, known s)

pub number_run-overflow_sub-t : goal.number_run-overflow_sub-t
number_run-overflow_sub-t b c = (recorded (called (goal.at.number_run-overflow_sub-t b c).Else-chain_left-eq0)).placed.within

pub number_run-returns-then-t-size : goal.number_run-returns-then-t-size
number_run-returns-then-t-size b c = λ sh r h.
    let e = (goal.at.number_run-returns-then-t-size b c).Else-chain_left-eq0 in
    let s = called e in
    let size = c.run_length-size.ensures sh r.tails h in
    run_over r s.args.i h (new s) s.args.chain_left e.if-chain_left-eq0.false (omega (arith, c.if-t-size.true))

pub number_run-push_block-tally-requires : goal.number_run-push_block-tally-requires
number_run-push_block-tally-requires b c =
    let s = called (goal.at.number_run-push_block-tally-requires b c).Else-chain_left-eq0 in
    let few = blocks-left (recorded s) s.args.i (known s) (new s) in
    let within = (recorded s).placed.within in
    let fits = c.if-t-size.false in
    let tails = (recorded s).tails in
    let last = known s in
    (tails.small, omega (arith, tails.room), omega (arith, tails.few), few, omega arith, omega arith)

-- where the run itself is numbered
module _ {b : ℕ} (c : number_run-After-push_block-tally b) where
  abbrev sized : number_run-Else-t-size b
  sized = (goal.at.number_run-After-push_block-tally b c).Else-t-size

  abbrev some_left : number_run-Else-chain_left-eq0 b
  some_left = (goal.at.number_run-After-push_block-tally b c).Else-chain_left-eq0

  abbrev from : number_run-Start b
  from = (goal.at.number_run-After-push_block-tally b c).Start

  abbrev begun : List ℕ
  begun = c.push_block-tally.new.work

  abbrev begun-tally : BlockTally
  begun-tally = c.push_block-tally.result

  module _ (sh : Shelf) (r : Recorded sh (n from) (lent from) (tally from)) (h : from.args.i ≤ length sh) where
    size : sized.run_length-size.result ≡ run_length sh from.args.i
    size = sized.run_length-size.ensures sh r.tails h

    begun-recorded : Recorded sh (n from) begun begun-tally
    begun-recorded = pushed-recorded r from.args.i h (new from) size sized.if-t-size.false c.push_block-tally.ensures c.push_block-tally.auto.work

    begun-tails : drop (2 * n from) begun ≡ drop (2 * n from) (lent from)
    begun-tails = pushed-tails r from.args.i h (new from) size sized.if-t-size.false c.push_block-tally.ensures

    -- what is met from its arcs is what is met from it
    whole : walk sh (from.args.chain_left - 1) (order_in (n from) begun begun-tally) (run_entries sh from.args.i)
        ≡ met eqb (child_numbers sh) from.args.chain_left (order_in (n from) (lent from) (tally from)) from.args.i
    whole =
        run-met r from.args.i h (new from) from.args.chain_left (order_in (n from) begun begun-tally) some_left.if-chain_left-eq0.false
        (pushed-order r from.args.i h (new from) size sized.if-t-size.false c.push_block-tally.ensures)

pub number_run-loop-at-init : goal.number_run-loop-at-init
number_run-loop-at-init b c = (refl, λ sh r h. along-starts h r)

-- ---- a turn of the loop
module _ {b : ℕ} (c : number_run-At-loop-at b) where
  abbrev first : number_run-After-push_block-tally b
  first = (goal.at.number_run-At-loop-at b c).After-push_block-tally

  abbrev s : number_run-Start b
  s = (goal.at.number_run-At-loop-at b c).Start

  abbrev left_below : ℕ
  left_below = s.args.chain_left - 1

  -- so far, by the tails that the call is asked with
  own-along : Along (own s) (n s) left_below (order_in (n s) (begun first) (begun-tally first)) s.args.i (begun first) c.loop-at.work c.loop-at.tally c.loop-at.at
  own-along = c.loop-at.invariant.1 (own s) (begun-recorded first (own s) (recorded s) (known s)) (known s)

-- with a tail at hand
module _ {b : ℕ} (c : number_run-In-loop-at b) where
  abbrev turn : number_run-At-loop-at b
  turn = (goal.at.number_run-In-loop-at b c).At-loop-at

  some : 0 < turn.loop-at.at
  some = omega (arith, c.loop-at-test.true)

  tail : TailAt (n (s turn)) turn.loop-at.work (own (s turn)) turn.loop-at.at
  tail = here (own-along turn) some

  readable : (n (s turn) ≤ 16777216) × (6 * n (s turn) ≤ length turn.loop-at.work) × (0 < turn.loop-at.at) × (turn.loop-at.at ≤ n (s turn))
  readable =
      let k = own-along turn in
      let t = k.recorded.tails in
      let last = k.known in
      (t.small, t.room, some, omega (arith, t.few))

pub number_run-node_of-requires : goal.number_run-node_of-requires
number_run-node_of-requires b c = readable c

pub number_run-tail_after-after-requires : goal.number_run-tail_after-after-requires
number_run-tail_after-after-requires b c = readable (goal.at.number_run-tail_after-after-requires b c).In-loop-at

-- the child and the tail after it read
module _ {b : ℕ} (c : number_run-After-tail_after-after b) where
  abbrev in-turn : number_run-In-loop-at b
  in-turn = (goal.at.number_run-After-tail_after-after b c).In-loop-at

  abbrev child-read : ℕ
  child-read = c.arc_index-child.result

  child-is : (sh : Shelf) (r : TailAt (n (s (turn in-turn))) (turn in-turn).loop-at.work sh (turn in-turn).loop-at.at) → child-read ≡ r.entry.child
  child-is sh r = c.arc_index-child.ensures ∙ ap (arc kbwg) c.node_of.ensures ∙ entry-child r

pub number_run-number_arc-requires : goal.number_run-number_arc-requires
number_run-number_arc-requires b c =
    let a = (goal.at.number_run-number_arc-requires b c).After-tail_after-after in
    let k = in-turn a in
    let t = turn k in
    let child = child-is a (own (s t)) (tail k) in
    let lower = (tail k).child-below in
    let last = (own-along t).known in
    (omega (arith, (some_left (first t)).if-chain_left-eq0.false, (s t).decreases), (own (s t), (own-along t).recorded, omega arith))

-- the arc of the tail at hand followed
module _ {b : ℕ} (c : number_run-After-number_arc b) where
  abbrev read : number_run-After-tail_after-after b
  read = (goal.at.number_run-After-number_arc b c).After-tail_after-after

  abbrev at_turn : number_run-At-loop-at b
  at_turn = (goal.at.number_run-After-number_arc b c).At-loop-at

  as_long : length c.number_arc.new.work ≡ length at_turn.loop-at.work
  as_long = c.number_arc.auto.work

  module _ (sh : Shelf) (r : Recorded sh (n (s at_turn)) (begun (first at_turn)) (begun-tally (first at_turn))) (h : (s at_turn).args.i ≤ length sh) where
    abbrev k : Along sh (n (s at_turn)) (left_below at_turn) (order_in (n (s at_turn)) (begun (first at_turn)) (begun-tally (first at_turn))) (s at_turn).args.i
        (begun (first at_turn)) at_turn.loop-at.work at_turn.loop-at.tally at_turn.loop-at.at
    k = at_turn.loop-at.invariant.1 sh r h

    abbrev tail_here : TailAt (n (s at_turn)) at_turn.loop-at.work sh at_turn.loop-at.at
    tail_here = here k (some (in-turn read))

    answers : (a : Option BlockTally) → c.number_arc.result ≡ a
        → RunsNumberedAs sh (n (s at_turn)) at_turn.loop-at.work c.number_arc.new.work
        (met_by (child_numbers sh) (left_below at_turn) (order_in (n (s at_turn)) at_turn.loop-at.work at_turn.loop-at.tally) tail_here.entry.child) a
    answers a e =
        let child = child-is read sh tail_here in
        let known = k.known in
        let lower = tail_here.child-below in
        rw (← child, ← e) (c.number_arc.ensures sh k.recorded (omega arith))

pub number_run-returns-in_err-tally : goal.number_run-returns-in_err-tally
number_run-returns-in_err-tally b c = rw c.from_residual.ensures (λ sh r h.
    let a = (goal.at.number_run-returns-in_err-tally b c).After-number_arc in
    let t = at_turn a in
    let begun-here = begun-recorded (first t) sh r h in
    subst (λ (x : List ℕ). most_nodes < 2 + total (run_length sh) x) (whole (first t) sh r h)
    (along_over (k a sh begun-here h) (some (in-turn (read a))) (answers a sh begun-here h None c.in_err-tally.was)))

pub number_run-loop-at-smaller : goal.number_run-loop-at-smaller
number_run-loop-at-smaller b c =
    let a = (goal.at.number_run-loop-at-smaller b c).After-number_arc in
    let x = tail (in-turn (read a)) in
    omega (arith, (read a).tail_after-after.ensures, x.next-is, x.next-below)

pub number_run-loop-at-preserved : goal.number_run-loop-at-preserved
number_run-loop-at-preserved b c =
    let a = (goal.at.number_run-loop-at-preserved b c).After-number_arc in
    let t = at_turn a in (
      as_long a ∙ t.loop-at.invariant.0,
      λ sh r h. along-goes (k a sh r h) (some (in-turn (read a))) (answers a sh r h (Some c.in_ok-tally.tally) c.in_ok-tally.was)
          (as_long a) (read a).tail_after-after.ensures,
    )

pub number_run-returns : goal.number_run-returns
number_run-returns b c = λ sh r h.
    let t = (goal.at.number_run-returns b c).At-loop-at in
    let m = along-done (t.loop-at.invariant.1 sh (begun-recorded (first t) sh r h) h) (omega (arith, c.loop-at-test.false)) in
    record { placed = placed_as (whole (first t) sh r h) m.placed; tails = m.tails ∙ begun-tails (first t) sh r h }
