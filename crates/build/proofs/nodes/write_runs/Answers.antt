-- `write_runs` meets its contract: what is left to write, after what is written, is the whole. Each tail goes on along its run, or to the next
-- run.
use mathlib.Core.Path.{◌≡◌, refl, sym, ap, ◌∙◌, subst}
use mathlib.Core.List.{[], ◌∷◌}
use Prim.Native.Nat.{ℕ, ◌+◌, ◌-◌, ◌*◌, ◌≤◌, ◌<◌, min}
use native.Mathlib.Omega.{arith}
use lib.ListN.{length, set}
use lib.Seq.{sets}
use Rattle.laws.specs.Tests.{measure_falls}
use Rattle.node.specs.Nodes.{kbwg, arc}
use Rattle.block_record.specs.Record.{child_in}
use Rattle.shelf.specs.Shelf.{Shelf}
use Rattle.tails.specs.TailsLaws.{TailAt}
use Rattle.build.specs.Writing.{linked_to, WritesFrom}
use Rattle.build.proofs.RunLaws.{entry-child}
use Rattle.build.proofs.WritingLaws.{written, tail_here, left-some, RunsWriting, writing-starts, writing-on, writing_over}
use Rattle.build.proofs.nodes.write_runs.Goals as goal
use Rattle.build.proofs.nodes.write_runs.Goals.{After-tail_after-after, At-loop-j, In-loop-j, Start}

module _ (s : Start) where
  abbrev own : Shelf
  own = s.requires.0

  writes : WritesFrom own s.args.n s.args.work.now s.args.blocks
  writes = s.requires.1

pub offset_bounds-work-n : goal.offset_bounds-work-n
offset_bounds-work-n c = let t = (writes (goal.at.offset_bounds-work-n c).Start).tails in omega (arith, t.room, t.few)

pub bounds-work-n : goal.bounds-work-n
bounds-work-n c = let t = (writes (goal.at.bounds-work-n c).Start).tails in omega (arith, t.room, t.few)

pub loop-j-init : goal.loop-j-init
loop-j-init c = λ sh h. writing-starts h _ _ refl

-- a turn of the loop, by the tails that the call is asked with
module _ (c : In-loop-j) where
  abbrev turn : At-loop-j
  turn = (goal.at.In-loop-j c).At-loop-j

  abbrev s : Start
  s = (goal.at.In-loop-j c).Start

  more : turn.loop-j.j < s.args.blocks
  more = c.loop-j-test.true

  writing : RunsWriting (writes s) s.args.nodes.now turn.loop-j.nodes turn.loop-j.at turn.loop-j.j turn.loop-j.i
  writing = turn.loop-j.invariant (own s) (writes s)

  inside : (0 < turn.loop-j.i) × (turn.loop-j.i ≤ length (own s))
  inside = writing.inside more

  tail : TailAt s.args.n s.args.work.now (own s) turn.loop-j.i
  tail = tail_here (writes s) turn.loop-j.i inside.0 inside.1

  readable : (s.args.n ≤ 16777216) × (6 * s.args.n ≤ length s.args.work.now) × (0 < turn.loop-j.i) × (turn.loop-j.i ≤ s.args.n)
  readable = let t = (writes s).tails in let i = inside.1 in (t.small, t.room, inside.0, omega (arith, t.few))

  fits : (turn.loop-j.at < length turn.loop-j.nodes) × (turn.loop-j.at < 16777216)
  fits =
      let w = turn.loop-j in
      let some = left-some (writes s) w.i inside.0 inside.1 w.j in
      (omega (arith, writing.size, (writing.rest more).place, s.requires.2), omega (arith, (writing.rest more).place, s.requires.3))

  -- the order has an entry after that of the run at hand
  next-room : s.args.n + turn.loop-j.j + 1 < length s.args.work.now
  next-room = let t = (writes s).tails in let m = more in omega (arith, t.room, t.few, (writes s).few)

pub node_of-requires : goal.node_of-requires
node_of-requires c = readable c

pub graph_node-requires : goal.graph_node-requires
graph_node-requires c =
    let k = (goal.at.graph_node-requires c).In-loop-j in
    let child = ap (arc kbwg) c.node_of.ensures ∙ entry-child (tail k) in
    let low = (tail k).child-below in
    let known = (inside k).1 in
    let t = (writes (s k)).tails in
    let small = (writes (s k)).places (tail k).entry.child (omega (arith, t.few)) in
    (omega (arith, t.few, t.room), subst (λ (x : ℕ). child_in (s k).args.work.now x < 16777216) (sym child) small)

pub offset_bounds-nodes-at : goal.offset_bounds-nodes-at
offset_bounds-nodes-at c = omega (arith, (fits (goal.at.offset_bounds-nodes-at c).In-loop-j).1)

pub bounds-nodes-at : goal.bounds-nodes-at
bounds-nodes-at c = (fits (goal.at.bounds-nodes-at c).In-loop-j).0

pub overflow_add-at : goal.overflow_add-at
overflow_add-at c = omega (arith, (fits (goal.at.overflow_add-at c).In-loop-j).1)

pub overflow_add-first : goal.overflow_add-first
overflow_add-first c = omega (arith, next-room (goal.at.overflow_add-first c).In-loop-j)

pub overflow_add-first-in-loop-j : goal.overflow_add-first-in-loop-j
overflow_add-first-in-loop-j c = omega (arith, next-room (goal.at.overflow_add-first-in-loop-j c).In-loop-j)

pub offset_bounds-work-n-in-loop-j : goal.offset_bounds-work-n-in-loop-j
offset_bounds-work-n-in-loop-j c = omega (arith, next-room (goal.at.offset_bounds-work-n-in-loop-j c).In-loop-j)

pub bounds-work-n-in-loop-j : goal.bounds-work-n-in-loop-j
bounds-work-n-in-loop-j c = next-room (goal.at.bounds-work-n-in-loop-j c).In-loop-j

pub tail_after-after-requires : goal.tail_after-after-requires
tail_after-after-requires c = readable (goal.at.tail_after-after-requires c).In-loop-j

-- the node at hand written, and the tail after it read
module _ (c : After-tail_after-after) where
  abbrev k : In-loop-j
  k = (goal.at.After-tail_after-after c).In-loop-j

  wrote : (sh : Shelf) (h : WritesFrom sh (s k).args.n (s k).args.work.now (s k).args.blocks)
      → set (turn k).loop-j.nodes (turn k).loop-j.at c.graph_node.result
      ≡ sets (turn k).loop-j.nodes (turn k).loop-j.at (written h (turn k).loop-j.i ∷ [])
  wrote sh h =
      ap (set (turn k).loop-j.nodes (turn k).loop-j.at)
      (c.graph_node.ensures
      ∙ ap (λ (v : ℕ). linked_to (child_in (s k).args.work.now (arc kbwg v)) v) c.node_of.ensures)

  low : c.tail_after-after.result < (turn k).loop-j.i
  low = omega (arith, c.tail_after-after.ensures, (tail k).next-is, (tail k).next-below)

pub overflow_add-j : goal.overflow_add-j
overflow_add-j c = omega (arith, more (k (goal.at.overflow_add-j c).After-tail_after-after))

pub loop-j-smaller-then-after-eq0 : goal.loop-j-smaller-then-after-eq0
loop-j-smaller-then-after-eq0 c =
    let t = k (goal.at.loop-j-smaller-then-after-eq0 c).After-tail_after-after in
    let w = (turn t).loop-j in
    let n = (s t).args.n in
    let left = (s t).args.blocks - w.j in
    measure_falls left ((s t).args.blocks - (w.j + 1)) n _ (min w.i n) (omega (arith, more t)) (omega arith)

pub loop-j-preserved-then-after-eq0 : goal.loop-j-preserved-then-after-eq0
loop-j-preserved-then-after-eq0 c = λ sh h.
    let a = (goal.at.loop-j-preserved-then-after-eq0 c).After-tail_after-after in
    let t = k a in
    writing_over h ((turn t).loop-j.invariant sh h) (more t) (wrote a sh h) (sym a.tail_after-after.ensures ∙ c.if-after-eq0.true) refl

pub loop-j-smaller : goal.loop-j-smaller
loop-j-smaller c = let t = k (goal.at.loop-j-smaller c).After-tail_after-after in let f = readable t in omega (arith, low (goal.at.loop-j-smaller c).After-tail_after-after)

pub loop-j-preserved : goal.loop-j-preserved
loop-j-preserved c = λ sh h.
    let a = (goal.at.loop-j-preserved c).After-tail_after-after in
    let t = k a in
    writing-on h ((turn t).loop-j.invariant sh h) (more t) (wrote a sh h) a.tail_after-after.ensures (omega (arith, c.if-after-eq0.false))

pub returns : goal.returns
returns c = λ sh h. (c.loop-j.invariant sh h).done c.loop-j-test.false
