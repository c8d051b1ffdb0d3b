-- `lowest_loop` meets its contract: the roots passed are met, and none is open when the next root is looked at.
use Rattle.std.proofs.Common.{◌≡◌, ◌≢◌, refl, ◌∙◌, ◌++◌, length, drop, arith, rules}
use Rattle.graph.specs.ChecksLaws.{fit-holds}
use Rattle.graph.specs.Lent.{cleared_of_kept}
use Rattle.laws.specs.Cleared.{cleared}
use Rattle.loops.specs.NodeMarksLaws.{cleared-work, marks-zero, pushed-mark}
use Rattle.loops.specs.NodeMarks.{mark}
use Rattle.loops.specs.Search.{SearchStepped}
use Rattle.loops.proofs.SearchLaws.{stack-room, meet-step}
use Rattle.loops.proofs.RootLaws.{search-start, search-goes-on, search-next-root, none-loops, low-loops}
use Rattle.loops.proofs.lowest_loop.Goals as goal
use Rattle.loops.proofs.lowest_loop.Goals.{After-meet-s, then-work-root-eq0+else-loop-s-test, else-work-root-eq0}

pub loop-root-init : goal.loop-root-init
loop-root-init c =
    let w = c.args.work.now in
    let n = length c.args.g.nodes.now in
    let e : c.fill.new.self ++ drop n w ≡ cleared n w = search rules in
    let k = cleared-work n w _ c.requires.nodes_in_bounds_2 e in
    let r = k.size in
    (search-start _ _ _ _ c.requires.nodes_in_bounds (omega (arith, c.requires.nodes_in_bounds_2)) k (marks-zero n w _ c.requires.nodes_in_bounds_2 e), refl)

pub meet-s-requires-clause-n_bound : goal.meet-s-requires-clause-n_bound
meet-s-requires-clause-n_bound c = (fit-holds _ c.args.g.fit).most

pub meet-s-requires-clause-size_lt_n : goal.meet-s-requires-clause-size_lt_n
meet-s-requires-clause-size_lt_n c =
    stack-room _ _ _ _ (fit-holds _ c.args.g.fit) c.loop-root.invariant.0.state _ c.loop-root-test.true c.if-work-root-eq0.true

-- a root goes on the stack, from no other node
met : (c : After-meet-s) → SearchStepped c.args.g.nodes.now c.loop-root.counts c.loop-root.work c.meet-s.new.counts c.meet-s.new.work c.loop-root.s c.meet-s.result
met c =
    let z = c.loop-root.invariant.1 in
    meet-step _ _ _ _ (fit-holds _ c.args.g.fit) c.loop-root.invariant.0.state _ c.loop-root-test.true c.if-work-root-eq0.true
    (λ i y. absurd (omega arith)) _ _ _ c.meet-s.ensures

root-met : (c : After-meet-s) → mark c.meet-s.new.work c.loop-root.root ≢ 0
root-met c =
    λ z.
    let S = c.loop-root.invariant.0.state in
    let b = stack-room _ _ _ _ (fit-holds _ c.args.g.fit) S _ c.loop-root-test.true c.if-work-root-eq0.true in
    let p = pushed-mark _ c.loop-root.work _ _ S.room c.loop-root-test.true b in
    let y = rw c.meet-s.ensures.work-is at z in
    omega arith

pub loop-s-init : goal.loop-s-init
loop-s-init c =
    let m = (goal.at.loop-s-init c).After-meet-s in
    let b = c.loop-root-test.true in
    (search-goes-on _ _ _ _ _ _ _ c.loop-root.invariant.0 _ _ _ (met m) (omega arith), root-met m)

pub loop-s-preserved : goal.loop-s-preserved
loop-s-preserved c =
    let S = c.search_step-s.ensures in
    let b = c.loop-root-test.true in
    (search-goes-on _ _ _ _ _ _ _ c.loop-s.invariant.0 _ _ _ S (omega arith), S.met _ b c.loop-s.invariant.1)

pub loop-root-preserved : goal.loop-root-preserved
loop-root-preserved c =
    elim c.if-work-root-eq0.branch [
      | then-work-root-eq0+else-loop-s-test w ↦
          rw (w.s-is, w.work-is, w.counts-is) (search-next-root _ _ _ _ _ _ _ w.loop-s.invariant.0 w.loop-s.invariant.1, omega arith)
      | else-work-root-eq0 w ↦
          rw (w.s-is, w.work-is, w.counts-is) (search-next-root _ _ _ _ _ _ _ c.loop-root.invariant.0 w.if-work-root-eq0.false, c.loop-root.invariant.1)
    ]

pub returns-then-s-n-clause-lowest : goal.returns-then-s-n-clause-lowest
returns-then-s-n-clause-lowest c = low-loops _ _ _ _ _ _ _ c.loop-root.invariant.0 c.loop-root-test.false c.loop-root.invariant.1 c.if-s-n.true

pub returns-else-s-n-clause-lowest : goal.returns-else-s-n-clause-lowest
returns-else-s-n-clause-lowest c = none-loops _ _ _ _ _ _ _ c.loop-root.invariant.0 c.loop-root-test.false c.loop-root.invariant.1 c.if-s-n.false

pub returns-then-s-n-clause-counts_cleared : goal.returns-then-s-n-clause-counts_cleared
returns-then-s-n-clause-counts_cleared c =
    let n = length c.args.g.nodes.now in
    let e : c.fill-2.new.self ++ drop n c.loop-root.counts ≡ cleared n c.loop-root.counts = search rules in
    e ∙ cleared_of_kept _ _ _ c.loop-root.invariant.0.counts-kept

pub returns-else-s-n-clause-counts_cleared : goal.returns-else-s-n-clause-counts_cleared
returns-else-s-n-clause-counts_cleared c =
    let n = length c.args.g.nodes.now in
    let e : c.fill-2.new.self ++ drop n c.loop-root.counts ≡ cleared n c.loop-root.counts = search rules in
    e ∙ cleared_of_kept _ _ _ c.loop-root.invariant.0.counts-kept

pub returns-then-s-n-clause-work_kept : goal.returns-then-s-n-clause-work_kept
returns-then-s-n-clause-work_kept c = c.loop-root.invariant.0.work-kept

pub returns-else-s-n-clause-work_kept : goal.returns-else-s-n-clause-work_kept
returns-else-s-n-clause-work_kept c = c.loop-root.invariant.0.work-kept
