-- `search::search_step` meets its contract: a node is met, or the last open one takes a lower mark, or it is done with all above it.
use Rattle.std.proofs.Common.{◌≡◌, ◌≢◌, ◌∙◌, ℕ, ◌<◌, length, arith}
use Rattle.graph.specs.ChecksLaws.{fit-holds}
use Rattle.loops.specs.NodeMarks.{mark, done}
use Rattle.loops.proofs.SearchLaws as laws
use Rattle.loops.proofs.search.search_step.Goals as goal
use Rattle.loops.proofs.search.search_step.Goals.{Then-mark-eq0}

pub overflow_add-p : goal.overflow_add-p
overflow_add-p c = let f = laws.stack_fits _ _ _ _ (fit-holds _ c.args.g.fit) c.requires.search_state in omega (arith, f.0, f.1)

pub offset_bounds-work-n : goal.offset_bounds-work-n
offset_bounds-work-n c = let f = laws.stack_fits _ _ _ _ (fit-holds _ c.args.g.fit) c.requires.search_state in omega (arith, f.0, f.1)

pub bounds-work-n : goal.bounds-work-n
bounds-work-n c = let f = laws.stack_fits _ _ _ _ (fit-holds _ c.args.g.fit) c.requires.search_state in omega (arith, f.0, f.1)

-- a node that is not met
module _ (c : Then-mark-eq0) where
  abbrev q : ℕ
  q = c.lowest_next-next.result.node

  unmet : c.lowest_next-next.result.mark ≢ done
  unmet e = let z = c.if-mark-eq0.true in omega arith

  new : mark c.args.work.now q ≡ 0
  new = (c.lowest_next-next.ensures.found unmet).1 ∙ c.if-mark-eq0.true

  q-in : q < length c.args.g.nodes.now
  q-in = laws.next_in _ _ _ _ (fit-holds _ c.args.g.fit) c.requires.search_state c.requires.top_nonzero _ c.lowest_next-next.ensures unmet

pub meet-requires-clause-q_lt_n : goal.meet-requires-clause-q_lt_n
meet-requires-clause-q_lt_n c = q-in (goal.at.meet-requires-clause-q_lt_n c).Then-mark-eq0

pub meet-requires-clause-size_lt_n : goal.meet-requires-clause-size_lt_n
meet-requires-clause-size_lt_n c =
    let m = (goal.at.meet-requires-clause-size_lt_n c).Then-mark-eq0 in
    laws.stack-room _ _ _ _ (fit-holds _ c.args.g.fit) c.requires.search_state (q m) (q-in m) (new m)

pub meet-requires-clause-n_bound : goal.meet-requires-clause-n_bound
meet-requires-clause-n_bound c = (fit-holds _ c.args.g.fit).most

pub returns-then-mark-eq0 : goal.returns-then-mark-eq0
returns-then-mark-eq0 c =
    let m = (goal.at.returns-then-mark-eq0 c).Then-mark-eq0 in
    let K = fit-holds _ c.args.g.fit in
    let S = c.requires.search_state in
    laws.meet-step _ _ _ _ K S (q m) (q-in m) (new m)
    (laws.leads-to _ _ _ _ K S c.requires.top_nonzero _ c.lowest_next-next.ensures (unmet m)) _ _ _ c.meet.ensures

pub returns-then-mark-top : goal.returns-then-mark-top
returns-then-mark-top c =
    laws.lower-step _ _ _ _ (fit-holds _ c.args.g.fit) c.requires.search_state c.requires.top_nonzero _ c.lowest_next-next.ensures
    c.if-mark-eq0.false _ c.lower_loop-low.ensures c.if-mark-top.true

pub release-requires-clause-n_bound : goal.release-requires-clause-n_bound
release-requires-clause-n_bound c = (fit-holds _ c.args.g.fit).most

pub returns : goal.returns
returns c =
    laws.release-step _ _ _ _ (fit-holds _ c.args.g.fit) c.requires.search_state c.requires.top_nonzero _ c.lowest_next-next.ensures
    c.if-mark-eq0.false _ c.lower_loop-low.ensures c.if-mark-top.false _ c.release.ensures
