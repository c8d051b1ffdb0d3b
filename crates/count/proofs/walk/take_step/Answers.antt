-- `take_step` meets its contract: the state of the walk after a node goes on the stack, and after the top is counted.
use Rattle.std.proofs.Common.{refl, ℕ, ◌+◌, ◌-◌, ◌<◌, length, arith}
use Rattle.graph.specs.ChecksLaws.{Fit, fit-holds}
use Rattle.graph.specs.LoopLaws.{step-inside}
use Rattle.graph.specs.Lent.{kept-all}
use Rattle.graph.specs.Counting.{count_limit}
use Rattle.loops.specs.NodeMarks.{stacked}
use Rattle.count.proofs.WalkLaws.{size_lt, top-place, top-node, step-loops, step_pushes, step_counts}
use Rattle.count.proofs.walk.take_step.Goals as goal
use Rattle.count.proofs.walk.take_step.Goals.{Start, In-Some}

module _ (s : Start) where
  fits : Fit s.args.g.nodes.now
  fits = fit-holds _ s.args.g.fit

  -- the node at the top of the stack
  abbrev top : ℕ
  top = stacked (length s.args.g.nodes.now) s.args.work.now (s.args.size - 1)

  place-in : length s.args.g.nodes.now + (s.args.size - 1) < length s.args.work.now
  place-in = top-place _ _ _ _ _ fits s.requires.count_walk s.requires.size_nonzero

  top-in : top < length s.args.g.nodes.now
  top-in = top-node _ _ _ _ _ fits s.requires.count_walk s.requires.size_nonzero top refl

pub overflow_add-p : goal.overflow_add-p
overflow_add-p c = let s = (goal.at.overflow_add-p c).Start in let h = place-in s in let m = s.well_formed in omega arith

pub offset_bounds-work-n : goal.offset_bounds-work-n
offset_bounds-work-n c = let s = (goal.at.offset_bounds-work-n c).Start in let h = place-in s in let m = s.well_formed in omega arith

pub bounds-work-n : goal.bounds-work-n
bounds-work-n c = place-in (goal.at.bounds-work-n c).Start

pub next_to_count-requires-clause-p_in_bounds : goal.next_to_count-requires-clause-p_in_bounds
next_to_count-requires-clause-p_in_bounds c = top-in (goal.at.next_to_count-requires-clause-p_in_bounds c).Start

-- the top leads to a node that is not done
module _ (c : In-Some) where
  abbrev led : Start
  led = (goal.at.In-Some c).Start

  q-in : c.in-Some.q < length c.args.g.nodes.now
  q-in = step-inside (fits led).steps c.in-Some.ensures.0

pub offset_bounds-work-q : goal.offset_bounds-work-q
offset_bounds-work-q c = let b = (goal.at.offset_bounds-work-q c).In-Some in let h = q-in b in let f = (fits (led b)).most in omega arith

pub bounds-work-q : goal.bounds-work-q
bounds-work-q c = let b = (goal.at.bounds-work-q c).In-Some in let h = q-in b in let r = c.requires.count_walk.room in omega arith

pub returns-then-work-q-ne0 : goal.returns-then-work-q-ne0
returns-then-work-q-ne0 c =
    let s = led (goal.at.returns-then-work-q-ne0 c).In-Some in
    record {
      node = c.in-Some.q;
      loops = step-loops count_limit _ _ _ _ (fits s) c.requires.count_walk c.requires.size_nonzero (top s) refl _ c.in-Some.ensures.0 c.in-Some.ensures.1 c.if-work-q-ne0.true;
      counts-kept = kept-all _ _;
      work-kept = kept-all _ _;
    }

pub push-requires-clause-q_lt_n : goal.push-requires-clause-q_lt_n
push-requires-clause-q_lt_n c = q-in (goal.at.push-requires-clause-q_lt_n c).In-Some

pub push-requires-clause-size_lt_n : goal.push-requires-clause-size_lt_n
push-requires-clause-size_lt_n c =
    let b = (goal.at.push-requires-clause-size_lt_n c).In-Some in
    size_lt _ _ _ _ _ (fits (led b)) c.requires.count_walk _ (q-in b) c.if-work-q-ne0.false

pub push-requires-clause-n_bound : goal.push-requires-clause-n_bound
push-requires-clause-n_bound c = (fit-holds _ c.args.g.fit).most

pub returns-else-work-q-ne0 : goal.returns-else-work-q-ne0
returns-else-work-q-ne0 c =
    let s = led (goal.at.returns-else-work-q-ne0 c).In-Some in
    rw c.push.ensures (step_pushes count_limit _ _ _ _ (fits s) c.requires.count_walk c.requires.size_nonzero (top s) refl _ c.in-Some.ensures.0 c.if-work-q-ne0.false)

pub returns-in-None : goal.returns-in-None
returns-in-None c =
    step_counts count_limit _ _ _ _ (fit-holds _ c.args.g.fit) c.requires.count_walk c.requires.size_nonzero _ refl
    c.in-None.ensures c.count_at.result c.count_at.ensures
