-- `count_checked` meets its contract: the marks are cleared, the walk counts or meets a loop, and then the counts are looked at.
use Rattle.std.proofs.Common.{◌≡◌, sym, ◌∙◌, ◌++◌, ◌*◌, ◌≤◌, length, drop, arith, rules}
use Rattle.std.proofs.Math.Option.{none}
use Rattle.laws.specs.Cases.{is_none}
use Rattle.laws.specs.Cleared.{cleared}
use Rattle.answers.specs.Answers.{first_of}
use Rattle.node.specs.Nodes.{kbwg}
use Rattle.graph.specs.Checks.{graph_row}
use Rattle.graph.specs.ChecksLaws.{fit-holds}
use Rattle.graph.specs.Counting.{count_row, count_limit}
use Rattle.graph.specs.Lent.{Kept, kept_then}
use Rattle.graph.specs.LoopLaws.{Reach-inside}
use Rattle.graph.specs.Loops.{LowestLoop}
use Rattle.loops.specs.NodeMarksLaws.{cleared-work}
use Rattle.count.specs.CountWalk.{LoopFound, AllDone}
use Rattle.count.proofs.Rows.{row-clear}
use Rattle.count.proofs.Results.{walk-stopped, walk-ended, loop-answer, many-answer, all-answer}
use Rattle.count.proofs.count_checked.Goals as goal
use Rattle.count.proofs.count_checked.Goals.{Start, After-fill, After-unwrap-node, Else-is_err}

clear : (s : Start) → first_of (count_row s.args.g.nodes.now (length s.args.counts.now) (length s.args.work.now)) ≡ none
clear s = row-clear _ _ _ (is_none (first_of (graph_row s.args.g.nodes.now)) s.args.g.fit) s.requires.counts_long s.requires.work_long

marks-cleared : (c : After-fill) → Kept (2 * length c.args.g.nodes.now) c.args.work.now (c.fill.new.self ++ drop (length c.args.g.nodes.now) c.args.work.now)
marks-cleared c =
    let n = length c.args.g.nodes.now in
    let e : c.fill.new.self ++ drop n c.args.work.now ≡ cleared n c.args.work.now = search rules in
    cleared-work n c.args.work.now _ c.requires.work_long e

-- the walk met a loop, and the search finds the lowest node that loops
module _ (c : After-unwrap-node) where
  met : LoopFound c.args.g.nodes.now c.args.counts.now (c.fill.new.self ++ drop (length c.args.g.nodes.now) c.args.work.now) c.walk.new.counts c.walk.new.work
  met = walk-stopped count_limit c.walk.result (sym c.if-is_err.true ∙ c.is_err.ensures.value) c.walk.ensures

  lowest : LowestLoop kbwg c.args.g.nodes.now c.unwrap-node.result
  lowest = rw c.unwrap-node.ensures at c.lowest_loop.ensures.lowest

pub overflow_cast-result : goal.overflow_cast-result
overflow_cast-result c =
    let h = Reach-inside kbwg (lowest c).loops in
    let f : length c.args.g.nodes.now ≤ 16777216 = (fit-holds _ c.args.g.fit).most in
    omega arith

pub returns-then-is_err-clause-counted : goal.returns-then-is_err-clause-counted
returns-then-is_err-clause-counted c =
    let s = (goal.at.returns-then-is_err-clause-counted c).Start in
    rw c.lowest_loop.ensures.counts_cleared (loop-answer count_limit _ _ _ _ _ _ (clear s) _ (lowest c) (met c))

pub returns-then-is_err-clause-free : goal.returns-then-is_err-clause-free
returns-then-is_err-clause-free c =
    let f = (goal.at.returns-then-is_err-clause-free c).After-fill in
    kept_then (marks-cleared f) (kept_then (met c).work-kept c.lowest_loop.ensures.work_kept)

-- it counted every node
all-done : (c : Else-is_err)
    → AllDone count_limit c.args.g.nodes.now c.args.counts.now (c.fill.new.self ++ drop (length c.args.g.nodes.now) c.args.work.now) c.walk.new.counts c.walk.new.work
all-done c = walk-ended count_limit c.walk.result (sym c.if-is_err.false ∙ c.is_err.ensures.value) c.walk.ensures

pub returns-then-reaches_limit-clause-counted : goal.returns-then-reaches_limit-clause-counted
returns-then-reaches_limit-clause-counted c =
    let s = (goal.at.returns-then-reaches_limit-clause-counted c).Start in
    let A = all-done (goal.at.returns-then-reaches_limit-clause-counted c).Else-is_err in
    let n = length c.args.g.nodes.now in
    let e : c.fill-then-reaches_limit.new.self ++ drop n c.walk.new.counts ≡ cleared n c.walk.new.counts = search rules in
    rw e (many-answer count_limit _ _ _ _ _ _ (clear s) A (sym c.reaches_limit.ensures ∙ c.if-reaches_limit.true))

pub returns-then-reaches_limit-clause-free : goal.returns-then-reaches_limit-clause-free
returns-then-reaches_limit-clause-free c =
    let at = goal.at.returns-then-reaches_limit-clause-free c in
    kept_then (marks-cleared at.After-fill) (all-done at.Else-is_err).work-kept

pub returns-clause-counted : goal.returns-clause-counted
returns-clause-counted c =
    let s = (goal.at.returns-clause-counted c).Start in
    let A = all-done (goal.at.returns-clause-counted c).Else-is_err in
    all-answer count_limit _ _ _ _ _ _ (clear s) A (sym c.reaches_limit.ensures ∙ c.if-reaches_limit.false)

pub returns-clause-free : goal.returns-clause-free
returns-clause-free c =
    let at = goal.at.returns-clause-free c in
    kept_then (marks-cleared at.After-fill) (all-done at.Else-is_err).work-kept
