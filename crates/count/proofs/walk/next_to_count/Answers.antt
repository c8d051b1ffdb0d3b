-- `next_to_count` meets its contract: a node leads to its arc and to the next node, and to nothing else.
use Rattle.std.proofs.Common.{◌≡◌, ◌≢◌, sym, ◌∙◌, ◌+◌, false, true≢false, arith}
use Rattle.graph.specs.ChecksLaws.{fit-holds}
use Rattle.loops.specs.NodeMarks.{mark, done}
use Rattle.count.proofs.Steps.{step-arc, step-next, steps-done}
use Rattle.count.proofs.walk.next_to_count.Goals as goal
use Rattle.count.proofs.walk.next_to_count.Goals.{else-arc-ne0-via-then-arc-ne0+else-work-arc, else-arc-ne0-via-else-arc-ne0, else-not-is_end-via-then-not-is_end+else-work-p, else-not-is_end-via-else-not-is_end}

pub bounds-work-arc : goal.bounds-work-arc
bounds-work-arc c = let h = (fit-holds _ c.args.g.fit).steps.arcs _ c.requires.p_in_bounds in omega (arith, c.requires)

pub returns-then-work-arc : goal.returns-then-work-arc
returns-then-work-arc c = (step-arc _ _ c.requires.p_in_bounds _ c.arc_index-arc.ensures c.if-arc-ne0.true, c.if-work-arc.true)

pub bounds-work-p : goal.bounds-work-p
bounds-work-p c =
    let h = (fit-holds _ c.args.g.fit).steps.runs _ c.requires.p_in_bounds (sym c.is_end.ensures ∙ c.if-not-is_end.true) in
    omega (arith, c.requires)

pub returns-then-work-p : goal.returns-then-work-p
returns-then-work-p c = (step-next _ _ c.requires.p_in_bounds (sym c.is_end.ensures ∙ c.if-not-is_end.true), c.if-work-p.true)

pub returns : goal.returns
returns c =
    let arc-done : c.arc_index-arc.result ≢ 0 → mark c.args.work.now c.arc_index-arc.result ≡ done
    = λ n. elim c.else-arc-ne0.branch [
      | else-arc-ne0-via-then-arc-ne0+else-work-arc w ↦ w.if-work-arc.false
      | else-arc-ne0-via-else-arc-ne0 w ↦ absurd (n w.if-arc-ne0.false)
    ] in
    let run-done : c.is_end.result ≡ false → mark c.args.work.now (c.args.p + 1) ≡ done
    = λ e. elim c.else-not-is_end.branch [
      | else-not-is_end-via-then-not-is_end+else-work-p w ↦ w.if-work-p.false
      | else-not-is_end-via-else-not-is_end w ↦ absurd (true≢false (sym w.if-not-is_end.false ∙ e))
    ] in
    steps-done _ _ c.requires.p_in_bounds _ c.arc_index-arc.ensures c.args.work.now arc-done (λ e. run-done (c.is_end.ensures ∙ e))
