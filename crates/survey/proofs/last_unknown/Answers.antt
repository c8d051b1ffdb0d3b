-- `last_unknown` meets its contract: no node passed ends the run, so there is always a node after it.
use Rattle.std.proofs.Common.{sym, arith}
use Rattle.graph.specs.ChecksLaws.{fit-holds}
use Rattle.survey.proofs.SurveyFilling.{one_more}
use Rattle.survey.proofs.last_unknown.Goals as goal

pub bounds-work-at : goal.bounds-work-at
bounds-work-at c =
    let h = (fit-holds _ c.args.g.fit).steps.runs c.loop-at.at c.loop-at.invariant.1 (sym c.loop-at-test.ensures) in
    omega arith

pub loop-at-preserved : goal.loop-at-preserved
loop-at-preserved c =
    let h = (fit-holds _ c.args.g.fit).steps.runs c.loop-at.at c.loop-at.invariant.1 (sym c.loop-at-test.ensures) in
    (omega arith, omega arith, one_more _ _ c.loop-at.invariant.2 (sym c.loop-at-test.ensures))
