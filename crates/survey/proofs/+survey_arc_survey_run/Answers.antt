-- `survey_run` meets its contract: the chain left falls with each run, and a run is filled in from its last unknown node back to where it
-- was entered.
use Rattle.std.proofs.Common.{arith, sym, subst, length, true, ◌-◌, ◌<◌}
use Rattle.graph.specs.ChecksLaws.{fit-holds}
use Rattle.export.specs.ChainLaws.{deep-at-once}
use Rattle.survey.specs.Survey.{FindingsOf, SurveyTables}
use Rattle.survey.proofs.FindingsLaws.{answers-deep}
use Rattle.survey.proofs.SurveyTables.{tables-kept}
use Rattle.survey.proofs.SurveyFilling.{fill_start, fill-node, fill-deep, fill-back}
use Rattle.survey.proofs.+survey_arc_survey_run.Goals as goal

pub survey_run-returns-then-chain_left-eq0-clause-run : goal.survey_run-returns-then-chain_left-eq0-clause-run
survey_run-returns-then-chain_left-eq0-clause-run t c = deep-at-once _ _ _ c.if-chain_left-eq0.true

pub survey_run-loop-at-init : goal.survey_run-loop-at-init
survey_run-loop-at-init t c =
    rw c.findings_after-run.ensures (fill_start (fit-holds _ c.args.g.now.graph.fit) c.requires.survey_tables c.last_unknown-last.ensures)

pub survey_run-survey_arc-requires : goal.survey_run-survey_arc-requires
survey_run-survey_arc-requires t c =
    let f = c.loop-at.invariant in
    let inside : c.loop-at.at - 1 < length c.args.g.now.graph.nodes.now = omega arith in
    (omega arith, (f.tables, (fit-holds _ c.args.g.now.graph.fit).steps.arcs (c.loop-at.at - 1) inside))

pub survey_run-returns-in_err-child-clause-run : goal.survey_run-returns-in_err-child-clause-run
survey_run-returns-in_err-child-clause-run t c =
    answers-deep _ _ _ _ _ c.from_residual.ensures.0
    (fill-deep c.loop-at.invariant (omega arith) c.args.chain_left c.if-chain_left-eq0.false c.in_err-child.ensures.run)

pub survey_run-loop-at-preserved : goal.survey_run-loop-at-preserved
survey_run-loop-at-preserved t c =
    let f = c.loop-at.invariant in
    let child = c.in_ok-child.ensures in
    let inside : c.loop-at.at - 1 < length c.args.g.now.graph.nodes.now = omega arith in
    let run = subst (FindingsOf c.args.g.now.graph.nodes.now c.args.g.now.labels.now true (c.loop-at.at - 1)) (sym c.join_node-run.ensures)
    (fill-node f (omega arith) child.run.0) in
    fill-back f (omega arith)
    (subst (SurveyTables c.args.g.now.graph.nodes.now c.args.g.now.labels.now) (sym c.keep_findings.ensures) (tables-kept child.tables inside run))
    (omega arith) run
