use Prim.Native.Nat.{◌+◌, ◌*◌}
use Rattle.survey.proofs.SurveyFilling.{SurveyFilling}
use Rattle.survey.proofs.+survey_arc_survey_run.Given as goal

abbrev pub decreases-survey_arc : goal.decreases-survey_arc
decreases-survey_arc l = 2 * l.chain_left + 1

abbrev pub decreases-survey_run : goal.decreases-survey_run
decreases-survey_run l = 2 * l.chain_left

-- ---- survey_run
abbrev pub invariant-survey_run-loop-at : goal.invariant-survey_run-loop-at
invariant-survey_run-loop-at l = SurveyFilling l.g.graph.nodes.now l.g.labels.now l.initial.work l.work l.p l.at l.run
