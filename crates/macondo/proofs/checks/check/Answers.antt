-- The graph and labels are ready: each check that passed says what is asked.
use Rattle.std.proofs.Common.{sym, ◌∙◌}
use Rattle.graph.specs.ChecksLaws.{fit}
use Rattle.macondo.proofs.checks.check.Goals as goal

pub invariant_of-result : goal.invariant_of-result
invariant_of-result c = record {
  ready = record {
    fit = fit c.args.nodes.now (sym c.in_ok-check_graph.ensures.refused);
    fifty = c.if-labels-gt50.false;
    labelled = sym c.lacks_label.ensures ∙ c.if-lacks_label.false;
    ascending = sym c.ascends.ensures ∙ c.if-not-ascends.false;
  };
}
