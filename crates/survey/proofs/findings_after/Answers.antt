-- `findings_after` meets its contract: after a node that is no end there is one more.
use Rattle.std.proofs.Common.{sym, arith}
use Rattle.graph.specs.ChecksLaws.{fit-holds}
use Rattle.survey.proofs.findings_after.Goals as goal

pub read_findings-requires-clause-q_lt_n : goal.read_findings-requires-clause-q_lt_n
read_findings-requires-clause-q_lt_n c =
    let h = (fit-holds _ c.args.g.fit).steps.runs c.args.at c.requires.at_in_bounds (sym c.if-is_end.ensures) in
    omega arith
