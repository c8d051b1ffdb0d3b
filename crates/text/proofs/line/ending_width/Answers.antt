-- `line::ending_width` meets its contract.
use Rattle.std.proofs.Common.{sym, ◌∙◌}
use Rattle.text.specs.LineLaws.{width_pair, width_one}
use Rattle.text.proofs.line.ending_width.Goals as goal

pub returns-then-starts_with-clause-width : goal.returns-then-starts_with-clause-width
returns-then-starts_with-clause-width c = sym (width_pair c.args.text.now (sym c.if-starts_with.ensures.value))

pub returns-else-starts_with-clause-width : goal.returns-else-starts_with-clause-width
returns-else-starts_with-clause-width c = c.min.ensures ∙ sym (width_one c.args.text.now (sym c.if-starts_with.ensures.value))
