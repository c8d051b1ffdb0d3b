-- `index::label_matches` meets its contract, by the one byte or as the library compares.
use Rattle.std.proofs.Common.{◌∙◌}
use Rattle.label_index.proofs.SearchLaws.{starts-is, one-byte}
use Rattle.label_index.proofs.index.label_matches.Goals as goal

pub returns-then-label-eq1 : goal.returns-then-label-eq1
returns-then-label-eq1 c = one-byte c.args.label.now c.args.text.now c.if-label-eq1.true c.requires

pub returns-else-label-eq1 : goal.returns-else-label-eq1
returns-else-label-eq1 c = c.starts_with.ensures.value ∙ starts-is c.args.label.now c.args.text.now
