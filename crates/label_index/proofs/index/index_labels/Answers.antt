-- `index::index_labels` meets its contract: a file with no bad line gets its ranges.
use Rattle.std.proofs.Common.{arith}
use Rattle.label_index.proofs.ReadyLaws.{read_firsts}
use Rattle.label_index.proofs.index.index_labels.Goals as goal

pub fill_begins-requires-clause-firsts : goal.fill_begins-requires-clause-firsts
fill_begins-requires-clause-firsts c = read_firsts c.in_ok-lines.ensures (omega arith)

pub fill_ends-requires-clause-firsts : goal.fill_ends-requires-clause-firsts
fill_ends-requires-clause-firsts c = read_firsts c.in_ok-lines.ensures (omega arith)
