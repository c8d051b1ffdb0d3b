-- `table_place` meets its contract: its list has for each remainder the place of the code point that leaves it.
use Rattle.laws.specs.Tables.{table}
use Rattle.windows1252.specs.Windows1252.{entries}
use Rattle.windows1252.proofs.PlaceLaws.{places_by_remainder, only-place}
use Rattle.windows1252.proofs.table_place.Goals as goal

pub returns : goal.returns
unfolding table entries places_by_remainder
returns c = only-place c.args.c
