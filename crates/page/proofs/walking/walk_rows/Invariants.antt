-- `walking::walk_rows` meets its contract: what the walks that are left find, after what is held, is what all walks find.
use Rattle.page.proofs.RowByRow as laws
use Rattle.page.proofs.walking.walk_rows.Given as goal

abbrev pub invariant-loop-row : goal.invariant-loop-row
invariant-loop-row l = laws.SoFar (laws.page_walks l.nodes l.counts l.p l.first) l.tiles l.sizes l.row l.count
