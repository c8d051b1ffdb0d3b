-- `index::match_at` meets its contract: no line before the place reached matches, and the first that does is the one taken.
use Rattle.std.proofs.Common.{drop, get_or}
use Rattle.label_index.proofs.SearchLaws.{NoneMatches}
use Rattle.label_index.proofs.index.match_at.Given as goal

abbrev pub invariant-loop-k : goal.invariant-loop-k
invariant-loop-k l = NoneMatches l.file l.starts l.order (drop l.i l.line) (get_or l.begin (get_or l.line l.i 0) 0) l.k
