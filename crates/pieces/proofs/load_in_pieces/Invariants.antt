-- `load_in_pieces` meets its contract: the feeds that are left, from the state, nodes and answers reached, leave what all feeds leave.
use Rattle.std.proofs.Common.{◌≡◌, drop}
use Rattle.pieces.proofs.CutLaws.{fed_from}
use Rattle.pieces.proofs.load_in_pieces.Given as goal

abbrev pub invariant-loop-place : goal.invariant-loop-place
invariant-loop-place l =
    fed_from l.answers l.place l.loader l.nodes (drop l.place l.cuts) l.rest ≡ fed_from l.initial.answers 0 l.initial.loader l.initial.nodes l.cuts l.bytes
