-- `repack_into` meets its contract: the nodes from i on give the stop and the nodes that all give.
use Rattle.std.proofs.Common.{◌≡◌, ◌+◌, ◌*◌, length, drop}
use Rattle.load.specs.Loading.{misfit_in, nodes_after}
use Rattle.load.proofs.repack.repack_into.Given as goal

abbrev pub invariant-loop-i : goal.invariant-loop-i
invariant-loop-i l = record {
  room : length l.nodes ≡ length l.initial.nodes;
  stop : misfit_in l.from (l.at + l.i) (drop (4 * l.i) l.bytes) ≡ misfit_in l.from l.at l.bytes;
  written : nodes_after l.from (l.at + l.i) (drop (4 * l.i) l.bytes) l.nodes ≡ nodes_after l.from l.at l.bytes l.initial.nodes;
}
