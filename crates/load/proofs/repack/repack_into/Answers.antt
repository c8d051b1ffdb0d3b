-- `repack_into` meets its contract: the nodes from i on give the stop and the nodes that all give.
use Rattle.std.proofs.Common.{◌≡◌, suc, ◌+◌, ◌*◌, sym, ◌∙◌, arith, length-set}
use Rattle.std.proofs.lemmas.Result.{err_from_is_err_and}
use Rattle.node.specs.Nodes.{kbwg}
use Rattle.node.specs.Said.{bit_layout}
use Rattle.load.specs.Loading.{nodes_after}
use Rattle.load.proofs.NextNode.{next_fits, next-stops, no-next-node}
use Rattle.load.proofs.repack.repack_into.Goals as goal

pub returns-in_err-nodes : goal.returns-in_err-nodes
unfolding nodes_after
returns-in_err-nodes c =
    let l = c.loop-i in
    let e = rw c.read_le_u32-node.ensures at c.in_err-nodes.ensures in
    let n = next-stops (bit_layout c.args.from) kbwg c.args.bytes.now (4 * l.i) (c.args.at + l.i) (omega arith) e in
    let p = err_from_is_err_and c.from_residual.result c.from_residual.ensures.1 in
    record { stop = rw (p.1, p.2) (sym n.0 ∙ l.invariant.stop); written = sym (rw n.1) ∙ l.invariant.written }

pub loop-i-preserved : goal.loop-i-preserved
unfolding nodes_after
loop-i-preserved c =
    let l = c.loop-i in
    let e = rw c.read_le_u32-node.ensures at c.in_ok-nodes.ensures in
    let n = next_fits (bit_layout c.args.from) kbwg c.args.bytes.now (4 * l.i) (c.args.at + l.i) (omega arith) e in
    let p : 4 * (l.i + 1) ≡ 4 * l.i + 4 = omega arith in
    let q : c.args.at + (l.i + 1) ≡ suc (c.args.at + l.i) = omega arith in
    record {
      room = simp length-set l.invariant.room;
      stop = rw (p, q) (sym n.0 ∙ l.invariant.stop);
      written = rw (p, q) (sym (rw n.1) ∙ l.invariant.written);
    }

pub returns : goal.returns
unfolding nodes_after
returns c =
    let l = c.loop-i in
    let n = no-next-node (bit_layout c.args.from) kbwg c.args.bytes.now (4 * l.i) (c.args.at + l.i) (omega arith) in
    record { stop = sym n.0 ∙ l.invariant.stop; written = sym (rw n.1) ∙ l.invariant.written }
