-- `repack_in_place` meets its contract: the bytes from node i on give the answer and the bytes that all give.
use Rattle.std.proofs.Common.{◌∙◌, arith}
use Rattle.std.proofs.Math.Seq.{length-sets}
use Rattle.std.proofs.lemmas.Result.{err_from_is_err_and}
use Rattle.node.specs.Said.{bit_layout}
use Rattle.load.proofs.InPlace.{node-fits, node-stops, nodes-done}
use Rattle.load.proofs.repack.repack_in_place.Goals as goal

pub returns-in_err-node : goal.returns-in_err-node
returns-in_err-node c =
    let l = c.loop-i in
    let e = rw c.read_le_u32-node.ensures at c.in_err-node.ensures in
    let n = node-stops (bit_layout c.args.from) (bit_layout c.args.to) l.bytes l.i (omega arith) e in
    let p = err_from_is_err_and c.from_residual.result c.from_residual.ensures.1 in
    record { answer = rw (p.1, p.2) (n.0 ∙ l.invariant.answer); rewritten = n.1 ∙ l.invariant.rewritten }

pub loop-i-preserved : goal.loop-i-preserved
loop-i-preserved c =
    let l = c.loop-i in
    let e = rw c.read_le_u32-node.ensures at c.in_ok-node.ensures in
    let n = node-fits (bit_layout c.args.from) (bit_layout c.args.to) l.bytes l.i (omega arith) e in
    rw c.write_le_u32.ensures (record {
      room = simp length-sets l.invariant.room;
      answer = n.0 ∙ l.invariant.answer;
      rewritten = n.1 ∙ l.invariant.rewritten;
    })

pub returns : goal.returns
returns c =
    let l = c.loop-i in
    let n = nodes-done (bit_layout c.args.from) (bit_layout c.args.to) l.bytes l.i (omega arith) in
    record { answer = n.0 ∙ l.invariant.answer; rewritten = n.1 ∙ l.invariant.rewritten }
