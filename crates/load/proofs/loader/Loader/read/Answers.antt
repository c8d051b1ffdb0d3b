-- `read` meets its contract: the held bytes and then the piece are read node by node, the node that both make first.
use Rattle.std.proofs.Common.{◌-◌, ◌/◌, length, drop, sym, ◌∙◌, arith, add-one, length-drop, length-set}
use Rattle.std.proofs.Math.Seq.{take_all}
use Rattle.std.proofs.lemmas.Result.{err_from_is_err_and}
use Rattle.load.specs.Loading.{held_then}
use Rattle.load.proofs.HeldLaws.{held-then-length, held-then-rest}
use Rattle.load.proofs.FeedLaws.{feed-passed}
use Rattle.load.proofs.PieceLaws.{piece-node, piece-stops, piece-short, held-longer}
use Rattle.load.proofs.loader.Loader.read.Goals as goal

pub returns-then-held_count-lt4 : goal.returns-then-held_count-lt4
returns-then-held_count-lt4 c =
    let s = c.args.self in
    let piece = c.args.piece.now in
    let h = feed-passed s _ piece c.requires in
    let three = c.hold.ensures.1 in
    let l = held-then-length s.held s.held_count piece three (omega arith) in
    let p = piece-short s.announced s.layout c.args.nodes.now (s.taken / 4) (held_then s piece) (omega arith) in
    record { stop = p.0; state = held-longer s _ h.0 piece three (omega arith) c.hold.ensures.0 ∙ p.1; written = p.2 }

pub returns-in_err-nodes : goal.returns-in_err-nodes
returns-in_err-nodes c =
    let s = c.args.self in
    let piece = c.args.piece.now in
    let h = feed-passed s _ piece c.requires in
    let l = held-then-length s.held s.held_count piece c.joined_node-first.ensures.1 (omega arith) in
    let e = rw c.joined_node-first.ensures.0 at c.in_err-nodes.ensures in
    let n = piece-stops s.announced s.layout c.args.nodes.now (s.taken / 4) (held_then s piece) (omega arith) e in
    let p = err_from_is_err_and c.from_residual.result c.from_residual.ensures.1 in
    record { stop = rw (p.1, p.2) n.0; state = rw (p.1, p.2) n.1; written = n.2 }

pub read_whole-requires-2 : goal.read_whole-requires-2
read_whole-requires-2 c =
    let piece = c.args.piece.now in
    let h = feed-passed c.args.self _ piece c.requires in
    let used = 4 - c.args.self.held_count in
    let all = take_all (length piece - used) (drop used piece) (simp length-drop (omega arith)) in
    rw all (simp (length-set, length-drop) (omega arith))

pub returns : goal.returns
returns c =
    let s = c.args.self in
    let piece = c.args.piece.now in
    let h = feed-passed s _ piece c.requires in
    let three = c.joined_node-first.ensures.1 in
    let l = held-then-length s.held s.held_count piece three (omega arith) in
    let used = 4 - s.held_count in
    let all = take_all (length piece - used) (drop used piece) (simp length-drop (omega arith)) in
    let e = rw c.joined_node-first.ensures.0 at c.in_ok-nodes.ensures in
    let n = piece-node s.announced s.layout c.args.nodes.now (s.taken / 4) (held_then s piece) (omega arith) e in
    let rest = held-then-rest s.held s.held_count piece three (omega arith) ∙ sym all in
    let w = rw (← rest, add-one) at c.read_whole-2.ensures in
    record { stop = w.stop ∙ n.0; state = w.state ∙ n.1; written = w.written ∙ n.2 }
