-- `joined_node`'s closure meets its contract: past the held bytes are those of the piece.
use Rattle.std.proofs.Common.{◌≡◌, ◌+◌, ◌-◌, sym, arith}
use Rattle.load.proofs.HeldLaws.{held-then-piece}
use Rattle.load.proofs.held.fn.joined_node.byte.Goals as goal

pub returns-else-j-count : goal.returns-else-j-count
returns-else-j-count c =
    let a = c.captures in
    let e : a.count + (c.args.j - a.count) ≡ c.args.j = omega arith in
    sym (rw e at (held-then-piece a.held a.count a.piece.now (omega arith) (omega arith) (c.args.j - a.count)))
