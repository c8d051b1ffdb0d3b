-- `blocks::next_block` meets its contract: a refusal's line and a block of words both have room, and each case of what is left makes the
-- block that its definition names.
use native.Mathlib.Omega.{arith}
use mathlib.Core.Path.{refl}
use Rattle.listing.proofs.LinesLaws.{refusal-length}
use Rattle.listing.proofs.BlocksLaws.{made-refusal, made-words, made-done}
use Rattle.listing.proofs.blocks.next_block.Goals as goal

pub put_refusal-requires : goal.put_refusal-requires
put_refusal-requires c = omega (arith, refusal-length c.in-Refusal.number (omega arith))

pub returns-then-count-next : goal.returns-then-count-next
returns-then-count-next c = let a = c.args in
    made-done a.nodes.now a.counts.now a.unprinted a.out.now a.out.now _ _ _ c.in-Words.is c.if-count-next.true refl

pub returns-in-Refusal : goal.returns-in-Refusal
returns-in-Refusal c = let a = c.args in
    made-refusal a.nodes.now a.counts.now a.unprinted a.out.now _ c.in-Refusal.number _ c.in-Refusal.is
    (omega (arith, refusal-length c.in-Refusal.number (omega arith))) c.put_refusal.ensures

pub returns-else-count-next : goal.returns-else-count-next
returns-else-count-next c =
    let a = c.args in
    let f = c.fill-filled in
    made-words a.nodes.now a.counts.now a.unprinted a.out.now _ _ _ _ c.in-Words.is f.result _
    c.if-count-next.false (omega arith) f.ensures (omega arith)
