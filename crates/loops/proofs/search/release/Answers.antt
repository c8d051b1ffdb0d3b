-- `search::release` meets its contract: the loop's invariant is the contract up to the place reached.
use Rattle.std.proofs.Common.{arith}
use Rattle.loops.proofs.ReleaseLaws.{release-end, still-stacked, release-next}
use Rattle.loops.proofs.search.release.Goals as goal

pub loop-k-preserved : goal.loop-k-preserved
loop-k-preserved c =
    let Q = c.loop-k.invariant in
    let node = c.requires.by_index c.loop-k.k c.loop-k-test.true in
    release-next _ _ _ _ _ Q (omega arith) node (omega arith) _ (still-stacked _ _ _ _ _ Q c.loop-k.k)

pub returns : goal.returns
returns c = release-end _ _ _ _ _ c.loop-k.invariant _ (omega arith)
