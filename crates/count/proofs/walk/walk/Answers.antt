-- `walk` meets its contract: the roots passed are done, and every step meets a node or ends one.
use Rattle.std.proofs.Common.{◌≡◌, refl, arith}
use Rattle.std.proofs.lemmas.Result.{err_from_is_err_and}
use Rattle.graph.specs.ChecksLaws.{fit-holds}
use Rattle.count.proofs.Roots.{Roots-start, Roots-step, step_less, Roots-next, Roots-pushed, roots_loop, roots_end}
use Rattle.count.proofs.walk.walk.Goals as goal

pub loop-root-init : goal.loop-root-init
loop-root-init c = Roots-start _ _ _ _ c.requires.count_walk

pub push-requires-clause-n_bound : goal.push-requires-clause-n_bound
push-requires-clause-n_bound c = (fit-holds _ c.args.g.fit).most

pub loop-size-init : goal.loop-size-init
loop-size-init c =
    Roots-pushed _ _ _ _ _ _ _ c.loop-root-test.true c.loop-root.invariant (fit-holds _ c.args.g.fit) (omega arith) c.if-work-root-eq0.true _ c.push.ensures

pub loop-root-preserved-in-loop-size : goal.loop-root-preserved-in-loop-size
loop-root-preserved-in-loop-size c =
    let e : c.loop-size.size ≡ 0 = omega arith in
    rw e at c.loop-size.invariant

pub returns-in_err-size : goal.returns-in_err-size
returns-in_err-size c =
    let p = err_from_is_err_and c.from_residual.result c.from_residual.ensures.1 in
    rw p.1 (roots_loop _ _ _ _ _ _ _ _ c.loop-size.invariant _ _ c.in_err-size.ensures)

pub loop-size-smaller : goal.loop-size-smaller
loop-size-smaller c = step_less _ _ _ _ _ _ _ c.in_ok-size.ensures

pub loop-size-preserved : goal.loop-size-preserved
loop-size-preserved c = Roots-step _ _ _ _ _ _ _ _ c.loop-size.invariant _ _ _ c.in_ok-size.ensures

pub loop-root-preserved : goal.loop-root-preserved
loop-root-preserved c = Roots-next _ _ _ _ _ _ _ c.loop-root-test.true _ c.loop-root.invariant c.if-work-root-eq0.false

pub returns : goal.returns
returns c = roots_end _ _ _ _ _ _ _ _ c.loop-root.invariant (omega arith) refl
