-- `to_lxd` meets its contract: a refusal of the checks leaves both lists, and past them only the part of the work list that is lent on
-- changes.
use Rattle.std.proofs.Common.{◌*◌, sym, ap, length, arith}
use Rattle.std.proofs.Math.Seq.{length-take-le}
use Rattle.std.proofs.lemmas.Result.{err_from_is_err_and}
use Rattle.lxd.proofs.CallLaws.{call-refuses, call-walks, passed-work}
use Rattle.lxd.proofs.to_lxd.Goals as goal

pub returns-in_err-g-clause-written : goal.returns-in_err-g-clause-written
returns-in_err-g-clause-written c =
    let e = err_from_is_err_and c.from_residual.result c.from_residual.ensures.1 in
    rw (e.1, e.2) (call-refuses _ _ _ _ _ c.args.file.now (sym c.in_err-g.ensures.refused))

pub slice_bounds-write_checked-end : goal.slice_bounds-write_checked-end
slice_bounds-write_checked-end c = passed-work _ _ _ _ _ (sym c.in_ok-g.ensures.refused)

pub slice_bounds-write_checked-end-2 : goal.slice_bounds-write_checked-end-2
slice_bounds-write_checked-end-2 c = sym (length-take-le _ c.args.work.now (passed-work _ _ _ _ _ (sym c.in_ok-g.ensures.refused)))

pub write_checked-requires : goal.write_checked-requires
write_checked-requires c =
    let long = length-take-le (8 * length c.args.nodes.now) c.args.work.now (passed-work _ _ _ _ _ (sym c.in_ok-g.ensures.refused)) in
    let same = ap length c.in_ok-g.ensures.same.0 in
    record { nodes_in_bounds = omega arith }

pub returns-clause-written : goal.returns-clause-written
returns-clause-written c = call-walks _ _ _ _ _ c.args.file.now (sym c.in_ok-g.ensures.refused) c.in_ok-g.ensures.same c.write_checked.ensures
