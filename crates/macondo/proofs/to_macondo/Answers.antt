-- `to_macondo` meets its contract: what the checks refuse by, and past them what `write_checked` gives.
use Rattle.std.specs.Prelude.{◌*◌, Err, length}
use Rattle.std.proofs.Common.{sym, arith, length-take-le}
use Rattle.std.proofs.lemmas.Result.{err_from_is_err_and}
use Rattle.macondo_file.specs.RowLaws.{MacondoChecked, checked}
use Rattle.macondo.specs.Said.{format_of}
use Rattle.macondo.proofs.Rows.{refused_before, passed-before, with_part}
use Rattle.macondo.proofs.to_macondo.Goals as goal
use Rattle.macondo.proofs.to_macondo.Goals.{In_ok-g}

passed : (c : In_ok-g) → MacondoChecked c.args.nodes.now c.args.labels.now c.args.name.now (length c.args.work.now)
passed c = checked c.args.nodes.now c.args.labels.now c.args.name.now (length c.args.work.now) (sym c.in_ok-g.ensures.refused)

pub returns-in_err-g-clause-written : goal.returns-in_err-g-clause-written
returns-in_err-g-clause-written c =
    let e = err_from_is_err_and c.from_residual.result c.from_residual.ensures.1 in
    rw (e.1, e.2)
    (refused_before c.args.nodes.now c.args.labels.now c.args.name.now (format_of c.args.format) (length c.args.work.now) c.args.file.now (Err c.in_err-g.field-0.0)
    (sym c.in_err-g.ensures.refused))

pub slice_bounds-write_checked-end : goal.slice_bounds-write_checked-end
slice_bounds-write_checked-end c = (passed (goal.at.slice_bounds-write_checked-end c).In_ok-g).work

pub slice_bounds-write_checked-end-2 : goal.slice_bounds-write_checked-end-2
slice_bounds-write_checked-end-2 c = sym (length-take-le (8 * length c.args.nodes.now) c.args.work.now (passed (goal.at.slice_bounds-write_checked-end-2 c).In_ok-g).work)

pub write_checked-requires : goal.write_checked-requires
write_checked-requires c =
    let p = passed (goal.at.write_checked-requires c).In_ok-g in
    rw (c.in_ok-g.ensures.same_nodes, c.in_ok-g.ensures.same_labels, length-take-le (8 * length c.args.nodes.now) c.args.work.now p.work)
    (with_part p _ (omega arith))

pub returns-clause-written : goal.returns-clause-written
returns-clause-written c =
    passed-before c.args.nodes.now c.args.labels.now c.args.name.now (format_of c.args.format) (length c.args.work.now) c.args.file.now _ (sym c.in_ok-g.ensures.refused)
    (rw (c.in_ok-g.ensures.same_nodes, c.in_ok-g.ensures.same_labels) at c.write_checked.ensures)
