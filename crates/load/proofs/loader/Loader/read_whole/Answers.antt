-- `read_whole` meets its contract: repacking stops at the node that stops the load, or the bytes after the whole nodes are held.
use Rattle.std.proofs.Common.{◌-◌, ◌%◌, length, drop, ap, sym, ◌∙◌, arith, length-drop}
use Rattle.std.proofs.Math.Seq.{take_all}
use Rattle.std.proofs.lemmas.Result.{err_from_is_err_and}
use Rattle.load.specs.Loading.{places}
use Rattle.load.proofs.StateLaws.{state-stopped}
use Rattle.load.proofs.PieceLaws.{state-cut}
use Rattle.load.proofs.loader.Loader.read_whole.Goals as goal

pub returns-in_err-repack_into-clause-state : goal.returns-in_err-repack_into-clause-state
returns-in_err-repack_into-clause-state c =
    let p = err_from_is_err_and c.from_residual.result c.from_residual.ensures.1 in
    rw (p.1, p.2) (sym (state-stopped _ _ _ _ (sym c.in_err-repack_into.ensures.stop)))

pub returns-clause-state : goal.returns-clause-state
returns-clause-state c =
    let s = c.args.bytes.now in
    let cut = length s - length s % 4 in
    let rest = take_all (length s - cut) (drop cut s) (simp length-drop (omega arith)) in
    state-cut _ _ _ s (sym c.in_ok-repack_into.ensures.stop) (c.hold.ensures.0 ∙ ap places rest)
