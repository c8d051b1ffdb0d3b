-- `run_length` meets its contract: the nodes passed and those of the run left are the run.
use Rattle.std.proofs.Common.{sym, arith}
use Rattle.graph.specs.ChecksLaws.{fit-holds}
use Rattle.lxd_blocks.proofs.RunLaws.{size-last, size-more}
use Rattle.lxd_blocks.proofs.numbering.run_length.Goals as goal

pub loop-last-preserved : goal.loop-last-preserved
loop-last-preserved c =
    let l = c.loop-last.invariant in
    let on = sym c.loop-last-test.ensures in
    let next = (fit-holds c.args.g.nodes.now c.args.g.fit).steps.runs c.loop-last.last l.1 on in
    let sizes = size-more c.args.g.nodes.now c.loop-last.last l.1 on in
    (omega arith, omega arith, omega arith, omega arith)

pub overflow_add-passed : goal.overflow_add-passed
overflow_add-passed c = let most = (fit-holds c.args.g.nodes.now c.args.g.fit).most in omega arith

pub returns : goal.returns
returns c =
    let l = c.loop-last.invariant in
    let sizes = size-last c.args.g.nodes.now c.loop-last.last l.1 (sym c.loop-last-test.ensures) in
    omega arith
