-- `count_words` meets its contract: each refusal by its condition of the row, and past them what `count_checked` gives.
use Rattle.std.proofs.Common.{sym, length}
use Rattle.std.proofs.lemmas.Result.{err_from_is_err_and}
use Rattle.graph.specs.Counting.{unfit}
use Rattle.graph.specs.Lent.{work-walked}
use Rattle.count.proofs.Rows.{graph_refused, counts-short, work-short, row-clear}
use Rattle.count.proofs.count_words.Goals as goal
use Rattle.count.proofs.count_words.Goals.{then-counts-n-via-then-counts-n, then-counts-n-via-else-counts-n+then-work-n}

pub returns-in_err-g-clause-counted : goal.returns-in_err-g-clause-counted
returns-in_err-g-clause-counted c =
    let p = err_from_is_err_and c.from_residual.result c.from_residual.ensures.1 in
    rw (p.1, p.2) (unfit (graph_refused c.args.nodes.now (length c.args.counts.now) (length c.args.work.now) (sym c.in_err-g.ensures.refused)))

pub returns-then-counts-n-clause-counted : goal.returns-then-counts-n-clause-counted
returns-then-counts-n-clause-counted c =
    let sound = sym c.in_ok-g.ensures.refused in
    elim c.then-counts-n.branch [
      | then-counts-n-via-then-counts-n w ↦ unfit (counts-short _ _ _ sound w.if-counts-n.true)
      | then-counts-n-via-else-counts-n+then-work-n w ↦ unfit (work-short _ _ _ sound w.if-work-n.true)
    ]

pub returns-clause-free : goal.returns-clause-free
returns-clause-free c =
    work-walked (row-clear _ _ _ (sym c.in_ok-g.ensures.refused) c.if-counts-n.false c.if-work-n.false)
    (rw c.in_ok-g.ensures.same at c.count_checked.ensures.free)
