-- `write_checked` meets its contract: the numbering and the labels decide the checks 22 and 23, and past them what `write_numbered` gives.
use Rattle.std.specs.Prelude.{◌≡◌, false}
use Rattle.std.proofs.Common.{sym, ap, ◌∙◌}
use Rattle.std.proofs.lemmas.Result.{err_from_is_err_and}
use Rattle.answers.specs.RowLaws.{row-refuses, row-passes}
use Rattle.graph.specs.Runs.{start_node}
use Rattle.export.specs.Starts.{deeper}
use Rattle.export.specs.Written.{written}
use Rattle.export.specs.WrittenLaws.{refused_by}
use Rattle.macondo_file.specs.File.{marks, macondo_file}
use Rattle.macondo.specs.Said.{format_of}
use Rattle.macondo.proofs.walk.write_checked.Goals as goal
use Rattle.macondo.proofs.walk.write_checked.Goals.{In_ok-reached}

pub returns-in_err-reached : goal.returns-in_err-reached
returns-in_err-reached c =
    let e = err_from_is_err_and c.from_residual.result c.from_residual.ensures.1 in
    let deep = rw c.start_of-s.ensures at c.in_err-reached.ensures in
    rw (e.1, e.2) (refused_by _ _ c.args.file.now (row-refuses _ _ _ deep))

-- the first check of the walk, then, passes
shallow : (c : In_ok-reached) → deeper c.args.g.nodes.now 64 (start_node c.args.g.nodes.now (marks (format_of c.args.format)).root) ≡ false
shallow c = rw c.start_of-s.ensures at c.in_ok-reached.ensures.2

pub returns-then-lacks_code_point : goal.returns-then-lacks_code_point
returns-then-lacks_code_point c =
    refused_by _ _ c.args.file.now
    (row-passes _ _ _ (shallow (goal.at.returns-then-lacks_code_point c).In_ok-reached)
    ∙ row-refuses _ _ _ (sym c.lacks_code_point.ensures ∙ c.if-lacks_code_point.true))

pub returns : goal.returns
returns c =
    let past = row-passes _ _ _ (shallow (goal.at.returns c).In_ok-reached) ∙ row-passes _ _ _ (sym c.lacks_code_point.ensures ∙ c.if-lacks_code_point.false) in
    let whole = macondo_file c.args.g.nodes.now c.args.g.labels.now (format_of c.args.format) c.args.name.now in
    c.write_numbered.ensures ∙ ap (λ o. written o whole c.args.file.now) (sym past)
