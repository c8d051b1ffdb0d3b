-- `write_checked` meets its contract: whether labels are surveyed or all have a byte, no label that is reached lacks one past it.
use Rattle.std.proofs.Common.{◌∙◌, sym}
use Rattle.std.proofs.lemmas.Result.{err_from_is_err_and}
use Rattle.lxd.proofs.WalkLaws.{all-have-bytes, byteless-label, walk-refuses}
use Rattle.lxd.proofs.write_checked.Goals as goal
use Rattle.lxd.proofs.write_checked.Goals.{else-lacks_byte-via-then-lacks_byte+in_ok-survey_start+else-branch, else-lacks_byte-via-else-lacks_byte}

pub returns-in_err-survey_start : goal.returns-in_err-survey_start
returns-in_err-survey_start c =
    let e = err_from_is_err_and c.from_residual.result c.from_residual.ensures.1 in
    rw (e.1, e.2) (walk-refuses c.args.g.graph.nodes.now c.args.g.labels.now c.args.texts.title.now c.args.texts.date.now c.args.file.now 0
    c.in_err-survey_start.ensures)

pub returns-then-branch : goal.returns-then-branch
returns-then-branch c =
    let f = c.in_ok-survey_start.ensures in
    walk-refuses c.args.g.graph.nodes.now c.args.g.labels.now c.args.texts.title.now c.args.texts.date.now c.args.file.now 1
    (f.deep, byteless-label _ _ _ f ∙ c.if-branch.true)

pub write_numbered-requires-clause-nodes_value : goal.write_numbered-requires-clause-nodes_value
write_numbered-requires-clause-nodes_value c = elim c.else-lacks_byte.branch [
  | else-lacks_byte-via-then-lacks_byte+in_ok-survey_start+else-branch w ↦
      byteless-label c.args.g.graph.nodes.now c.args.g.labels.now _ w.in_ok-survey_start.ensures ∙ w.if-branch.false
  | else-lacks_byte-via-else-lacks_byte w ↦
      all-have-bytes c.args.g.graph.nodes.now c.args.g.labels.now (sym c.lacks_byte.ensures ∙ w.if-lacks_byte.false)
]
