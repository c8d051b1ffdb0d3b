-- `write_numbered` meets its contract: numbering begins with a record that holds no runs, what it finds decides the row's conditions, and the
-- file is written from the record that it leaves.
use Rattle.std.proofs.Common.{◌≡◌, ◌++◌, ◌∙◌, refl, drop, eq-eqb, arith, length, rules}
use Rattle.laws.specs.Cleared.{cleared}
use Rattle.graph.specs.ChecksLaws.{fit-holds}
use Rattle.lxd.proofs.WalkLaws.{many-words, surveys_too, many-nodes, numbered_plan, empty-recorded, empty-below, walk-refuses}
use Rattle.lxd.proofs.write_numbered.Goals as goal

pub number_run-requires-clause-runs_recorded : goal.number_run-requires-clause-runs_recorded
number_run-requires-clause-runs_recorded c =
    let n = length c.args.g.graph.nodes.now in
    let e : c.fill.new.self ++ drop n c.args.work.now ≡ cleared n c.args.work.now = search rules in
    empty-recorded _ c.args.work.now c.requires.nodes_in_bounds e refl refl

pub number_run-requires-clause-below : goal.number_run-requires-clause-below
number_run-requires-clause-below c =
    let n = length c.args.g.graph.nodes.now in
    let e : c.fill.new.self ++ drop n c.args.work.now ≡ cleared n c.args.work.now = search rules in
    empty-below _ c.args.work.now c.requires.nodes_in_bounds e c.start_node.result

pub write_file-requires : goal.write_file-requires
write_file-requires c =
    let sound = fit-holds c.args.g.graph.nodes.now c.args.g.graph.fit in
    numbered_plan _ _ sound c.args.g.labelled c.requires.nodes_value c.start_node.ensures.start c.in-Ok.ensures c.if-walked.false
    (omega (arith, sound.two, c.requires.nodes_in_bounds, c.number_run.auto.work, c.fill.auto.self))

pub refuse_too_many-requires-clause-bound : goal.refuse_too_many-requires-clause-bound
refuse_too_many-requires-clause-bound c = many-nodes _ c.start_node.ensures.start (rw c.in-Err-TooMany.field-0-is at c.in-Err-TooMany.ensures)

pub returns-in-Ok : goal.returns-in-Ok
returns-in-Ok c =
    let f = surveys_too c.args.g.graph.nodes.now c.args.g.labels.now c.start_node.ensures.start c.in-Ok.ensures in
    let many = many-words _ _ _ f (fit-holds c.args.g.graph.nodes.now c.args.g.graph.fit) ∙ eq-eqb _ _ c.if-walked.true in
    walk-refuses c.args.g.graph.nodes.now c.args.g.labels.now c.args.texts.title.now c.args.texts.date.now c.args.file.now 2
    (f.deep, (c.requires.nodes_value, many))

pub returns-in-Err-TooDeep : goal.returns-in-Err-TooDeep
returns-in-Err-TooDeep c =
    walk-refuses c.args.g.graph.nodes.now c.args.g.labels.now c.args.texts.title.now c.args.texts.date.now c.args.file.now 0
    (rw (← c.start_node.ensures.start) (rw c.in-Err-TooDeep.field-0-is at c.in-Err-TooDeep.ensures))
