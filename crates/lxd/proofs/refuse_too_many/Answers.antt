-- `refuse_too_many` meets its contract: the survey decides the conditions before 25, which is known to hold.
use Rattle.std.proofs.Common.{◌∙◌, eq-eqb, ne_eqb, lt-ltb}
use Rattle.answers.specs.RowLaws.{stops_at}
use Rattle.graph.specs.ChecksLaws.{fit-holds}
use Rattle.lxd_file.specs.Row.{lxd_walk_row}
use Rattle.lxd.proofs.WalkLaws.{many-words}
use Rattle.lxd.proofs.refuse_too_many.Goals as goal

pub returns-in-Err : goal.returns-in-Err
returns-in-Err c title date lent =
    rw c.from.ensures (stops_at 0 (lxd_walk_row c.args.g.graph.nodes.now c.args.g.labels.now title date lent) c.in-Err.ensures)

pub returns-in-Ok : goal.returns-in-Ok
returns-in-Ok c title date lent =
    let f = c.in-Ok.ensures in
    let many = many-words _ _ _ f (fit-holds c.args.g.graph.nodes.now c.args.g.graph.fit) ∙ eq-eqb _ _ c.if-found.true in
    stops_at 2 (lxd_walk_row c.args.g.graph.nodes.now c.args.g.labels.now title date lent) (f.deep, (c.requires.nodes_value, many))

pub returns-in-Ok-2 : goal.returns-in-Ok-2
returns-in-Ok-2 c title date lent =
    let f = c.in-Ok.ensures in
    let few = many-words _ _ _ f (fit-holds c.args.g.graph.nodes.now c.args.g.graph.fit) ∙ ne_eqb _ _ c.if-found.false in
    let over = lt-ltb _ _ c.requires.bound in
    stops_at 3 (lxd_walk_row c.args.g.graph.nodes.now c.args.g.labels.now title date lent) (f.deep, (c.requires.nodes_value, (few, over)))
