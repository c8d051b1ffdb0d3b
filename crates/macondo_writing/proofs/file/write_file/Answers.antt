-- `write_file` meets its contract: the sections stand one after the other, each where the one before it ends.
use Rattle.macondo_writing.proofs.SectionLaws.{file-stored}
use Rattle.macondo_writing.proofs.file.write_file.Goals as goal

pub returns : goal.returns
returns c =
    let a = c.args in
    file-stored a.magic a.name.now a.g.nodes.now a.g.labels.now a.t.letters.now a.t.ranks.now a.t.work.now a.t.counts a.file.now
    c.write_opening.ensures c.write_code_points.ensures c.write_sets.ensures c.write_nodes.ensures
