-- `write_block` meets its contract: after the head, the node of each arc.
use Rattle.std.specs.Prelude.{◌+◌}
use Rattle.std.proofs.Common.{ap, ◌∙◌, rules}
use Rattle.std.proofs.lemmas.List.Edits.{sets}
use Rattle.endian.specs.Bytes.{big_endians}
use Rattle.macondo_writing.specs.FileTables.{arc_in}
use Rattle.macondo_writing.proofs.SectionLaws.{made-map}
use Rattle.macondo_writing.proofs.BlockNodes.{block-stored}
use Rattle.macondo_writing.proofs.nodes.write_block.Goals as goal

pub returns : goal.returns
returns c =
    let a = c.args in
    let e = c.write_each.ensures in
    let made = made-map (arc_in a.t.ranks.now a.t.work.now) (λ x r k. search rules) e.1 in
    block-stored a.t.ranks.now a.t.work.now a.arcs.now a.file.now a.set a.at c.write_be_u32.ensures
    (e.2 ∙ ap (λ vs. sets c.write_be_u32.new.bytes (a.at + 4) (big_endians 4 vs)) made)
