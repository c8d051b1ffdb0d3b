-- `write_header` meets its contract: the fields stand one after the other.
use Rattle.lxd.proofs.HeaderLaws.{header-written}
use Rattle.lxd.proofs.header.write_header.Goals as goal

pub returns : goal.returns
returns c =
    header-written c.args.file.now c.args.nodes c.args.texts.title.now c.args.texts.date.now c.args.words c.write_le_u32.ensures
    c.write_le_u32-2.ensures c.write_text.ensures c.write_text-2.ensures c.write_le_u32-3.ensures
