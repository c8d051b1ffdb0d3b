-- `write_each` meets its contract, an entry at a time.
use Rattle.std.proofs.Common.{arith}
use Rattle.macondo_writing.proofs.SectionLaws.{each-start, each-next, each-done}
use Rattle.macondo_writing.proofs.sections.write_each.Goals as goal

pub loop-i-init : goal.loop-i-init
loop-i-init g c = each-start _ _ _ _

pub loop-i-preserved : goal.loop-i-preserved
loop-i-preserved g c = each-next _ _ _ _ c.loop-i.i c.number.result c.loop-i.invariant c.number.ensures c.write_be_u32.ensures

pub returns : goal.returns
returns g c = each-done _ _ _ _ c.loop-i.invariant (omega arith)
