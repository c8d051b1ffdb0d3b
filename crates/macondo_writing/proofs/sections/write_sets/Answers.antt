-- `write_sets` meets its contract: after the count, the sets left, written where they go, give the section.
use Rattle.std.specs.Prelude.{◌≡◌, ◌+◌, ◌*◌}
use Rattle.std.proofs.Common.{sym, ◌∙◌, arith}
use Rattle.letter_sets.specs.HalvesLaws.{set_halves}
use Rattle.letter_sets.specs.SetNumbers.{set_at, sets_in}
use Rattle.laws.specs.Tables.{table-length, table_at}
use Rattle.macondo_writing.proofs.SectionLaws.{writing-next, writing-done, section-stored}
use Rattle.macondo_writing.proofs.sections.write_sets.Goals as goal

pub loop-i-preserved : goal.loop-i-preserved
loop-i-preserved c =
    let n = c.args.n in
    let w = c.args.work.now in
    let i = c.loop-i.i in
    let set = table_at c.args.count (set_at n w) i c.loop-i-test.true ∙ set_halves n w i in
    let on : c.args.at + 4 + 8 * (i + 1) ≡ c.args.at + 4 + 8 * i + 8 = omega arith in
    rw on (writing-next 8 (sets_in n w c.args.count) _ _ (table-length c.args.count (set_at n w)) i c.loop-i.invariant _ c.loop-i-test.true set c.write_be_halves.ensures)

pub returns : goal.returns
returns c =
    let all = sets_in c.args.n c.args.work.now c.args.count in
    let many = table-length c.args.count (set_at c.args.n c.args.work.now) in
    section-stored 8 all c.args.file.now c.args.at _ (sym many) c.write_be_u32.ensures
    (writing-done 8 all _ _ many c.loop-i.i c.loop-i.invariant (omega (arith, c.loop-i-test.false)))
