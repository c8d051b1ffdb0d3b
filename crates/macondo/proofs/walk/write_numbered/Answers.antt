-- `write_numbered` meets its contract: the counts decide the sizes, and what the tables hold is the file of the definition.
use Rattle.std.proofs.Common.{arith, length-take}
use Rattle.block_record.specs.RecordLaws.{holds-most}
use Rattle.letter_sets.specs.Letters.{Ranks, Small}
use Rattle.macondo_writing.specs.declared.tables.SectionCounts.{SectionCounts}
use Rattle.macondo.specs.Said.{format_of}
use Rattle.macondo.proofs.RankLaws.{letters-tiles, letter-entries-below, ranks-are, ranks-small}
use Rattle.macondo.proofs.TablesLaws.{TablesRecorded, tables-filled}
use Rattle.macondo.proofs.SizeLaws.{too_many, too_short, all-written}
use Rattle.macondo.proofs.walk.write_numbered.Goals as goal
use Rattle.macondo.proofs.walk.write_numbered.Goals.{After-ranks-ranks, After-number_sets}

-- the ranks are those of the labels
module _ (c : After-ranks-ranks) where
  ranked : Ranks c.args.g.labels.now c.ranks-ranks.result
  ranked = ranks-are c.args.g.labels.now _ c.letters-list.ensures.1 c.args.g.ready.fifty c.ranks-ranks.result c.ranks-ranks.ensures.1

  small : Small c.ranks-ranks.result
  small = ranks-small c.args.g.labels.now _ c.letters-list.ensures.1 c.args.g.ready.fifty c.ranks-ranks.result c.ranks-ranks.ensures.1 c.ranks-ranks.ensures.0

-- the sets of the blocks stand after their record
module _ (c : After-number_sets) where
  abbrev counts : SectionCounts
  counts = record { blocks = c.args.tally.blocks; sets = c.number_sets.result; nodes = c.args.tally.nodes }

  tables : TablesRecorded c.args.g.nodes.now c.args.g.labels.now (format_of c.args.format) c.number_sets.new.work counts
  tables =
      record {
        recorded = c.args.work.now;
        room = omega (arith, c.requires.macondo_checked.work);
        first = c.requires.blocks_held;
        numbered = c.number_sets.ensures c.args.g.labels.now c.args.g.ready.labelled (ranked (goal.at.After-number_sets c).After-ranks-ranks);
      }

pub returns-then-tally-gt16777216 : goal.returns-then-tally-gt16777216
returns-then-tally-gt16777216 c = too_many c.requires.blocks_held c.args.name.now c.args.file.now c.if-tally-gt16777216.true

pub ranks-ranks-requires : goal.ranks-ranks-requires
ranks-ranks-requires c =
    let most = c.args.g.ready.fifty in
    (simp length-take (omega arith), letters-tiles c.args.g.labels.now _ c.letters-list.ensures.1 most)

pub number_sets-requires-clause-small : goal.number_sets-requires-clause-small
number_sets-requires-clause-small c = small (goal.at.number_sets-requires-clause-small c).After-ranks-ranks

pub number_sets-requires-clause-blocks_in_bounds : goal.number_sets-requires-clause-blocks_in_bounds
number_sets-requires-clause-blocks_in_bounds c = holds-most c.requires.blocks_held.holds

pub returns-then-file-size : goal.returns-then-file-size
returns-then-file-size c =
    too_short c.args.g.ready (format_of c.args.format) c.args.name.now (tables (goal.at.returns-then-file-size c).After-number_sets) c.args.file.now
    c.if-tally-gt16777216.false c.file_size-size.result c.file_size-size.ensures c.if-file-size.true

pub write_file-requires-clause-tables_filled : goal.write_file-requires-clause-tables_filled
write_file-requires-clause-tables_filled c =
    let n = (goal.at.write_file-requires-clause-tables_filled c).After-number_sets in
    let r = (goal.at.write_file-requires-clause-tables_filled c).After-ranks-ranks in
    tables-filled c.args.g.ready (format_of c.args.format) (tables n) c.ranks-ranks.result (ranked r) (small r)
    (omega (arith, c.requires.macondo_checked.work, c.number_sets.auto.work)) c.if-tally-gt16777216.false

pub write_file-requires-clause-by_index : goal.write_file-requires-clause-by_index
write_file-requires-clause-by_index c =
    let most = c.args.g.ready.fifty in
    let n = c.letters-list.ensures.0 in
    letter-entries-below c.args.g.labels.now _ c.letters-list.ensures.1 (omega arith)

pub returns : goal.returns
returns c =
    all-written c.args.g.ready (format_of c.args.format) c.args.name.now (tables (goal.at.returns c).After-number_sets) c.args.file.now
    c.if-tally-gt16777216.false c.file_size-size.result c.file_size-size.ensures c.magic.result c.magic.ensures c.ranks-ranks.result
    (ranked (goal.at.returns c).After-ranks-ranks) _ c.letters-list.ensures.1 c.if-file-size.false c.write_file.ensures
