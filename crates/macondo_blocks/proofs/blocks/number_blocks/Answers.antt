-- `number_blocks` meets its contract: a cleared list holds the record of no block, and none is being followed.
use Rattle.std.specs.Prelude.{◌≡◌, ◌++◌, length, drop}
use Rattle.std.proofs.Common.{refl, rules}
use Rattle.laws.specs.Cleared.{cleared}
use Rattle.macondo_blocks.proofs.BlockNumberingLaws.{clear_at, clear-recorded, cleared-below, clear-numbering}
use Rattle.macondo_blocks.proofs.blocks.number_blocks.Goals as goal
use Rattle.macondo_blocks.proofs.blocks.number_blocks.Goals.{After-fill}

-- the list is cleared
zeros : (c : After-fill) → c.fill.new.self ++ drop (length c.args.g.nodes.now) c.args.work.now ≡ cleared (length c.args.g.nodes.now) c.args.work.now
zeros c = search rules

pub number_run-requires : goal.number_run-requires
number_run-requires c =
    let z = zeros (goal.at.number_run-requires c).After-fill in
    let g = c.args.g.nodes.now in
    record {
      blocks_recorded = clear-recorded c.args.work.now _ g c.requires.1 z c.args.g.labels.now _ refl refl;
      p_in_bounds = (c.requires.0, cleared-below c.args.work.now _ g c.requires.1 z c.args.s);
      p_value = clear_at c.args.work.now _ g c.requires.1 z c.args.s c.requires.0;
    }

pub returns : goal.returns
returns c =
    let z = zeros (goal.at.returns c).After-fill in
    clear-numbering c.args.work.now _ c.args.g.nodes.now c.requires.1 z c.args.g.labels.now _ refl c.args.s c.number_run.new.work c.number_run.result
    c.number_run.ensures
