-- `write_nodes` meets its contract: after the count, the blocks left, written where they go, give the section.
use Rattle.std.specs.Prelude.{ℕ, ◌+◌, ◌*◌, ◌≤◌, ◌<◌, length, get_or}
use Rattle.std.proofs.Common.{arith}
use Rattle.node.specs.Nodes.{kbwg, arc}
use Rattle.macondo_blocks.specs.ArcsLaws.{child-inside}
use Rattle.macondo_writing.proofs.SectionLaws.{section-stored}
use Rattle.macondo_writing.proofs.BlockNodes.{blocks_start, block-fits, blocks-next, blocks-done}
use Rattle.macondo_writing.proofs.nodes.write_nodes.Goals as goal
use Rattle.macondo_writing.proofs.nodes.write_nodes.Goals.{After-arcs_in-arcs}

-- the arcs of the block at hand are known
module _ (c : After-arcs_in-arcs) where
  fits-here : c.loop-j.w + (4 + 4 * length c.arcs_in-arcs.result.now) ≤ length c.loop-j.file
  fits-here =
      block-fits c.args.g.nodes.now c.args.g.labels.now c.args.t.ranks.now c.args.t.work.now _ _ _ c.loop-j.j c.loop-j.invariant c.loop-j-test.true
      c.arcs_in-arcs.result.now c.arcs_in-arcs.ensures.1
      (omega (arith, c.requires.nodes_in_bounds, c.requires.tables_filled.nodes, c.write_be_u32.auto.bytes))

  child : (k : ℕ) → k < length c.arcs_in-arcs.result.now → arc kbwg (get_or c.arcs_in-arcs.result.now k 0) < length c.args.g.nodes.now
  child k h = child-inside c.args.g.nodes.now c.args.g.labels.now _ c.arcs_in-arcs.result.now c.arcs_in-arcs.ensures.1 k h c.args.g.ready

pub loop-j-init : goal.loop-j-init
loop-j-init c = blocks_start c.args.g.nodes.now c.args.g.labels.now c.args.t.ranks.now c.args.t.work.now _ _ _

pub write_block-requires : goal.write_block-requires
write_block-requires c =
    let a = (goal.at.write_block-requires c).After-arcs_in-arcs in
    let f = c.requires.tables_filled in
    record {
      arcs_bound = (c.arcs_in-arcs.ensures.0, f.numbers c.loop-j.j c.loop-j-test.true, omega (arith, fits-here a), f.small);
      by_index = λ k h. (omega (arith, f.room, child a k h), f.place-fits _ (child a k h));
    }

pub overflow_add-w-in-loop-j-2 : goal.overflow_add-w-in-loop-j-2
overflow_add-w-in-loop-j-2 c = omega (arith, fits-here (goal.at.overflow_add-w-in-loop-j-2 c).After-arcs_in-arcs)

pub loop-j-preserved : goal.loop-j-preserved
loop-j-preserved c =
    blocks-next c.args.g.nodes.now c.args.g.labels.now c.args.t.ranks.now c.args.t.work.now _ _ _ c.loop-j.j c.loop-j.invariant c.loop-j-test.true
    c.arcs_in-arcs.result.now c.arcs_in-arcs.ensures.1 c.write_block.ensures

pub returns : goal.returns
returns c =
    section-stored 4 _ c.args.file.now c.args.at c.args.t.counts.nodes c.requires.tables_filled.nodes c.write_be_u32.ensures
    (blocks-done c.args.g.nodes.now c.args.g.labels.now c.args.t.ranks.now c.args.t.work.now _ _ _ c.loop-j.j c.loop-j.invariant
    (omega (arith, c.loop-j-test.false)))
