-- `write_runs` meets its contract: what is left to write, after what is written, is the whole. Each node goes on along its run, or to the
-- next run.
use Rattle.std.proofs.Common.{ℕ, ◌∙◌, refl, sym, ap, arith}
use Rattle.std.proofs.lemmas.List.Edits.{sets}
use Rattle.endian.specs.Bytes.{to_bytes}
use Rattle.graph.specs.ChecksLaws.{fit-holds}
use Rattle.lxd_blocks.proofs.PlacedLaws.{left-some, writing-starts, writing-on, writing_over}
use Rattle.lxd_blocks.proofs.nodes.write_runs.Goals as goal

pub loop-i-init : goal.loop-i-init
loop-i-init c = writing-starts _ _ _ _ c.requires.blocks_in_bounds c.requires.by_index c.args.file.now _ refl

-- the node at hand is one of the graph, and so is what its arc leads to
pub file_node-requires-clause-node_in_bounds_2 : goal.file_node-requires-clause-node_in_bounds_2
file_node-requires-clause-node_in_bounds_2 c =
    let leads = (fit-holds c.args.g.graph.nodes.now c.args.g.graph.fit).steps.arcs c.loop-i.p (c.loop-i.invariant.inside c.loop-i-test.true) in
    omega (arith, c.requires.lxd_ready.room)

pub file_node-requires-clause-node_bound : goal.file_node-requires-clause-node_bound
file_node-requires-clause-node_bound c =
    let leads = (fit-holds c.args.g.graph.nodes.now c.args.g.graph.fit).steps.arcs c.loop-i.p (c.loop-i.invariant.inside c.loop-i-test.true) in
    c.requires.lxd_ready.child_fits _ leads

pub write_le_u32-requires : goal.write_le_u32-requires
write_le_u32-requires c =
    let w = c.loop-i in
    let some = left-some c.args.g.graph.nodes.now c.args.g.labels.now c.args.work.now c.args.blocks w.i w.p (w.invariant.inside c.loop-i-test.true) in
    omega (arith, w.invariant.size, (w.invariant.rest c.loop-i-test.true).place, c.requires.blocks_in_bounds_2)

pub loop-i-preserved-then-is_end : goal.loop-i-preserved-then-is_end
loop-i-preserved-then-is_end c =
    let w = c.loop-i in
    let wrote = c.write_le_u32.ensures ∙ ap (λ (x : ℕ). sets w.file w.at (to_bytes x)) c.file_node.ensures in
    writing_over _ _ _ _ c.requires.blocks_in_bounds c.requires.by_index w.invariant c.loop-i-test.true wrote _ (sym c.if-is_end.ensures) refl

pub loop-i-preserved : goal.loop-i-preserved
loop-i-preserved c =
    let w = c.loop-i in
    let wrote = c.write_le_u32.ensures ∙ ap (λ (x : ℕ). sets w.file w.at (to_bytes x)) c.file_node.ensures in
    let on = sym c.if-is_end.ensures in
    let inside = w.invariant.inside c.loop-i-test.true in
    writing-on _ _ _ _ c.requires.blocks_in_bounds c.requires.by_index w.invariant c.loop-i-test.true wrote on
    ((fit-holds c.args.g.graph.nodes.now c.args.g.graph.fit).steps.runs w.p inside on)
