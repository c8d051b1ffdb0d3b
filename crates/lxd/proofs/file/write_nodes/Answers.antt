-- `write_nodes` meets its contract: two nodes, and after them one more or the runs in the record's order, are the nodes of the
-- definition.
use Rattle.std.proofs.Common.{arith}
use Rattle.lxd.proofs.PlannedLaws.{lxd-ready, order-fits, order-inside, order-room, two-nodes, three-nodes, none_written, some_written}
use Rattle.lxd.proofs.file.write_nodes.Goals as goal

pub write_le_u32-requires : goal.write_le_u32-requires
write_le_u32-requires c = omega (arith, two-nodes c.requires.planned)

pub write_le_u32-requires-2 : goal.write_le_u32-requires-2
write_le_u32-requires-2 c = omega (arith, two-nodes c.requires.planned)

pub write_le_u32-requires-then-walked-eq0 : goal.write_le_u32-requires-then-walked-eq0
write_le_u32-requires-then-walked-eq0 c = omega (arith, three-nodes c.requires.planned c.if-walked-eq0.true)

pub returns-then-walked-eq0 : goal.returns-then-walked-eq0
returns-then-walked-eq0 c =
    none_written c.requires.planned c.if-walked-eq0.true c.args.file.now
    c.write_le_u32.ensures c.write_le_u32-2.ensures c.write_le_u32-then-walked-eq0.ensures

pub write_runs-requires-clause-lxd_ready : goal.write_runs-requires-clause-lxd_ready
write_runs-requires-clause-lxd_ready c = lxd-ready c.requires.planned

pub write_runs-requires-clause-blocks_in_bounds : goal.write_runs-requires-clause-blocks_in_bounds
write_runs-requires-clause-blocks_in_bounds c = order-fits c.requires.planned

pub write_runs-requires-clause-by_index : goal.write_runs-requires-clause-by_index
write_runs-requires-clause-by_index c = order-inside c.requires.planned

pub write_runs-requires-clause-blocks_in_bounds_2 : goal.write_runs-requires-clause-blocks_in_bounds_2
write_runs-requires-clause-blocks_in_bounds_2 c = omega (arith, order-room c.requires.planned c.if-walked-eq0.false)

pub returns : goal.returns
returns c =
    some_written c.requires.planned c.if-walked-eq0.false c.args.file.now
    c.write_le_u32.ensures c.write_le_u32-2.ensures c.write_runs.ensures
