-- `write_file` meets its contract: the file is too short, or the header and the nodes after it are the file.
use Rattle.std.proofs.Common.{arith}
use Rattle.lxd.proofs.PlannedLaws.{count-nodes}
use Rattle.lxd.proofs.WalkLaws.{walk-refuses, file-short, file-written}
use Rattle.lxd.proofs.file.write_file.Goals as goal

pub returns-then-file-long : goal.returns-then-file-long
returns-then-file-long c =
    walk-refuses _ _ _ _ _ 4 (file-short _ _ _ _ c.args.file.now c.requires _ c.node_count-count.ensures c.if-file-long.true)

pub write_nodes-requires-clause-labels_in_bounds : goal.write_nodes-requires-clause-labels_in_bounds
write_nodes-requires-clause-labels_in_bounds c = omega (arith, count-nodes c.requires)

pub returns : goal.returns
returns c =
    file-written _ _ _ _ c.args.file.now c.requires _ c.node_count-count.ensures c.if-file-long.false c.write_header.ensures c.write_nodes.ensures
