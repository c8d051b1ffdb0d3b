-- A block is no longer than 50 arcs and its head, all of them with labels: so there are at most 51 nodes of the file for each block.
use mathlib.Core.Path.{ap}
use mathlib.Core.List.{List, [], ◌∷◌}
use Prim.Native.Nat.{ℕ, ◌*◌, ◌≤◌}
use native.Mathlib.Omega.{arith}
use lib.ListN.{length, drop, length-take}
use Rattle.laws.specs.Lists.{all_members}
use Rattle.node.specs.Nodes.{kbwg}
use Rattle.graph.specs.Runs.{Graph}
use Rattle.graph.specs.RunLaws.{in_graph}
use Rattle.export.specs.Blocks.{total}
use Rattle.export.specs.LabelLaws.{labelled_in}
use Rattle.block_record.specs.Record.{HoldsBlocks}
use Rattle.block_record.specs.declared.BlockTally.{BlockTally}
use Rattle.macondo_file.proofs.ArcLaws.{in_arcs, arcs-few}
use Rattle.macondo_file.specs.File.{arcs_of, size_of}
use Rattle.macondo_file.specs.RowLaws.{MacondoReady}
use Rattle.macondo_blocks.specs.Blocks.{AllLabelled}

module _ (g : Graph) (labels : List ℕ) (ready : MacondoReady g labels) where
  pub arcs-labelled : (p : ℕ) → AllLabelled labels (arcs_of g labels p)
  arcs-labelled p =
      all_members _ (arcs_of g labels p) (λ v m. labelled_in g labels ready.labelled v (in_graph kbwg g p v (in_arcs g labels p v m).0))

  pub size_few : (p : ℕ) → size_of g labels p ≤ 51
  size_few p = omega (arith, arcs-few ready p)

total-few : (size : ℕ → ℕ) → ((p : ℕ) → size p ≤ 51) → (o : List ℕ) → total size o ≤ 51 * length o
unfolding total
total-few size h [] = omega arith
total-few size h (p ∷ o) = omega (arith, h p, total-few size h o)

pub tally-few : {n : ℕ} {size : ℕ → ℕ} {w : List ℕ} {t : BlockTally} {o : List ℕ} → HoldsBlocks n size 0 w t o → ((p : ℕ) → size p ≤ 51)
    → t.nodes ≤ 51 * t.blocks
tally-few {n} {size} {w} {t} {o} h k =
    let s = total-few size k o in
    let e = ap length h.order in
    let m = length-take t.blocks (drop n w) in
    let z = h.sum in
    omega arith
