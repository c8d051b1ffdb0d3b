-- The record of runs gives the definition's nodes: each arc's entry is the place of its run, and the order is that in which runs are met.
use mathlib.Core.Path.{◌≡◌, sym, ap, ◌∙◌, subst}
use mathlib.Core.Logic.{◌≢◌}
use mathlib.Core.List.{List, map, Memᴰ}
use Prim.Native.Nat.{ℕ, ◌+◌, ◌*◌, ◌^◌, ◌≤◌, ◌<◌}
use native.Mathlib.Omega.{arith}
use lib.Dec.{eqb}
use lib.ListN.{length, get_or, length-map}
use lib.Seq.{sets}
use borrow.Author.Tests.{eqb-true, eqb-false, eq-eqb, ne_eqb}
use Rattle.laws.specs.Cases.{split}
use Rattle.laws.specs.Lists.{member}
use Rattle.laws.specs.Members.{map_same, member_mem, mem_member}
use Rattle.endian.specs.Bytes.{to_bytes, node_bytes}
use Rattle.node.specs.Nodes.{kbwg, arc}
use Rattle.graph.specs.Runs.{Graph, start_node}
use Rattle.graph.specs.Words.{count}
use Rattle.block_record.specs.Record.{child_in, blocks_in}
use Rattle.block_record.specs.RecordLaws.{holds-most, child-none, child-some}
use Rattle.block_record.specs.declared.BlockTally.{BlockTally}
use Rattle.lxd_file.specs.File.{runs, reached, run_place, child, lxd_node, lxd_nodes}
use Rattle.lxd_file.proofs.RunsLaws.{no-child, child-place, reached-size, runs-inside, arc_in_runs, place-within}
use Rattle.lxd_file.proofs.NodesLaws.{nodes-none, nodes-some, length_none, length_some, words_or_none}
use Rattle.endian.proofs.BytesLaws.{length-numbers}
use Rattle.lxd_blocks.specs.Placed.{node_in, order_bytes, LxdReady}
use Rattle.lxd.specs.Planned.{Planned, nodes_written}

module _ {g : Graph} {labels w : List ℕ} {words : ℕ} {t : BlockTally} (h : Planned g labels w words t) where
  -- ---- how many nodes
  pub total-nodes : t.nodes ≡ 2 + length (reached g)
  total-nodes = h.held.runs.sum ∙ ap (2 +◌) (sym (reached-size g))

  pub count-nodes : nodes_written words t.nodes ≡ length (lxd_nodes g labels)
  unfolding nodes_written
  count-nodes =
      let e = h.found.counted in
      words_or_none g
      (λ z. rw (eq-eqb words 0 (e ∙ z), nodes_written) (sym (length_none g labels z)))
      (λ n. rw (ne_eqb words 0 (λ z. n (sym e ∙ z)), nodes_written) (total-nodes ∙ sym (length_some g labels n)))

  -- ---- where an arc leads
  recorded : (p : ℕ) → Memᴰ p (runs g) → get_or w p 0 ≡ run_place g p + 1
  recorded p m = h.held.runs.old p (runs-inside g h.found.sound p m) (mem_member p (runs g) m)

  child-is : (v : ℕ) → Memᴰ v (reached g) → child_in w (arc kbwg v) ≡ child g (arc kbwg v)
  child-is v m =
      split (eqb (arc kbwg v) 0)
      (λ e. let z = eqb-true _ _ e in sym (child-none w (arc kbwg v) z) ∙ sym (ap (child g) z ∙ no-child g))
      (λ e.
      let n = eqb-false _ _ e in
      let a = child-some w (arc kbwg v) n in
      let b = recorded (arc kbwg v) (arc_in_runs g h.found.sound h.found.ended v m n) in
      let c = child-place g (arc kbwg v) n in
      omega arith)

  -- ---- what writing reads
  child_fits : (p : ℕ) → p < length g → child_in w p < 2 ^ 22
  child_fits p l =
      split (eqb p 0)
      (λ e. let z = child-none w p (eqb-true p 0 e) in omega arith)
      (λ e.
      let a = child-some w p (eqb-false p 0 e) in
      split (member p (runs g))
      (λ m.
      let i = member_mem p (runs g) m in
      let b = recorded p i in
      let c = (place-within g h.found.sound p i).1 in
      let d = total-nodes in
      let k = h.held.within in
      omega arith)
      (λ m. let b = h.held.runs.new p l m in omega arith))

  pub lxd-ready : LxdReady g w
  lxd-ready = record { room = let r = h.room in omega arith; child_fits = child_fits }

  -- ---- the record's order
  pub order-fits : length g + t.blocks < length w
  order-fits = let a = holds-most h.held.runs in let r = h.room in omega arith

  pub order-inside : (p : ℕ) → Memᴰ p (blocks_in (length g) w t.blocks) → p < length g
  order-inside p m = runs-inside g h.found.sound p (subst (Memᴰ p) h.held.runs.order m)

  node-is : (v : ℕ) → Memᴰ v (reached g) → node_in labels w v ≡ lxd_node g labels v
  unfolding node_in lxd_node
  node-is v m = rw (child-is v m)

  pub order-bytes : order_bytes g labels w (blocks_in (length g) w t.blocks) ≡ node_bytes (map (lxd_node g labels) (reached g))
  order-bytes = ap (order_bytes g labels w) h.held.runs.order ∙ ap node_bytes (map_same (node_in labels w) (lxd_node g labels) (reached g) node-is)

  -- ---- the nodes after the header
  pub two-nodes : 2 ≤ length (lxd_nodes g labels)
  two-nodes =
      words_or_none g
      (λ z. let e = length_none g labels z in omega arith)
      (λ n. let e = length_some g labels n in omega arith)

  module _ (none : words ≡ 0) where
    no_words : count kbwg g (start_node g 0) ≡ 0
    no_words = sym h.found.counted ∙ none

    pub three-nodes : length (lxd_nodes g labels) ≡ 3
    three-nodes = length_none g labels no_words

    pub none_written : {a b c : List ℕ} (l : List ℕ) → a ≡ sets l 64 (to_bytes 0x8A800000) → b ≡ sets a 68 (to_bytes 0x8A800002)
        → c ≡ sets b 72 (to_bytes 0x8A800000) → c ≡ sets l 64 (node_bytes (lxd_nodes g labels))
    unfolding node_bytes
    none_written l i j k =
        k ∙ ap (λ x. sets x 72 (to_bytes 0x8A800000)) (j ∙ ap (λ x. sets x 68 (to_bytes 0x8A800002)) i)
        ∙ ap (λ x. sets l 64 (node_bytes x)) (sym (nodes-none g labels no_words))

  module _ (some : words ≢ 0) where
    some_words : count kbwg g (start_node g 0) ≢ 0
    some_words z = some (h.found.counted ∙ z)

    abbrev order : List ℕ
    order = blocks_in (length g) w t.blocks

    pub order-room : 72 + length (order_bytes g labels w order) ≡ 64 + 4 * length (lxd_nodes g labels)
    order-room =
        let a = ap length order-bytes ∙ length-numbers (map (lxd_node g labels) (reached g)) in
        let b = length-map (reached g) (lxd_node g labels) in
        let c = length_some g labels some_words in
        omega arith

    pub some_written : {a b c : List ℕ} (l : List ℕ) → a ≡ sets l 64 (to_bytes 0x8A800000) → b ≡ sets a 68 (to_bytes 0x8A800002)
        → c ≡ sets b 72 (order_bytes g labels w order) → c ≡ sets l 64 (node_bytes (lxd_nodes g labels))
    unfolding node_bytes
    some_written l i j k =
        k ∙ ap (λ x. sets x 72 (order_bytes g labels w order)) (j ∙ ap (λ x. sets x 68 (to_bytes 0x8A800002)) i)
        ∙ ap (sets (sets (sets l 64 (to_bytes 0x8A800000)) 68 (to_bytes 0x8A800002)) 72) order-bytes
        ∙ ap (λ x. sets l 64 (node_bytes x)) (sym (nodes-some g labels some_words))
