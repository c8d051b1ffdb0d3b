-- The tables that the walk fills hold what the definitions of the file say. The idea: a block's entry in the record of blocks is its
-- number plus 1, and the blocks and their sets stand in the order of the definition; so what is read block after block is the file's.
use mathlib.Core.Path.{◌≡◌, refl, sym, ap, ap₂, ◌∙◌, subst}
use mathlib.Core.List.{List, [], ◌∷◌, ◌++◌, map, Memᴰ}
use Prim.Native.Nat.{ℕ, suc, ◌+◌, ◌-◌, ◌*◌, ◌≤◌, ◌<◌}
use native.Mathlib.Omega.{arith}
use native.Mathlib.Nat.{add-zero, zero-add}
use lib.ListN.{length, get_or, take, drop, length-drop}
use lib.Seq.{get_or-take, get_or-drop, length-take-le}
use Rattle.laws.specs.Cases.{split}
use Rattle.laws.specs.Firsts.{place_in, firsts}
use Rattle.laws.specs.Lists.{member, join_all}
use Rattle.laws.specs.Members.{at_in, map_same, member_mem, mem_member}
use Rattle.laws.proofs.SameLaws.{exact-number}
use Rattle.node.specs.Nodes.{kbwg, tile, arc}
use Rattle.endian.specs.Bytes.{big_endian}
use Rattle.graph.specs.Runs.{Graph}
use Rattle.export.specs.BlocksLaws.{block_within}
use Rattle.graph.specs.RunLaws.{in_graph}
use Rattle.export.specs.LabelLaws.{labelled_in}
use Rattle.export.specs.ChainLaws.{arc-from, arcs-inside}
use Rattle.block_record.specs.Record.{blocks_in}
use Rattle.block_record.specs.RecordLaws.{holds-most}
use Rattle.block_record.specs.declared.BlockTally.{BlockTally}
use Rattle.macondo_file.specs.Alphabet.{letters}
use Rattle.macondo_file.specs.File.{section, Format, marks, arcs_of, size_of, set_of, blocks, letter_sets, block_number}
use Rattle.macondo_file.specs.File.{head_node, arc_node, block_of, macondo_nodes, macondo_file}
use Rattle.macondo_file.proofs.ReadingLaws.{file-length}
use Rattle.macondo_file.specs.RowLaws.{MacondoReady}
use Rattle.macondo_file.proofs.ArcLaws.{in_arcs}
use Rattle.macondo_file.proofs.BlockLaws.{block-is, nodes-length, sets-few, block_inside, set-number-below, child-block}
use Rattle.letter_sets.specs.Letters.{Ranks, Small}
use Rattle.letter_sets.specs.SetNumbers.{sets_in, SetsNumbered}
use Rattle.macondo_writing.specs.declared.tables.SectionCounts.{SectionCounts}
use Rattle.macondo_writing.specs.FileTables.{arc_in, block_in, block_nodes_from, file_in, TablesFilled}
use Rattle.macondo.specs.BlocksHeld.{BlocksHeld}

-- ---- the nodes read block after block, where the work list holds the blocks of a list from block j on
nodes_over : (g : Graph) (labels ranks w : List ℕ) (number : ℕ → ℕ) (l : List ℕ) (j : ℕ)
    → ((i : ℕ) → i < length l → (get_or w (length g + (j + i)) 0 ≡ get_or l i 0) × (get_or w (2 * length g + (j + i)) 0 ≡ number (get_or l i 0)))
    → block_nodes_from g labels ranks w j (length l) ≡ join_all (map (λ p. block_in ranks w (number p) (arcs_of g labels p)) l)
unfolding block_nodes_from
nodes_over g labels ranks w number [] j h = refl
nodes_over g labels ranks w number (p ∷ l) j h =
    let a = h 0 (omega arith) in
    let i : j + 0 ≡ j = add-zero j in
    let run : get_or w (length g + j) 0 ≡ p = ap (λ k. get_or w (length g + k) 0) (sym i) ∙ a.0 in
    let set : get_or w (2 * length g + j) 0 ≡ number p = ap (λ k. get_or w (2 * length g + k) 0) (sym i) ∙ a.1 in
    ap₂ ◌++◌ (ap₂ (λ s q. block_in ranks w s (arcs_of g labels q)) set run)
    (nodes_over g labels ranks w number l (suc j) (λ k b.
    let e : suc j + k ≡ j + suc k = omega arith in
    rw e (h (suc k) (omega arith))))

-- ---- what the walk leaves in the work list: first the record of blocks
pub nodes-count : {g : Graph} {labels : List ℕ} {f : Format} {w : List ℕ} {t : BlockTally} → BlocksHeld g labels f w t
    → t.nodes ≡ length (macondo_nodes g labels f)
unfolding blocks
nodes-count {g} {labels} {f} b = let a = b.holds.sum in let n = nodes-length g labels f in omega arith

-- then, over all but that, the numbers of their sets
pub record TablesRecorded (g : Graph) (labels : List ℕ) (f : Format) (w : List ℕ) (c : SectionCounts) : Type 0 where
  pub recorded : List ℕ
  pub room : 2 * length g ≤ length recorded
  pub first : BlocksHeld g labels f recorded (record { blocks = c.blocks; nodes = c.nodes })
  pub numbered : SetsNumbered (set_of g labels) (length g) c.blocks recorded w c.sets

module _ {g : Graph} {labels : List ℕ} (c : MacondoReady g labels) (f : Format)
    {w : List ℕ} {k : SectionCounts} (t : TablesRecorded g labels f w k) where
  order : blocks_in (length g) t.recorded k.blocks ≡ blocks g labels f
  unfolding blocks
  order = t.first.holds.order

  blocks-within : k.blocks ≤ length g
  blocks-within = holds-most t.first.holds

  many : length (blocks g labels f) ≡ k.blocks
  many =
      let b = blocks-within in
      let r = t.room in
      ap length (sym order) ∙ length-take-le k.blocks (drop (length g) t.recorded) (simp length-drop (omega arith))

  -- ---- sets
  sets-are : sets_in (length g) w k.sets ≡ letter_sets g labels f
  unfolding letter_sets
  sets-are = t.numbered.sets-are ∙ ap (λ l. firsts [] (map (set_of g labels) l)) order

  pub sets-count : k.sets ≡ length (letter_sets g labels f)
  unfolding letter_sets
  sets-count = t.numbered.counted ∙ ap (λ l. length (firsts [] (map (set_of g labels) l))) order

  sets-within : k.sets ≤ length g
  sets-within =
      let a = sets-count in
      let b = sets-few g labels f in
      let d = many in
      let e = blocks-within in
      omega arith

  -- ---- block j and its set
  module _ (j : ℕ) (h : j < k.blocks) where
    block_here : get_or t.recorded (length g + j) 0 ≡ get_or (blocks g labels f) j 0
    block_here =
        sym (get_or-drop (length g) t.recorded j 0) ∙ sym (get_or-take k.blocks (drop (length g) t.recorded) j 0 h)
        ∙ ap (λ l. get_or l j 0) order

    run_of_block : get_or w (length g + j) 0 ≡ get_or (blocks g labels f) j 0
    run_of_block = let b = blocks-within in t.numbered.kept (length g + j) (omega arith) ∙ block_here

    block-met : Memᴰ (get_or (blocks g labels f) j 0) (blocks g labels f)
    block-met = let m = many in at_in (blocks g labels f) j 0 (omega arith)

    number_at : get_or w (2 * length g + j) 0 ≡ place_in (letter_sets g labels f) (set_of g labels (get_or (blocks g labels f) j 0))
    unfolding letter_sets
    number_at =
        t.numbered.numbers j h
        ∙ ap₂ (λ l p. place_in (firsts [] (map (set_of g labels) l)) (set_of g labels p)) order block_here

    run-below : get_or w (length g + j) 0 < length g
    run-below = subst (◌< length g) (sym run_of_block) (block_inside c f (get_or (blocks g labels f) j 0) block-met)

    number-below : get_or w (2 * length g + j) 0 ≤ 16777216
    number-below =
        let a = set-number-below c f (get_or (blocks g labels f) j 0) block-met in
        let b = number_at in
        omega arith

  -- ---- places
  place-most : (q : ℕ) → q < length g → get_or w q 0 ≤ k.nodes
  unfolding blocks
  place-most q h =
      let a = t.numbered.kept q (omega arith) in
      let l = blocks g labels f in
      split (member q l)
      (λ m.
      let o = t.first.holds.old q h m in
      let b = block_within exact-number (size_of g labels) l 0 q (member_mem q l m) in
      let s = t.first.holds.sum in
      omega arith)
      (λ m. let n = t.first.holds.new q h m in omega arith)

  -- ---- the file's length
  pub file-size-is : (text : List ℕ)
      → 17 + length text + 4 * (length labels - 1) + 8 * k.sets + 4 * k.nodes ≡ length (macondo_file g labels f text)
  file-size-is text =
      let a = sets-count in
      let b = nodes-count t.first in
      let d = file-length g labels f text in
      omega arith

  -- ---- the nodes
  module _ (ranks : List ℕ) (ranked : Ranks labels ranks) where
    number_of : (q : ℕ) → q < length g → Memᴰ q (blocks g labels f) → get_or t.recorded q 0 ≡ block_number g labels f q + 1
    unfolding blocks
    number_of q h m = t.first.holds.old q h (mem_member q (blocks g labels f) m)

    arc-same : (p v : ℕ) → Memᴰ p (blocks g labels f) → Memᴰ v (arcs_of g labels p) → arc_in ranks w v ≡ arc_node g labels f v
    unfolding arc_in
    arc-same p v m n =
        let a = in_arcs g labels p v n in
        let child = arc-from g p v a.0 a.1 in
        let q = arc kbwg v in
        let inside : q < length g = arcs-inside g c.fit.steps p q child in
        let o = number_of q inside (child-block c f t.first.shallow p q m child) in
        let kept = t.numbered.kept q (omega arith) in
        let place : get_or w q 0 - 1 ≡ block_number g labels f q = omega arith in
        ap₂ (λ l b. l * 16777216 + b) (ranked (tile kbwg v) (labelled_in g labels c.labelled v (in_graph kbwg g p v a.0))) place

    block_same : (p : ℕ) → Memᴰ p (blocks g labels f)
        → block_in ranks w (place_in (letter_sets g labels f) (set_of g labels p)) (arcs_of g labels p) ≡ block_of g labels f p
    unfolding block_in
    block_same p m =
        ap (head_node g labels f p ∷◌) (map_same (arc_in ranks w) (arc_node g labels f) (arcs_of g labels p) (λ v n. arc-same p v m n))
        ∙ sym (block-is g labels f p)

    nodes-are : block_nodes_from g labels ranks w 0 k.blocks ≡ macondo_nodes g labels f
    unfolding macondo_nodes
    nodes-are =
        ap (block_nodes_from g labels ranks w 0) (sym many)
        ∙ nodes_over g labels ranks w (λ p. place_in (letter_sets g labels f) (set_of g labels p)) (blocks g labels f) 0
        (λ i h. let b : i < k.blocks = subst (i <◌) many h in rw zero-add (run_of_block i b, number_at i b))
        ∙ ap join_all (map_same (λ p. block_in ranks w (place_in (letter_sets g labels f) (set_of g labels p)) (arcs_of g labels p)) (block_of g labels f)
        (blocks g labels f) block_same)

    -- ---- so the tables are what a file needs, and the file is that of the definition
    pub tables-filled : Small ranks → 8 * length g ≤ length w → k.nodes ≤ 16777216 → TablesFilled g labels ranks w k
    tables-filled small room few =
        record {
          small = small;
          room = room;
          few-blocks = blocks-within;
          few-sets = sets-within;
          place-fits = λ q h. let p = place-most q h in omega arith;
          runs = run-below;
          numbers = number-below;
          nodes = nodes-count t.first ∙ ap length (sym nodes-are);
        }

    pub tables-file-is : (magic : ℕ) → big_endian 4 magic ≡ (marks f).magic → (text letters' : List ℕ) → take (length labels - 1) letters' ≡ letters labels
        → file_in magic text g labels letters' ranks w k ≡ macondo_file g labels f text
    unfolding file_in macondo_file
    tables-file-is magic m text letters' e =
        ap₂ (λ b r. b ++ (length text ∷ text) ++ r) m
        (ap₂ (λ l r. section 4 (map (λ t. get_or labels t 0) l) ++ r) e (ap₂ (λ s n. section 8 s ++ section 4 n) sets-are nodes-are))
