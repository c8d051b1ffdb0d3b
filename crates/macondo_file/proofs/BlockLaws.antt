-- How many blocks, sets and nodes there are, and how high each can be. The idea: a block is met once, so there are no more of them
-- than nodes in the graph, and every block that an arc leads to is among them.
use Rattle.std.specs.Prelude.{◌≡◌, false, ℕ, suc, ◌+◌, ◌^◌, ◌≤◌, ◌<◌}
use Rattle.std.proofs.Math.Path.{refl, ap}
use Rattle.std.proofs.Common.{◌∙◌}
use Rattle.std.proofs.Math.Logic.{⊎_elim}
use mathlib.Core.List.Memᴰ
use mathlib.Core.List.{List, [], ◌∷◌, map, Memᴰ}
use native.Mathlib.Omega.{arith}
use Rattle.std.proofs.Math.Dec.{eqb}
use Rattle.std.proofs.Math.ListN.{length, length-map}
use Rattle.laws.specs.Firsts.{place_in, place_lt, firsts-all, firsts-length, firsts-from}
use Rattle.laws.specs.Members.{in_map, map_in, in_join}
use Rattle.laws.proofs.SameLaws.{exact-number}
use Rattle.node.specs.Nodes.{kbwg, tile, arc}
use Rattle.graph.specs.Runs.{Graph, start_node}
use Rattle.graph.specs.ChecksLaws.{start-inside}
use Rattle.export.specs.Starts.{arcs_from, deeper}
use Rattle.export.specs.Blocks.{block_at, total}
use Rattle.export.specs.BlocksLaws.{Low, every-met, few-met, first-met, start-met, children_met, blocks-length}
use Rattle.export.specs.BlocksLaws.{block-first, block_within, block_upto, blocks-most}
use Rattle.export.specs.ChainLaws.{arcs-inside, shallow-low}
use Rattle.macondo_file.proofs.AlphabetLaws.{letter-most}
use Rattle.macondo_file.specs.File.{Format, dawg, gaddag, marks, arcs_of, children_of, size_of, set_of}
use Rattle.macondo_file.specs.File.{blocks, letter_sets, block_number, head_node, arc_node, arc_nodes, block_of, macondo_nodes}
use Rattle.macondo_file.specs.RowLaws.{MacondoReady}
use Rattle.macondo_file.proofs.ArcLaws.{in_children, children_in, arcs-few}
use Rattle.macondo_file.proofs.SetLaws.{set_below}

root_below : (f : Format) → (marks f).root < 2
root_below dawg = omega arith
root_below gaddag = omega arith

module _ (g : Graph) (labels : List ℕ) (f : Format) where
  pub block-is : (p : ℕ) → block_of g labels f p ≡ head_node g labels f p ∷ arc_nodes g labels f p
  unfolding block_of
  block-is p = refl

  pub block-length : (p : ℕ) → length (block_of g labels f p) ≡ size_of g labels p
  block-length p = ap length (block-is p) ∙ ap suc (length-map (arcs_of g labels p) (arc_node g labels f))

  pub nodes-length : length (macondo_nodes g labels f) ≡ total (size_of g labels) (blocks g labels f)
  unfolding macondo_nodes
  nodes-length = blocks-length (size_of g labels) (block_of g labels f) block-length (blocks g labels f)

  -- every block has a head
  pub heads-few : length (blocks g labels f) ≤ length (macondo_nodes g labels f)
  heads-few =
      let a = blocks-most (size_of g labels) (blocks g labels f) (λ p m. omega arith) in
      let b = nodes-length in
      omega arith

  pub sets-few : length (letter_sets g labels f) ≤ length (blocks g labels f)
  unfolding letter_sets
  sets-few =
      let a = firsts-length (map (set_of g labels) (blocks g labels f)) [] in
      let b = length-map (blocks g labels f) (set_of g labels) in
      omega arith

  pub set-met : (p : ℕ) → Memᴰ p (blocks g labels f) → Memᴰ (set_of g labels p) (letter_sets g labels f)
  unfolding letter_sets
  set-met p m =
      firsts-all (map (set_of g labels) (blocks g labels f)) [] (set_of g labels p) (map_in (set_of g labels) (blocks g labels f) p m)

  -- a block's number is at most the number of nodes, and below it for a block of the file
  number-most : (q : ℕ) → block_number g labels f q ≤ length (macondo_nodes g labels f)
  number-most q =
      let a = block_upto eqb (size_of g labels) (blocks g labels f) 0 q in
      let b = nodes-length in
      omega arith

  pub number-within : (p : ℕ) → Memᴰ p (blocks g labels f)
      → block_number g labels f p + size_of g labels p ≤ length (macondo_nodes g labels f)
  number-within p m =
      let a = block_within exact-number (size_of g labels) (blocks g labels f) 0 p m in
      let b = nodes-length in
      omega arith

  -- the start's block is block 0
  pub start-number : block_number g labels f (start_node g (marks f).root) ≡ 0
  unfolding blocks
  start-number =
      let s = start_node g (marks f).root in
      let r = first-met exact-number (children_of g labels) 63 s in
      ap (λ l. block_at eqb (size_of g labels) 0 l s) r.1 ∙ block-first exact-number (size_of g labels) 0 s r.0

module _ {g : Graph} {labels : List ℕ} (c : MacondoReady g labels) (f : Format) where
  pub format-start-inside : start_node g (marks f).root < length g
  format-start-inside = start-inside c.fit (marks f).root (root_below f)

  child-inside : (p q : ℕ) → Memᴰ q (children_of g labels p) → q < length g
  child-inside p q m = arcs-inside g c.fit.steps p q (in_children g labels p q m)

  -- every block is the number of a node, and there are at most as many
  pub block_inside : (p : ℕ) → Memᴰ p (blocks g labels f) → p < length g
  unfolding blocks
  block_inside =
      every-met exact-number (children_of g labels) (λ p. p < length g) (λ p q h m. child-inside p q m) 64 (start_node g (marks f).root) format-start-inside

  pub blocks-most-nodes : length (blocks g labels f) ≤ length g
  unfolding blocks
  blocks-most-nodes = few-met (children_of g labels) (length g) (λ p q h m. child-inside p q m) 64 (start_node g (marks f).root) format-start-inside

  pub set-number-below : (p : ℕ) → Memᴰ p (blocks g labels f) → place_in (letter_sets g labels f) (set_of g labels p) < 2 ^ 24
  set-number-below p m =
      let a = place_lt (letter_sets g labels f) (set_of g labels p) (set-met g labels f p m) in
      let b = sets-few g labels f in
      let d = blocks-most-nodes in
      let e = c.fit.most in
      omega arith

  pub sets_below : (v : ℕ) → Memᴰ v (letter_sets g labels f) → v < 2 ^ 64
  unfolding letter_sets
  sets_below =
      firsts-from (λ v. v < 2 ^ 64) (map (set_of g labels) (blocks g labels f)) [] (λ v m. absurd (Memᴰ.not-nil m))
      (λ v m.
      let r = in_map (set_of g labels) (blocks g labels f) v m in
      rw r.2 (set_below g labels c.fifty r.0))

  -- every node of the file fits in four bytes: a block's head, and a node for an arc
  head-below : (p : ℕ) → Memᴰ p (blocks g labels f) → head_node g labels f p < 2 ^ 32
  head-below p m =
      let a = arcs-few c p in
      let b = set-number-below p m in
      omega arith

  module _ (few : length (macondo_nodes g labels f) ≤ 2 ^ 24) where
    arc-below : (v : ℕ) → arc_node g labels f v < 2 ^ 32
    arc-below v =
        let a = letter-most labels c.fifty (tile kbwg v) in
        let b = number-most g labels f (arc kbwg v) in
        omega arith

    pub macondo-nodes-below : (v : ℕ) → Memᴰ v (macondo_nodes g labels f) → v < 2 ^ 32
    unfolding macondo_nodes
    macondo-nodes-below v m =
        let r = in_join (block_of g labels f) (blocks g labels f) v m in
        ⊎_elim
        (λ i. rw i (head-below r.0 r.1))
        (λ k. let x = in_map (arc_node g labels f) (arcs_of g labels r.0) v k in rw x.2 (arc-below x.0))
        (Memᴰ.cases_cons (rw (block-is g labels f r.0) at r.2))

  module _ (shallow : deeper g 64 (start_node g (marks f).root) ≡ false) where
    low : Low (children_of g labels) 64 (start_node g (marks f).root)
    low = shallow-low g (children_of g labels) (in_children g labels) 64 (start_node g (marks f).root) shallow

    pub start-block : Memᴰ (start_node g (marks f).root) (blocks g labels f)
    unfolding blocks
    start-block = start-met exact-number (children_of g labels) 64 (start_node g (marks f).root) low

    pub child-block : (p q : ℕ) → Memᴰ p (blocks g labels f) → Memᴰ q (arcs_from g p) → Memᴰ q (blocks g labels f)
    unfolding blocks
    child-block p q m n = children_met exact-number (children_of g labels) 64 (start_node g (marks f).root) low p q m (children_in g labels p q n)
