-- The file's nodes: how many there are, the fields of each, and that each is a 32-bit number.
use Rattle.std.specs.Prelude.{◌≡◌, refl, ◌≢◌, ℕ, ◌+◌, ◌^◌, ◌≤◌, ◌<◌, eqb, length, get_or}
use Rattle.std.proofs.Common.{sym, ap, ◌∙◌, subst, ⊎_elim, arith, eqb-true, eq-eqb, ne_eqb}
use mathlib.Core.List.Memᴰ
use mathlib.Core.List.{List, [], ◌∷◌, map, Memᴰ}
use Rattle.std.proofs.lemmas.List.{length-map}
use Rattle.std.proofs.lemmas.Bool.{eqb-false}
use Rattle.laws.specs.Cases.{split}
use Rattle.laws.specs.Members.{in_map}
use Rattle.node.specs.Nodes.{Field, Tile, Accepts, End, Arc, kbwg, tile, arc, accepts, is_end}
use Rattle.node.specs.PackingLaws.{FillsNode}
use Rattle.node.specs.PackedLaws.{Fields, packed-fields}
use Rattle.graph.specs.Runs.{Graph, start_node}
use Rattle.graph.specs.Words.{count}
use Rattle.lxd_file.specs.File.{lxd, child, letter, lxd_node, lxd_nodes, reached}
use Rattle.windows1252.proofs.Windows1252Laws.{byte-below}
use Rattle.lxd_file.proofs.RowLaws.{LxdAccepted}
use Rattle.lxd_file.proofs.RunsLaws.{child-within}

whole-lxd : FillsNode lxd
whole-lxd = record { chain = refl; each = present }
  where
    present : (f : Field) → Memᴰ f lxd.upward
    present Arc = Memᴰ.head refl
    present Tile = Memᴰ.tail (Memᴰ.head refl)
    present Accepts = Memᴰ.tail (Memᴰ.tail (Memᴰ.head refl))
    present End = Memᴰ.tail (Memᴰ.tail (Memᴰ.tail (Memᴰ.head refl)))

after-two-below : (l : List ℕ) → ((v : ℕ) → Memᴰ v l → v < 2 ^ 32)
    → (v : ℕ) → Memᴰ v (0x8A800000 ∷ 0x8A800002 ∷ l) → v < 2 ^ 32
after-two-below l h v m = ⊎_elim (λ i. omega arith) (λ k. ⊎_elim (λ i. omega arith) (h v) (Memᴰ.cases_cons k)) (Memᴰ.cases_cons m)

-- there are no words, or some
pub words_or_none : (g : Graph) {C : Type 0} → (count kbwg g (start_node g 0) ≡ 0 → C) → (count kbwg g (start_node g 0) ≢ 0 → C) → C
words_or_none g none some =
    let n = count kbwg g (start_node g 0) in
    split (eqb n 0) (λ t. none (eqb-true n 0 t)) (λ t. some (eqb-false n 0 t))

module _ (g : Graph) (labels : List ℕ) where
  -- ---- how many nodes, with no words and with some
  module _ (none : count kbwg g (start_node g 0) ≡ 0) where
    pub nodes-none : lxd_nodes g labels ≡ 0x8A800000 ∷ 0x8A800002 ∷ 0x8A800000 ∷ []
    unfolding lxd_nodes
    nodes-none = rw (eq-eqb (count kbwg g (start_node g 0)) 0 none, lxd_nodes)

    pub length_none : length (lxd_nodes g labels) ≡ 3
    length_none = ap length nodes-none

  module _ (some : count kbwg g (start_node g 0) ≢ 0) where
    pub nodes-some : lxd_nodes g labels ≡ 0x8A800000 ∷ 0x8A800002 ∷ map (lxd_node g labels) (reached g)
    unfolding lxd_nodes
    nodes-some = rw (ne_eqb (count kbwg g (start_node g 0)) 0 some, lxd_nodes)

    pub length_some : length (lxd_nodes g labels) ≡ 2 + length (reached g)
    length_some = ap length nodes-some ∙ (let e = length-map (reached g) (lxd_node g labels) in omega arith)

  module _ (ok : LxdAccepted g labels) where
    -- ---- a node's fields
    module _ (v : ℕ) (m : Memᴰ v (reached g)) where
      child-below : child g (arc kbwg v) < 2 ^ 22
      child-below = let h = child-within g ok.sound ok.ended v m in let r = ok.room in omega arith

      pub node-fields : Fields lxd (lxd_node g labels v) (letter labels (tile kbwg v)) (accepts kbwg v) (is_end kbwg v) (child g (arc kbwg v))
      unfolding lxd_node
      node-fields =
          packed-fields lxd whole-lxd (refl, refl) (letter labels (tile kbwg v)) (accepts kbwg v) (is_end kbwg v) (child g (arc kbwg v))
          (byte-below (get_or labels (tile kbwg v) 0)) child-below

    -- ---- all of them
    copies-below : (v : ℕ) → Memᴰ v (map (lxd_node g labels) (reached g)) → v < 2 ^ 32
    copies-below v m =
        let r = in_map (lxd_node g labels) (reached g) v m in
        subst (λ w. w < 2 ^ 32) (sym r.2) (node-fields r.0 r.1).below

    pub lxd-nodes-below : (v : ℕ) → Memᴰ v (lxd_nodes g labels) → v < 2 ^ 32
    lxd-nodes-below v m =
        words_or_none g
        (λ z. after-two-below (0x8A800000 ∷ []) (λ w k. let e = Memᴰ.eq_of_singleton k in omega arith) v (rw (nodes-none z) at m))
        (λ n. after-two-below (map (lxd_node g labels) (reached g)) copies-below v (rw (nodes-some n) at m))

    pub lxd-nodes-few : length (lxd_nodes g labels) ≤ 2 ^ 22
    lxd-nodes-few =
        words_or_none g
        (λ z. let e = length_none z in omega arith)
        (λ n. let e = length_some n in let r = ok.room in omega arith)
