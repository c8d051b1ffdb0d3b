-- What is read at a block's number: its set, and a node for each of its arcs. The idea: the number is the place of the block's head.
use Rattle.std.specs.Prelude.{◌≡◌, ℕ, suc, ◌/◌, ◌%◌, ◌^◌, get_or, take, drop}
use Rattle.std.proofs.Common.{sym, ◌∙◌, add-zero, add-one, take_at, get_or-drop, drop-drop}
use Rattle.std.proofs.Math.Path.{ap}
use mathlib.Core.List.{List, ◌∷◌, ◌++◌, Memᴰ}
use Rattle.std.proofs.Math.Nat.{zero-add}
use Rattle.std.proofs.Math.Pow.{high, low}
use Rattle.std.proofs.Math.ListN.{length}
use Rattle.std.proofs.lemmas.List.{length-map}
use Rattle.laws.specs.Firsts.{place_at}
use Rattle.laws.proofs.SameLaws.{exact-number}
use Rattle.graph.specs.Runs.{Graph}
use Rattle.export.specs.BlocksLaws.{block-at}
use Rattle.macondo_file.specs.File.{Format, arcs_of, size_of, set_of, blocks, letter_sets, block_number, head_node, arc_node, arc_nodes, block_of, macondo_nodes}
use Rattle.macondo_file.specs.RowLaws.{MacondoReady}
use Rattle.macondo_file.proofs.BlockLaws.{block-is, block-length, set-met, set-number-below}

-- the entry at a place and the list after it, by the list from that place on
drop_head : (l : List ℕ) (d x : ℕ) (r : List ℕ) → drop d l ≡ x ∷ r → (get_or l d 0 ≡ x) × (drop (suc d) l ≡ r)
drop_head l d x r e = (
  ap (λ k. get_or l k 0) (sym (add-zero d)) ∙ sym (get_or-drop d l 0 0) ∙ ap (λ s. get_or s 0 0) e,
  ap (λ k. drop k l) (sym (add-one d)) ∙ sym (drop-drop 1 d l) ∙ ap (drop 1) e,
)

module _ {g : Graph} {labels : List ℕ} (c : MacondoReady g labels) (f : Format) where
  abbrev nodes : List ℕ
  nodes = macondo_nodes g labels f

  abbrev head : ℕ → ℕ
  head p = get_or nodes (block_number g labels f p) 0

  pub record BlockRead (p : ℕ) : Type 0 where
    pub set-read : get_or (letter_sets g labels f) (head p % 2 ^ 24) 0 ≡ set_of g labels p
    pub arcs-read : take (head p / 2 ^ 24) (drop (suc (block_number g labels f p)) nodes) ≡ arc_nodes g labels f p

  pub block_read : (p : ℕ) → Memᴰ p (blocks g labels f) → BlockRead p
  unfolding macondo_nodes
  block_read p m =
      let arcs = arc_nodes g labels f p in
      let count = length (arcs_of g labels p) in
      let r = block-at exact-number (size_of g labels) (block_of g labels f) (block-length g labels f) (blocks g labels f) 0 p m in
      let at : block_number g labels f p ≡ r.0 = r.2 ∙ zero-add r.0 in
      let e = drop_head nodes r.0 (head_node g labels f p) (arcs ++ r.1) (r.3 ∙ ap (◌++ r.1) (block-is g labels f p)) in
      let h = set-number-below c f p m in
      record {
        set-read = rw (at, e.0, low count 24 h) (place_at (letter_sets g labels f) (set_of g labels p) (set-met g labels f p m));
        arcs-read = rw (at, e.0, high count 24 h, e.1) (take_at arcs r.1 count (length-map (arcs_of g labels p) (arc_node g labels f)));
      }
