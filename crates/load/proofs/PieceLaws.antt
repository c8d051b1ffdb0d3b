-- The state and the nodes after a piece, one node at a time.
use mathlib.Core.Path.{◌≡◌, refl, sym, ap, ◌∙◌}
use mathlib.Core.List.{List}
use mathlib.Core.Option.{Option, none, some}
use Prim.Native.Nat.{ℕ, suc, ◌+◌, ◌-◌, ◌*◌, ◌/◌, ◌%◌, ◌≤◌, ◌<◌}
use native.Mathlib.Omega.{arith}
use lib.ListN.{length, drop, set, length-drop}
use lib.Seq.{sets}
use Rattle.std.specs.Prelude.{Ok, Err, None}
use Rattle.node.specs.Nodes.{kbwg}
use Rattle.node.specs.Said.{bit_layout}
use Rattle.node.specs.declared.Layout.{Layout}
use Rattle.graph.specs.Runs.{Graph}
use Rattle.endian.specs.Bytes.{node_at, part_node}
use Rattle.endian.proofs.BytesLaws.{part-next, part-whole, part-drop, length_part}
use Rattle.load.specs.Repacking.{NodeRepacked}
use Rattle.load.proofs.NextNode.{next_fits, next-stops, no-next-node}
use Rattle.load.specs.Loading.{places, holding, stopped, misfit_in, state_at, state_after, nodes_after, held_then}
use Rattle.load.proofs.HeldLaws.{held-then-length, held-then-places}
use Rattle.load.proofs.StateLaws.{Sound, state-stopped, state-holding}
use Rattle.load.specs.declared.repack.Misfit.{Misfit}
use Rattle.load.specs.declared.loader.Loader.{Loader}

-- ---- bytes j of which the first begins node k
module _ (announced : ℕ) (layout : Layout) (nodes : Graph) (k : ℕ) (j : List ℕ) where
  -- the same stop, with the first node done
  state-on : 4 ≤ length j → (o : Option Misfit) → state_at o announced layout (suc k) (drop 4 j) ≡ state_at o announced layout k j
  state-on h none =
      let n : 4 * suc k + length (drop 4 j) ≡ 4 * k + length j = simp length-drop (omega arith) in
      rw (part-next j h) (ap (λ t. holding announced layout t (part_node (drop 4 j))) n)
  state-on h (some m) = refl

  pub piece-node : {v : ℕ} → 4 ≤ length j → NodeRepacked (bit_layout layout) kbwg k (node_at j 0) (Ok v)
      → (misfit_in layout (suc k) (drop 4 j) ≡ misfit_in layout k j)
      × (state_after announced layout (suc k) (drop 4 j) ≡ state_after announced layout k j)
      × (nodes_after layout (suc k) (drop 4 j) (set nodes k v) ≡ nodes_after layout k j nodes)
  unfolding state_after nodes_after
  piece-node h e =
      let n = next_fits (bit_layout layout) kbwg j 0 k h e in (
        sym n.0,
        ap (λ o. state_at o announced layout (suc k) (drop 4 j)) (sym n.0) ∙ state-on h (misfit_in layout k j),
        sym (ap (λ vs. sets nodes k vs) n.1),
      )

  pub piece-stops : {m : Misfit} → 4 ≤ length j → NodeRepacked (bit_layout layout) kbwg k (node_at j 0) (Err m)
      → (some m ≡ misfit_in layout k j) × (stopped announced layout m ≡ state_after announced layout k j) × (nodes ≡ nodes_after layout k j nodes)
  unfolding nodes_after
  piece-stops h e =
      let n = next-stops (bit_layout layout) kbwg j 0 k h e in
      (sym n.0, sym (state-stopped announced layout k j n.0), sym (ap (λ vs. sets nodes k vs) n.1))

  pub piece-short : length j < 4
      → (none ≡ misfit_in layout k j) × (holding announced layout (4 * k + length j) j ≡ state_after announced layout k j) × (nodes ≡ nodes_after layout k j nodes)
  unfolding nodes_after
  piece-short h =
      let n = no-next-node (bit_layout layout) kbwg j 0 k h in (
        sym n.0,
        ap (holding announced layout (4 * k + length j)) (sym (part-whole j h)) ∙ sym (state-holding announced layout k j n.0),
        sym (ap (λ vs. sets nodes k vs) n.1),
      )

-- ---- a piece that only adds to the held bytes of a sound state
pub held-longer : (s : Loader) (lent_nodes : ℕ) → Sound s lent_nodes → (piece : List ℕ) {h : List ℕ} → length s.held ≡ 3
    → s.held_count + length piece < 4 → h ≡ sets s.held s.held_count piece
    → ◌≡◌ {A = Loader}
    (record {
      announced = s.announced;
      layout = s.layout;
      taken = s.taken + length piece;
      held = h;
      held_count = s.held_count + length piece;
      kept = None;
    })
    (holding s.announced s.layout (4 * (s.taken / 4) + length (held_then s piece)) (held_then s piece))
unfolding holding
held-longer s lent_nodes ok piece three short p =
    let n = held-then-length s.held s.held_count piece three (omega arith) in
    let h = p ∙ sym (held-then-places s.held s.held_count piece three (omega arith) ok.unused) in
    let t : s.taken + length piece ≡ 4 * (s.taken / 4) + length (held_then s piece) = let q = ok.count in rw n (omega arith) in
    λ i. record {
      announced = s.announced;
      layout = s.layout;
      taken = t i;
      held = h i;
      held_count = sym n i;
      kept = None;
    }

-- ---- bytes of which those from the last whole node on are held
pub state-cut : (announced : ℕ) (layout : Layout) (k : ℕ) (bytes : List ℕ) → misfit_in layout k bytes ≡ none
    → {h : List ℕ} → h ≡ places (drop (length bytes - length bytes % 4) bytes)
    → ◌≡◌ {A = Loader}
    (record { announced = announced; layout = layout; taken = 4 * k + length bytes; held = h; held_count = length bytes % 4; kept = None })
    (state_after announced layout k bytes)
unfolding holding
state-cut announced layout k bytes e p =
    let h = p ∙ ap places (sym (part-drop bytes)) in
    let n = sym (length_part bytes) in
    (λ i. record { announced = announced; layout = layout; taken = 4 * k + length bytes; held = h i; held_count = n i; kept = None })
    ∙ sym (state-holding announced layout k bytes e)
