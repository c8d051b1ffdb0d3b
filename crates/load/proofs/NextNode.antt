-- The next node of some bytes: it fits, or it stops the repacking, or there is none.
use mathlib.Core.Path.{◌≡◌, refl}
use mathlib.Core.List.{List, [], ◌∷◌}
use mathlib.Core.Option.{none, some}
use Prim.Native.Nat.{ℕ, suc, ◌+◌, ◌<◌, ◌≤◌}
use native.Mathlib.Omega.{arith}
use lib.ListN.{length, drop, length-drop}
use Rattle.std.specs.Prelude.{Ok, Err}
use Rattle.node.specs.Nodes.{BitLayout}
use Rattle.endian.specs.Bytes.{node_at, whole_nodes}
use Rattle.endian.proofs.BytesLaws.{whole-next, whole-none}
use Rattle.load.specs.Repacking.{NodeRepacked, first_misfit, fitting}
use Rattle.load.specs.declared.repack.Misfit.{Misfit}
use Rattle.load.specs.RepackingLaws.{fitting-next, fitting-stops, misfit-later, misfit-here}

-- the bytes s from place i on, whose first begins node k
module _ (old new : BitLayout) (s : List ℕ) (i k : ℕ) where
  pub next_fits : {v : ℕ} → i + 4 ≤ length s → NodeRepacked old new k (node_at s i) (Ok v)
      → (first_misfit old new k (whole_nodes (drop i s)) ≡ first_misfit old new (suc k) (whole_nodes (drop (i + 4) s)))
      × (fitting old new (whole_nodes (drop i s)) ≡ v ∷ fitting old new (whole_nodes (drop (i + 4) s)))
  next_fits h e =
      let vs = whole_nodes (drop (i + 4) s) in
      rw (whole-next s i h) (misfit-later old new (node_at s i) vs k e.0, rw (e.1, fitting-next old new (node_at s i) vs e.0))

  pub next-stops : {m : Misfit} → i + 4 ≤ length s → NodeRepacked old new k (node_at s i) (Err m)
      → (first_misfit old new k (whole_nodes (drop i s)) ≡ some m)
      × (fitting old new (whole_nodes (drop i s)) ≡ [])
  next-stops h e =
      let vs = whole_nodes (drop (i + 4) s) in
      rw (whole-next s i h) (rw e.1 (misfit-here old new (node_at s i) vs k e.0), fitting-stops old new (node_at s i) vs e.0)

  pub no-next-node : length s < i + 4
      → (first_misfit old new k (whole_nodes (drop i s)) ≡ none) × (fitting old new (whole_nodes (drop i s)) ≡ [])
  unfolding first_misfit fitting
  no-next-node h = rw (whole-none (drop i s) (simp length-drop (omega arith))) (refl, refl)
