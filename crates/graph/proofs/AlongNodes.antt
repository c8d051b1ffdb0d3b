-- The largest arc and the last end along a list of nodes.
use mathlib.Core.Path.{◌≡◌, refl}
use mathlib.Core.Bool.{false}
use mathlib.Core.List.{[], ◌∷◌}
use Prim.Native.Nat.{ℕ, ◌+◌, ◌<◌, max}
use native.Mathlib.Omega.{arith}
use native.Mathlib.Nat.{max-zero}
use native.Mathlib.Numerals.{add-one}
use lib.ListN.{length, drop}
use lib.Seq.{drop-cons, drop-length}
use Rattle.node.specs.Nodes.{BitLayout, arc}
use Rattle.graph.specs.Runs.{Graph, node, largest_arc, last_ends}

module _ (y : BitLayout) where
  -- the largest of m and the arcs from node i on
  abbrev pub largest_from : ℕ → ℕ → Graph → ℕ
  largest_from m i g = max m (largest_arc y (drop i g))

  pub largest-next : (m i : ℕ) (g : Graph) → i < length g → largest_from (max m (arc y (node g i))) (i + 1) g ≡ largest_from m i g
  unfolding largest_arc
  largest-next m i g h = rw (add-one, drop-cons g i 0 h) (omega arith)

  pub largest-done : (m : ℕ) (g : Graph) → largest_from m (length g) g ≡ m
  unfolding largest_arc
  largest-done m g = rw (drop-length g) (max-zero m)

  pub last_none : (g : Graph) → length g ≡ 0 → false ≡ last_ends y g
  unfolding last_ends
  last_none [] h = refl
  last_none (v ∷ g) h = absurd (omega arith)
