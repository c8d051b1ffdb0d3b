-- The number of words from a node by those from the nodes that it leads to.
use Rattle.std.specs.Prelude.{◌≡◌, true, false, ◌≢◌, eqb, length}
use Rattle.std.proofs.Common.{arith, eq-eqb, ne_eqb}
use Prim.Native.Nat.{ℕ, suc, ◌+◌, ◌<◌, min}
use Rattle.std.proofs.lemmas.Bool.{eqb-false}
use Rattle.laws.specs.Cases.{split}
use Rattle.base.specs.Numbers.{flag}
use Rattle.node.specs.Nodes.{BitLayout, arc, accepts, is_end}
use Rattle.graph.specs.Runs.{Graph, node}
use Rattle.graph.specs.Loops.{Step, by-arc, by-run}

module _ (y : BitLayout) where
  -- the words of a node that go on by its arc, and by its run, counted by `from`
  unfoldable pub by_arc : (ℕ → ℕ) → ℕ → ℕ
  by_arc from v = elim (eqb (arc y v) 0) [ true ↦ 0 | false ↦ from (arc y v) ]

  unfoldable pub by_run : (ℕ → ℕ) → ℕ → ℕ → ℕ
  by_run from v p = elim (is_end y v) [ true ↦ 0 | false ↦ from (suc p) ]

  -- the sum that gives p its count
  abbrev pub sum_at : Graph → (ℕ → ℕ) → ℕ → ℕ
  sum_at g from p = flag (accepts y (node g p)) + by_arc from (node g p) + by_run from (node g p) p

  module _ (from : ℕ → ℕ) (v : ℕ) where
    pub arc-words-none : arc y v ≡ 0 → by_arc from v ≡ 0
    unfolding by_arc
    arc-words-none z = rw (eq-eqb _ _ z, by_arc)

    pub arc-words : arc y v ≢ 0 → by_arc from v ≡ from (arc y v)
    unfolding by_arc
    arc-words n = rw (ne_eqb _ _ n, by_arc)

    pub run-words-none : is_end y v ≡ true → (p : ℕ) → by_run from v p ≡ 0
    unfolding by_run
    run-words-none e p = rw (e, by_run)

    pub run-words : is_end y v ≡ false → (p : ℕ) → by_run from v p ≡ from (suc p)
    unfolding by_run
    run-words e p = rw (e, by_run)

  -- a sum of capped counts, capped
  module _ (limit : ℕ) (g : Graph) (from held : ℕ → ℕ) (p : ℕ) (h : p < length g)
      (capped : (q : ℕ) → Step y g p q → held q ≡ min (from q) limit) where
    arc-capped : by_arc held (node g p) ≡ min (by_arc from (node g p)) limit
    unfolding by_arc
    arc-capped =
        split (eqb (arc y (node g p)) 0)
        (λ z. rw (z, by_arc) (omega arith))
        (λ z. rw (z, by_arc) (capped _ (by-arc h (eqb-false _ _ z))))

    run-capped : by_run held (node g p) p ≡ min (by_run from (node g p) p) limit
    unfolding by_run
    run-capped =
        split (is_end y (node g p))
        (λ e. rw (e, by_run) (omega arith))
        (λ e. rw (e, by_run) (capped _ (by-run h e)))

    pub sum-capped : min (sum_at g held p) limit ≡ min (sum_at g from p) limit
    sum-capped = let a = arc-capped in let r = run-capped in omega arith
