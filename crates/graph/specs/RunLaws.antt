-- The run at the head of a list by its first node, in any layout, what its nodes give in order, and that they are nodes of the graph.
use Rattle.std.specs.Prelude.{◌≡◌, true, false, ℕ, suc, ◌<◌, length, drop}
use Rattle.std.proofs.Math.Path.{refl}
use Rattle.std.proofs.Math.Logic.{⊎_elim}
use mathlib.Core.List.{List, [], ◌∷◌, ◌++◌, append-nil}
use mathlib.Core.List.Memᴰ
use mathlib.Core.List.{Memᴰ}
use Rattle.std.proofs.Common.{drop-cons}
use Rattle.laws.specs.Cases.{split}
use Rattle.laws.specs.Members.{in_drop}
use Rattle.node.specs.Nodes.{BitLayout, is_end}
use Rattle.graph.specs.Runs.{Graph, node, run}
use Rattle.graph.specs.Words.{Word, in_order}

module _ (y : BitLayout) where
  pub run-last : (v : ℕ) (l : Graph) → is_end y v ≡ true → run y (v ∷ l) ≡ v ∷ []
  unfolding run
  run-last v l e = rw (e, run)

  pub run-next : (v : ℕ) (l : Graph) → is_end y v ≡ false → run y (v ∷ l) ≡ v ∷ run y l
  unfolding run
  run-next v l e = rw (e, run)

  -- what the nodes of a run give, one after the other
  module _ (f : ℕ → List Word) (g : Graph) (p : ℕ) (h : p < length g) where
    pub in_order-last : is_end y (node g p) ≡ true → in_order f (run y (drop p g)) ≡ f (node g p)
    unfolding in_order
    in_order-last e = rw (drop-cons g p 0 h) (rw (run-last (node g p) (drop (suc p) g) e) (append-nil (f (node g p))))

    pub in_order-next : is_end y (node g p) ≡ false → in_order f (run y (drop p g)) ≡ f (node g p) ++ in_order f (run y (drop (suc p) g))
    unfolding in_order
    in_order-next e = rw (drop-cons g p 0 h) (rw (run-next (node g p) (drop (suc p) g) e))

  pub first_in_run : (v : ℕ) (l : Graph) → Memᴰ v (run y (v ∷ l))
  unfolding run
  first_in_run v l = Memᴰ.head refl

  in_run : (l : Graph) (v : ℕ) → Memᴰ v (run y l) → Memᴰ v l
  unfolding run
  in_run [] v m = m
  in_run (x ∷ l) v m =
      split (is_end y x)
      (λ e. Memᴰ.head (Memᴰ.eq_of_singleton (rw (run-last x l e) at m)))
      (λ e. ⊎_elim (λ i. Memᴰ.head i) (λ k. Memᴰ.tail (in_run l v k)) (Memᴰ.cases_cons (rw (run-next x l e) at m)))

  pub in_graph : (g : Graph) (p v : ℕ) → Memᴰ v (run y (drop p g)) → Memᴰ v g
  in_graph g p v m = in_drop v p g (in_run (drop p g) v m)
