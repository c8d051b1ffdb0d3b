-- The words that begin with a tile: those of the node that is found for it.
use Rattle.std.specs.Prelude.{◌≡◌, true, false, ◌≢◌, ℕ, suc, ◌<◌, eqb, length}
use Rattle.std.proofs.Common.{sym, subst, ⊎_elim, arith}
use mathlib.Core.List.{List, [], ◌∷◌, ◌++◌, map, tail-eq_of_cons-eq, cons≢nil}
use mathlib.Core.List.Memᴰ
use mathlib.Core.List.{Memᴰ}
use Rattle.std.proofs.lemmas.Bool.{eqb-false}
use Rattle.laws.specs.Cases.{split}
use Rattle.laws.specs.Members.{in_map}
use Rattle.node.specs.Nodes.{tile, arc, accepts, kbwg, is_end}
use Rattle.graph.specs.Runs.{Graph, node, ascends}
use Rattle.graph.specs.Words.{Word, spelled, words}
use Rattle.laws.specs.Lists.{all_mem}
use Rattle.graph.proofs.WordsAscend.{words-nonempty, From, ascends-next, words-from-tile}
use Rattle.graph.proofs.CountEquationLaws.{words-end, words-on}
use Rattle.lookup.proofs.FoundLaws.{AllBelow, below-not_in}
use Rattle.numbers.specs.RunWords.{spelled-alone, spelled_both, spelled_none, spelled-arc}
use Rattle.numbers.specs.Walkable.{Walkable}

module _ (g : Graph) where
  abbrev W : ℕ → List Word
  W q = words kbwg g q

  -- "its tile alone" is spelled only by a node that accepts
  pub alone : (v : ℕ) → accepts kbwg v ≡ false → Memᴰ (tile kbwg v ∷ []) (spelled kbwg W v) → ⊥
  alone v a m =
      split (eqb (arc kbwg v) 0)
      (λ z. Memᴰ.not-nil (rw (spelled_none g v a z) at m))
      (λ z.
      let r = in_map (tile kbwg v ∷◌) (W (arc kbwg v)) (tile kbwg v ∷ []) (rw (spelled-arc g v a z) at m) in
      let e = all_mem (From 0) (W (arc kbwg v)) r.0 (words-nonempty kbwg g (arc kbwg v)) r.1 in
      subst (From 0) (sym (tail-eq_of_cons-eq r.2)) e)

  under : (v : ℕ) (w : Word) → Memᴰ (tile kbwg v ∷ w) (map (tile kbwg v ∷◌) (W (arc kbwg v))) → Memᴰ w (W (arc kbwg v))
  under v w m = let r = in_map (tile kbwg v ∷◌) (W (arc kbwg v)) (tile kbwg v ∷ w) m in Memᴰ.cast (tail-eq_of_cons-eq r.2) r.1

  -- a longer word is spelled by the arc
  pub longer : (v : ℕ) (u : ℕ) (us : Word) → Memᴰ (tile kbwg v ∷ u ∷ us) (spelled kbwg W v) → (arc kbwg v ≢ 0) × Memᴰ (u ∷ us) (W (arc kbwg v))
  longer v u us m =
      split (accepts kbwg v)
      (λ a. split (eqb (arc kbwg v) 0)
      (λ z. absurd (cons≢nil (tail-eq_of_cons-eq (Memᴰ.eq_of_singleton (rw (spelled-alone g v a z) at m)))))
      (λ z. (
        eqb-false (arc kbwg v) 0 z,
        ⊎_elim
            (λ i. absurd (cons≢nil (tail-eq_of_cons-eq i)))
            (λ k. under v (u ∷ us) k)
            (Memᴰ.cases_cons (rw (spelled_both g v a z) at m)),
      )))
      (λ a. split (eqb (arc kbwg v) 0)
      (λ z. absurd (Memᴰ.not-nil (rw (spelled_none g v a z) at m)))
      (λ z. (eqb-false (arc kbwg v) 0 z, under v (u ∷ us) (rw (spelled-arc g v a z) at m))))

  module _ (nodes counted : List ℕ) (walk : Walkable g nodes counted) (up : ascends kbwg g ≡ true) where
    -- no later word of the run begins with the tile
    pub only_here : (q : ℕ) → q < length g → (u : Word) → Memᴰ (tile kbwg (node g q) ∷ u) (W q)
        → Memᴰ (tile kbwg (node g q) ∷ u) (spelled kbwg W (node g q))
    only_here q h u m =
        split (is_end kbwg (node g q))
        (λ e. rw (words-end kbwg g q h (walk.clear q) e) at m)
        (λ e. ⊎_elim (λ i. i)
        (λ i.
        let k = walk.steps.runs q h e in
        let lt = ascends-next kbwg g up q k e in
        let b = all_mem (From (tile kbwg (node g (suc q)))) (W (suc q)) _ (words-from-tile kbwg g up (suc q) k) i in
        absurd (omega arith))
        (Memᴰ.append_cases (spelled kbwg W (node g q)) (rw (words-on kbwg g q h (walk.clear q) e) at m)))

    -- the words from p that begin with the tile are those of the node found
    pub in_found : (p q : ℕ) (front : List Word) (u : Word) → q < length g → W p ≡ front ++ W q → AllBelow (tile kbwg (node g q)) front
        → Memᴰ (tile kbwg (node g q) ∷ u) (W p) → Memᴰ (tile kbwg (node g q) ∷ u) (spelled kbwg W (node g q))
    in_found p q front u l f a m =
        ⊎_elim (λ i. absurd (below-not_in (tile kbwg (node g q)) front a u i)) (λ i. only_here q l u i) (Memᴰ.append_cases front (rw f at m))
