-- Chains of runs that end: what follows from the test of document 01's refusal 22. The idea: where no chain from a node has over k runs, no
-- chain has more runs than there are nodes to go to, because a run whose chains are shorter cannot lead to it.
use Rattle.std.specs.Prelude.{◌≡◌, Bool, true, false, ◌&&◌, not, ◌≢◌}
use Rattle.std.proofs.Math.Path.{sym, ap}
use Rattle.std.proofs.Common.{◌∙◌, subst, ⊎_elim, zero-add, suc-add, arith, ne_eqb}
use Rattle.std.proofs.Math.Bool.{true≢false}
use mathlib.Core.List.Memᴰ
use mathlib.Core.List.{List, [], ◌∷◌, Memᴰ}
use Prim.Native.Nat.{ℕ, zero, suc, ◌+◌, ◌-◌, ◌≤◌, ◌<◌}
use Rattle.std.proofs.lemmas.Bool.{not-true}
use Rattle.std.proofs.Math.ListN.{length}
use Rattle.laws.specs.Cases.{split, and_left, and_right}
use Rattle.laws.specs.Lists.{filtered}
use Rattle.laws.specs.Members.{in_map, map_in, in_filtered, filtered_in, some_of_lem, none_of, filtered-length, filtered_le, filtered-less}
use Rattle.laws.specs.Without.{below, length-below, in_below}
use Rattle.node.specs.Nodes.{kbwg, arc}
use Rattle.graph.specs.Runs.{Graph, node}
use Rattle.graph.specs.Words.{in_order, spelled, words_within, words}
use Rattle.graph.specs.ChecksLaws.{Closed}
use Rattle.graph.specs.RunLaws.{in_graph}
use Rattle.graph.specs.WordsEquation.{in_order_ext, Short}
use Rattle.graph.proofs.WordsEquationLaws.{spelled_ext, words-within_stable}
use Rattle.export.specs.Starts.{run_of, has_arc, arcs_from, deeper}
use Rattle.export.specs.BlocksLaws.{Low}

-- with no run left every chain has too many
pub deep-at-once : (g : Graph) (p left : ℕ) → left ≡ 0 → deeper g left p ≡ true
unfolding deeper
deep-at-once g p left z = rw z

node_of : (g : Graph) (v : ℕ) → Memᴰ v g → (i : ℕ) × (i < length g) × (node g i ≡ v)
node_of [] v m = absurd (Memᴰ.not-nil m)
node_of (x ∷ g) v m =
    ⊎_elim
    (λ i. (0, omega arith, sym i))
    (λ k. let r = node_of g v k in let h = r.1 in (suc r.0, omega arith, r.2))
    (Memᴰ.cases_cons m)

module _ (g : Graph) where
  pub arc-from : (p v : ℕ) → Memᴰ v (run_of g p) → has_arc v ≡ true → Memᴰ (arc kbwg v) (arcs_from g p)
  arc-from p v m h = map_in (arc kbwg) (filtered has_arc (run_of g p)) v (filtered_in has_arc (run_of g p) v m h)

  pub from-arc : (p q : ℕ) → Memᴰ q (arcs_from g p) → (v : ℕ) × Memᴰ v (run_of g p) × (has_arc v ≡ true) × (q ≡ arc kbwg v)
  from-arc p q m =
      let r = in_map (arc kbwg) (filtered has_arc (run_of g p)) q m in
      let k = in_filtered has_arc (run_of g p) r.0 r.1 in
      (r.0, k.0, k.1, r.2)

  pub arcs-inside : Closed g → (p q : ℕ) → Memᴰ q (arcs_from g p) → q < length g
  arcs-inside c p q m =
      let r = from-arc p q m in
      let n = node_of g r.0 (in_graph kbwg g p r.0 r.1) in
      let h = c.arcs n.0 n.1 in
      subst (λ k. k < length g) (ap (arc kbwg) n.2 ∙ sym r.3) h

  -- ---- one run down, and one up
  pub shallow-arc : (k p q : ℕ) → deeper g (suc k) p ≡ false → Memᴰ q (arcs_from g p) → deeper g k q ≡ false
  unfolding deeper
  shallow-arc k p q e m =
      let r = from-arc p q m in
      let a = none_of (λ v. has_arc v && deeper g k (arc kbwg v)) (run_of g p) e r.0 r.1 in
      let has = r.2 in
      ap (deeper g k) r.3 ∙ (rw has at a)

  pub shallow_over : (k p : ℕ) → ((q : ℕ) → Memᴰ q (arcs_from g p) → deeper g k q ≡ false) → deeper g (suc k) p ≡ false
  unfolding deeper
  shallow_over k p h =
      split (deeper g (suc k) p)
      (λ t.
      let r = some_of_lem (λ v. has_arc v && deeper g k (arc kbwg v)) (run_of g p) t in
      let v = r.0 in
      let a = and_left (has_arc v) (deeper g k (arc kbwg v)) r.2 in
      let b = and_right (has_arc v) (deeper g k (arc kbwg v)) r.2 in
      absurd (true≢false (sym b ∙ h (arc kbwg v) (arc-from p v r.1 a))))
      (λ t. t)

  none-deeper : (p : ℕ) → deeper g 0 p ≡ false → ⊥
  unfolding deeper
  none-deeper p e = true≢false e

  pub shallow-more : (k p : ℕ) → deeper g k p ≡ false → deeper g (suc k) p ≡ false
  shallow-more zero p e = absurd (none-deeper p e)
  shallow-more (suc k) p e = shallow_over (suc k) p (λ q m. shallow-more k q (shallow-arc k p q e m))

  shallow-by : (d k p : ℕ) → deeper g k p ≡ false → deeper g (d + k) p ≡ false
  shallow-by zero k p e = rw zero-add e
  shallow-by (suc d) k p e = rw suc-add (shallow-more (d + k) p (shallow-by d k p e))

  pub shallow-within : (k j p : ℕ) → k ≤ j → deeper g k p ≡ false → deeper g j p ≡ false
  shallow-within k j p h e = let i : j ≡ (j - k) + k = omega arith in rw i (shallow-by (j - k) k p e)

  -- so a writer's walk, which has a turn for each run of a chain, ends by itself
  pub shallow-low : (children : ℕ → List ℕ) → ((p q : ℕ) → Memᴰ q (children p) → Memᴰ q (arcs_from g p))
      → (k p : ℕ) → deeper g k p ≡ false → Low children k p
  shallow-low children c zero p e = none-deeper p e
  shallow-low children c (suc k) p e = λ q m. shallow-low children c k q (shallow-arc k p q e (c p q m))

  -- ---- over nodes that the arcs do not leave: no chain has more runs than there are such nodes
  module _ (xs : List ℕ) (closed : (p q : ℕ) → Memᴰ p xs → Memᴰ q (arcs_from g p) → Memᴰ q xs) where
    -- those from which no chain has over k runs
    abbrev shallow : ℕ → List ℕ
    shallow k = filtered (λ x. not (deeper g k x)) xs

    still-shallow : (k x : ℕ) → not (deeper g k x) ≡ true → not (deeper g (suc k) x) ≡ true
    still-shallow k x e = ap not (shallow-more k x (not-true (deeper g k x) e))

    shallow-count : (k p : ℕ) → Memᴰ p xs → deeper g k p ≡ false → deeper g (length (shallow k)) p ≡ false
    shallow-count zero p m e = absurd (none-deeper p e)
    shallow-count (suc k) p m e =
        let f : ℕ → Bool = λ x. not (deeper g k x) in
        let h : ℕ → Bool = λ x. not (deeper g (suc k) x) in
        split (deeper g k p)
        (λ t. shallow-within (suc (length (shallow k))) (length (shallow (suc k))) p
        (filtered-less f h (still-shallow k) xs p m (ap not t) (ap not e))
        (shallow_over (length (shallow k)) p (λ q n. shallow-count k q (closed p q m n) (shallow-arc k p q e n))))
        (λ t. shallow-within (length (shallow k)) (length (shallow (suc k))) p (filtered_le f h (still-shallow k) xs) (shallow-count k p m t))

    pub shallow-closed : (k p : ℕ) → Memᴰ p xs → deeper g k p ≡ false → deeper g (length xs) p ≡ false
    shallow-closed k p m e =
        shallow-within (length (shallow k)) (length xs) p (filtered-length (λ x. not (deeper g k x)) xs) (shallow-count k p m e)

  shallow-graph : Closed g → (k p : ℕ) → p < length g → deeper g k p ≡ false → deeper g (length g) p ≡ false
  shallow-graph c k p h e =
      let b = shallow-closed (below (length g)) (λ x q m n. in_below (length g) q (arcs-inside c x q n)) k p (in_below (length g) p h) e in
      rw (length-below (length g)) at b

-- ---- then more turns give no more words
module _ (g : Graph) where
  has-arc : (v : ℕ) → arc kbwg v ≢ 0 → has_arc v ≡ true
  has-arc v n = ap not (ne_eqb (arc kbwg v) 0 n)

  shallow-short : (k p : ℕ) → deeper g k p ≡ false → Short kbwg g k p
  shallow-short zero p e = absurd (none-deeper g p e)
  shallow-short (suc k) p e = λ v m n. shallow-short k (arc kbwg v) (shallow-arc g k p (arc kbwg v) e (arc-from g p v m (has-arc v n)))

  words-by : (d k p : ℕ) → deeper g k p ≡ false → words_within kbwg (d + k) g p ≡ words_within kbwg k g p
  words-by zero k p e = rw zero-add
  words-by (suc d) k p e = rw suc-add (words-within_stable kbwg g (d + k) p (shallow-short (d + k) p (shallow-by g d k p e)) ∙ words-by d k p e)

  words-from : (k j p : ℕ) → k ≤ j → deeper g k p ≡ false → words_within kbwg j g p ≡ words_within kbwg k g p
  words-from k j p h e = let i : j ≡ (j - k) + k = omega arith in ap (λ n. words_within kbwg n g p) i ∙ words-by (j - k) k p e

  -- as many turns as the longest chain has runs give all words
  pub words-within : Closed g → (k p : ℕ) → p < length g → deeper g k p ≡ false → words_within kbwg k g p ≡ words kbwg g p
  unfolding words
  words-within c k p h e =
      sym (words-from k (k + length g) p (omega arith) e)
      ∙ words-from (length g) (k + length g) p (omega arith) (shallow-graph g c k p h e)

  -- and the words satisfy the equation of document 01
  pub shallow-equation : Closed g → (k p : ℕ) → p < length g → deeper g k p ≡ false
      → words kbwg g p ≡ in_order (spelled kbwg (words kbwg g)) (run_of g p)
  unfolding words_within
  shallow-equation c zero p h e = absurd (none-deeper g p e)
  shallow-equation c (suc k) p h e =
      sym (words-within c (suc k) p h e)
      ∙ in_order_ext (spelled kbwg (λ q. words_within kbwg k g q)) (spelled kbwg (words kbwg g)) (run_of g p)
      (λ v m. spelled_ext kbwg (λ q. words_within kbwg k g q) (words kbwg g) v
      (λ n. let i = arc-from g p v m (has-arc v n) in words-within c k (arc kbwg v) (arcs-inside g c p (arc kbwg v) i) (shallow-arc g k p (arc kbwg v) e i)))
