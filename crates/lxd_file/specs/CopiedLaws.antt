-- Runs that are copied to other places, node by node with the tiles renamed and the arcs led to the new places, spell the renamed
-- words, in the same order. The copies' tiles may stand for something else, as which they are read.
use Rattle.std.specs.Prelude.{◌≡◌, true, ◌≢◌, eqb, drop}
use Rattle.std.proofs.Math.Path.{refl, sym, ap, ap₂}
use Rattle.std.proofs.Common.{◌∙◌, true≢false, eqb-true, eq-eqb, ne_eqb}
use mathlib.Core.List.{List, [], ◌∷◌, ◌++◌, map, map-append, Memᴰ}
use Prim.Native.Nat.{ℕ, zero, suc}
use Rattle.std.proofs.lemmas.Bool.{eqb-false}
use Rattle.laws.specs.Cases.{split}
use Rattle.laws.specs.Lists.{join_all}
use Rattle.laws.specs.Members.{join_in}
use Rattle.node.specs.Nodes.{BitLayout, tile, arc, accepts, is_end}
use Rattle.graph.specs.RunLaws.{run-last, run-next, first_in_run}
use Rattle.graph.specs.Runs.{Graph, run, last_ends}
use Rattle.graph.specs.Words.{Word, in_order, spelled, words_within}

-- renaming goes under a tile
map-under : {A : Type 0} (label : ℕ → A) (t : ℕ) (ws : List Word) → map (label t ∷◌) (map (map label) ws) ≡ map (map label) (map (t ∷◌) ws)
map-under label t [] = refl
map-under label t (w ∷ ws) = ap ((label t ∷ map label w) ∷◌) (map-under label t ws)

-- ---- the words of a list of nodes, each copied by h
in_order-copied : {B : Type 0} (h : ℕ → ℕ) (read rename : Word → B) (to from : ℕ → List Word) (l : List ℕ)
    → ((v : ℕ) → Memᴰ v l → map read (to (h v)) ≡ map rename (from v)) → map read (in_order to (map h l)) ≡ map rename (in_order from l)
unfolding in_order
in_order-copied h read rename to from [] e = refl
in_order-copied h read rename to from (v ∷ l) e =
    map-append read (to (h v)) (in_order to (map h l))
    ∙ ap₂ ◌++◌ (e v (Memᴰ.head refl)) (in_order-copied h read rename to from l (λ w m. e w (Memᴰ.tail m)))
    ∙ sym (map-append rename (from v) (in_order from l))

module _ (y z : BitLayout) where
  -- ---- a run copied, whatever follows it
  pub run-copied : (h : ℕ → ℕ) (l rest : Graph) → last_ends y l ≡ true → ((v : ℕ) → Memᴰ v (run y l) → is_end z (h v) ≡ is_end y v)
      → run z (map h (run y l) ++ rest) ≡ map h (run y l)
  unfolding last_ends
  run-copied h [] rest e same = absurd (true≢false (sym e))
  run-copied h (v ∷ []) rest e same = rw (run-last y v [] e) (run-last z (h v) rest (same v (first_in_run y v []) ∙ e))
  run-copied h (v ∷ w ∷ l) rest e same =
      let here = same v (first_in_run y v (w ∷ l)) in
      split (is_end y v)
      (λ t. rw (run-last y v (w ∷ l) t) (run-last z (h v) rest (here ∙ t)))
      (λ t. let r = run-next y v (w ∷ l) t in
      rw r (run-next z (h v) (map h (run y (w ∷ l)) ++ rest) (here ∙ t)
      ∙ ap (h v ∷◌) (run-copied h (w ∷ l) rest e (λ u m. same u (rw r (Memᴰ.tail m))))))

  -- ---- the words spelled at a node copied
  spelled-copied : {A : Type 0} (read label : ℕ → A) (to from : ℕ → List Word) (v v' : ℕ) → read (tile z v') ≡ label (tile y v)
      → accepts z v' ≡ accepts y v → eqb (arc z v') 0 ≡ eqb (arc y v) 0
      → (arc y v ≢ 0 → map (map read) (to (arc z v')) ≡ map (map label) (from (arc y v)))
      → map (map read) (spelled z to v') ≡ map (map label) (spelled y from v)
  unfolding spelled
  spelled-copied read label to from v v' t a n f =
      let under : arc y v ≢ 0 → map (map read) (map (tile z v' ∷◌) (to (arc z v'))) ≡ map (map label) (map (tile y v ∷◌) (from (arc y v))) =
      λ i. sym (map-under read (tile z v') (to (arc z v'))) ∙ ap₂ (λ x ws. map (x ∷◌) ws) t (f i) ∙ map-under label (tile y v) (from (arc y v)) in
      split (accepts y v)
      (λ x. split (eqb (arc y v) 0)
      (λ i. rw (x, i, spelled) (rw (a ∙ x, n ∙ i, spelled, t)))
      (λ i. rw (x, i, spelled) (rw (a ∙ x, n ∙ i, spelled, t) (ap ((label (tile y v) ∷ []) ∷◌) (under (eqb-false (arc y v) 0 i))))))
      (λ x. split (eqb (arc y v) 0)
      (λ i. rw (x, i, spelled) (rw (a ∙ x, n ∙ i, spelled)))
      (λ i. rw (x, i, spelled) (rw (a ∙ x, n ∙ i, spelled) (under (eqb-false (arc y v) 0 i)))))

  -- the nodes of the runs from ps
  abbrev pub nodes_from : Graph → List ℕ → List ℕ
  nodes_from g ps = join_all (map (λ p. run y (drop p g)) ps)

  -- the runs from ps of g stand in file at their places, each node v as h v, whose tile is read as v's label
  pub record Copied {A : Type 0} (g file : Graph) (ps : List ℕ) (place h : ℕ → ℕ) (read label : ℕ → A) : Type 0 where
    pub runs : (p : ℕ) → Memᴰ p ps → run z (drop (place p) file) ≡ map h (run y (drop p g))
    pub tiles : (v : ℕ) → Memᴰ v (nodes_from g ps) → read (tile z (h v)) ≡ label (tile y v)
    pub flags : (v : ℕ) → Memᴰ v (nodes_from g ps) → accepts z (h v) ≡ accepts y v
    pub no-arc : (v : ℕ) → Memᴰ v (nodes_from g ps) → arc y v ≡ 0 → arc z (h v) ≡ 0
    pub arcs : (v : ℕ) → Memᴰ v (nodes_from g ps) → arc y v ≢ 0
        → Memᴰ (arc y v) ps × (arc z (h v) ≡ place (arc y v)) × (place (arc y v) ≢ 0)

  module _ {A : Type 0} (g file : Graph) (ps : List ℕ) (place h : ℕ → ℕ) (read label : ℕ → A) (c : Copied g file ps place h read label) where
    same-arc : (v : ℕ) → Memᴰ v (nodes_from g ps) → eqb (arc z (h v)) 0 ≡ eqb (arc y v) 0
    same-arc v m =
        split (eqb (arc y v) 0)
        (λ t. eq-eqb (arc z (h v)) 0 (c.no-arc v m (eqb-true (arc y v) 0 t)) ∙ sym t)
        (λ t. let a = c.arcs v m (eqb-false (arc y v) 0 t) in ne_eqb (arc z (h v)) 0 (λ i. a.2 (sym a.1 ∙ i)) ∙ sym t)

    pub words_copied : (k p : ℕ) → Memᴰ p ps → map (map read) (words_within z k file (place p)) ≡ map (map label) (words_within y k g p)
    unfolding words_within
    words_copied zero p m = refl
    words_copied (suc k) p m =
        ap (λ l. map (map read) (in_order (spelled z (words_within z k file)) l)) (c.runs p m)
        ∙ in_order-copied h (map read) (map label) (spelled z (words_within z k file)) (spelled y (words_within y k g)) (run y (drop p g))
        (λ v n. let r = join_in (λ q. run y (drop q g)) ps p v m n in
        spelled-copied read label (words_within z k file) (words_within y k g) v (h v) (c.tiles v r) (c.flags v r) (same-arc v r)
        (λ i. let a = c.arcs v r i in ap (λ q. map (map read) (words_within z k file q)) a.1 ∙ words_copied k (arc y v) a.0))
