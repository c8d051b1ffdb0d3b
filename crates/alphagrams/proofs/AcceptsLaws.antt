-- The walk of `completes_alpha_cross_set` says whether a word is read below a node.
use Rattle.std.specs.Prelude.{◌≡◌, Bool, true, false, ◌≢◌, eqb, length, replicate}
use Rattle.std.proofs.Math.Path.{refl, sym, subst}
use Rattle.std.proofs.Common.{◌∙◌, eqb-true, ne_eqb}
use Rattle.std.proofs.Math.Bool.{true≢false}
use mathlib.Core.List.Memᴰ
use mathlib.Core.List.{List, [], ◌∷◌, ◌++◌, Memᴰ}
use Prim.Native.Nat.{ℕ, zero, suc, ◌<◌}
use Rattle.std.proofs.lemmas.Bool.{eqb-false}
use Rattle.laws.specs.Cases.{split}
use Rattle.laws.specs.Members.{map_in}
use Rattle.node.specs.Nodes.{kbwg, tile, arc, accepts, is_end}
use Rattle.graph.specs.Runs.{Graph, node, ascends}
use Rattle.graph.specs.Words.{Word, words, spelled}
use Rattle.graph.proofs.CountEquationLaws.{words-end, words-on}
use Rattle.lookup.specs.Steps.{Try, on, stop, ◌>>=◌}
use Rattle.lookup.specs.Walks.{arc_of, step_to}
use Rattle.lookup.specs.StepsLaws.{lent-on}
use Rattle.lookup.proofs.FoundLaws.{FoundIs, found_at, found_none, find}
use Rattle.numbers.specs.Walkable.{Walkable}
use Rattle.numbers.specs.RunWords.{spelled-alone, spelled_both, spelled-arc}
use Rattle.numbers.specs.TileSearch.{in_found, alone, longer}
use Rattle.letters.specs.AlphaSets.{copies, spent, accepts_at}
use Rattle.alphagrams.specs.Alphagrams.{alphagram_from, ReadBelow}

-- ---- the walk along a word, by seek
unfoldable pub walk_to : Graph → ℕ → Word → Try ℕ
walk_to g p [] = on p
walk_to g p (t ∷ w) = step_to g p t >>= λ q. walk_to g q w

module _ (g : Graph) where
  through : (r : Try ℕ) (f h : ℕ → Try ℕ) → ((q : ℕ) → f q ≡ h q) → (r >>= f) ≡ (r >>= h)
  through (on q) f h e = e q
  through (stop a) f h e = refl

  assoc : (r : Try ℕ) (f h : ℕ → Try ℕ) → ((r >>= f) >>= h) ≡ (r >>= λ q. f q >>= h)
  assoc (on q) f h = refl
  assoc (stop a) f h = refl

  walk_append : (p : ℕ) (u w : Word) → walk_to g p (u ++ w) ≡ (walk_to g p u >>= λ q. walk_to g q w)
  unfolding walk_to
  walk_append p [] w = refl
  walk_append p (t ∷ u) w =
      through (step_to g p t) (λ q. walk_to g q (u ++ w)) (λ q. walk_to g q u >>= λ s. walk_to g s w) (λ q. walk_append q u w)
      ∙ sym (assoc (step_to g p t) (λ q. walk_to g q u) (λ s. walk_to g s w))

  copies-walk : (n t p : ℕ) → copies g n t p ≡ walk_to g p (replicate n t)
  unfolding copies walk_to
  copies-walk zero t p = refl
  copies-walk (suc n) t p = through (step_to g p t) (λ q. copies g n t q) (λ q. walk_to g q (replicate n t)) (λ q. copies-walk n t q)

  pub spent-walk : (t : ℕ) (ns : List ℕ) (p : ℕ) → spent g t ns p ≡ walk_to g p (alphagram_from t ns)
  unfolding spent alphagram_from walk_to
  spent-walk t [] p = refl
  spent-walk t (n ∷ ns) p =
      rw (copies-walk n t p)
      (through (walk_to g p (replicate n t)) (λ q. spent g (suc t) ns q) (λ q. walk_to g q (alphagram_from (suc t) ns)) (λ q. spent-walk (suc t) ns q)
      ∙ sym (walk_append p (replicate n t) (alphagram_from (suc t) ns)))

-- ---- a word read below a node is spelled by the node, and the other way round
module _ (g : Graph) (counted : List ℕ) (walk : Walkable g g counted) (up : ascends kbwg g ≡ true) where
  abbrev W : ℕ → List Word
  W q = words kbwg g q

  pub spelled-below : (q : ℕ) (w : Word) → ReadBelow g q w → Memᴰ (tile kbwg (node g q) ∷ w) (spelled kbwg W (node g q))
  spelled-below q [] a =
      split (eqb (arc kbwg (node g q)) 0)
      (λ z. rw (spelled-alone g (node g q) a z) (Memᴰ.head refl))
      (λ z. rw (spelled_both g (node g q) a z) (Memᴰ.head refl))
  spelled-below q (u ∷ us) r =
      let z = ne_eqb (arc kbwg (node g q)) 0 r.0 in
      let m = map_in (tile kbwg (node g q) ∷◌) (W (arc kbwg (node g q))) (u ∷ us) r.1 in
      split (accepts kbwg (node g q))
      (λ a. rw (spelled_both g (node g q) a z) (Memᴰ.tail m))
      (λ a. rw (spelled-arc g (node g q) a z) m)

  pub below-spelled : (q : ℕ) (w : Word) → Memᴰ (tile kbwg (node g q) ∷ w) (spelled kbwg W (node g q)) → ReadBelow g q w
  below-spelled q [] m = split (accepts kbwg (node g q)) (λ a. a) (λ a. absurd (alone g (node g q) a m))
  below-spelled q (u ∷ us) m = longer g (node g q) u us m

  pub in_own-run : (q : ℕ) → q < length g → (w : Word) → Memᴰ w (spelled kbwg W (node g q)) → Memᴰ w (W q)
  in_own-run q h w m =
      split (is_end kbwg (node g q))
      (λ e. rw (words-end kbwg g q h (walk.clear q) e) m)
      (λ e. rw (words-on kbwg g q h (walk.clear q) e) (Memᴰ.append_left (W (suc q)) m))

  -- ---- the walk decides
  pub data Reads (p : ℕ) (w : Word) : Try Bool → Type 0 where
    yes : ReadBelow g p w → Reads p w (on true)
    no : (ReadBelow g p w → ⊥) → Reads p w (on false)

  found-reads : (p t : ℕ) (w : Word) → arc kbwg (node g p) ≢ 0 → {r : Try ℕ} → FoundIs g walk.steps up (arc kbwg (node g p)) t r
      → ((q : ℕ) → q < length g → Reads q w (accepts_at g (walk_to g q w))) → Reads p (t ∷ w) (accepts_at g (r >>= λ q. walk_to g q w))
  unfolding accepts_at
  found-reads p t w n (found_none k) ih = no (λ r. k w r.1)
  found-reads p t w n (found_at {q} l e _ front f k) ih =
      turn (accepts_at g (walk_to g q w)) (ih q l)
    where
      turn : (x : Try Bool) → Reads q w x → Reads p (t ∷ w) x
      turn x (yes r) =
          let m = in_own-run q l (tile kbwg (node g q) ∷ w) (spelled-below q w r) in
          yes (n, subst (λ s. Memᴰ (s ∷ w) (W (arc kbwg (node g p)))) e (rw f (Memᴰ.append_right front m)))
      turn x (no r) =
          no (λ m. r (below-spelled q w (in_found g g counted walk up (arc kbwg (node g p)) q front w l f (rw e k)
          (subst (λ s. Memᴰ (s ∷ w) (W (arc kbwg (node g p)))) (sym e) m.1))))

  pub reads : (w : Word) (p : ℕ) → p < length g → Reads p w (accepts_at g (walk_to g p w))
  unfolding walk_to accepts_at step_to arc_of
  reads [] p h =
      rw (lent-on g p h)
      (split (accepts kbwg (node g p)) (λ a. rw a (yes a)) (λ a. rw a (no (λ r. true≢false (sym r ∙ a)))))
  reads (t ∷ w) p h =
      rw (lent-on g p h)
      (split (eqb (arc kbwg (node g p)) 0)
      (λ z. rw (z, arc_of) (no (λ r. r.0 (eqb-true (arc kbwg (node g p)) 0 z))))
      (λ z. rw (z, arc_of)
      (found-reads p t w (eqb-false (arc kbwg (node g p)) 0 z)
      (find g walk.steps up (arc kbwg (node g p)) t (walk.steps.arcs p h)) (reads w))))
