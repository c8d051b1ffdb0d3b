-- What the search for a tile finds among the words of a run: those from the node found on, and before them words that begin below the tile.
use Rattle.std.specs.Prelude.{◌≡◌, true, false, ◌≢◌, ℕ, suc, ◌-◌, ◌≤◌, ◌<◌, eqb}
use Rattle.std.proofs.Math.Path.{refl, sym, ap}
use Rattle.std.proofs.Common.{◌∙◌, subst, true≢false, ⊎_elim, arith, length-drop, drop-cons}
use mathlib.Core.List.{List, [], ◌∷◌, ◌++◌, append_assoc, head-eq_of_cons-eq, tail-eq_of_cons-eq}
use mathlib.Core.List.Memᴰ
use mathlib.Core.List.{Memᴰ}
use borrow.Author.Tests.{eqb-true, eqb-false, lt-ltb, le-ltb}
use Rattle.std.proofs.Math.ListN.{length, drop}
use Rattle.laws.specs.Cases.{split}
use Rattle.laws.specs.Lists.{All, all_append, all_weaken, all_mem}
use Rattle.answers.specs.Answers.{nothing}
use Rattle.node.specs.Nodes.{kbwg, tile, is_end}
use Rattle.graph.specs.Runs.{Graph, node, ascends}
use Rattle.graph.specs.Words.{Word, spelled, words}
use Rattle.graph.specs.ChecksLaws.{Closed}
use Rattle.graph.specs.RunLaws.{in_order-last, in_order-next}
use Rattle.graph.specs.WordsEquation.{after_arc, words-run}
use Rattle.graph.proofs.WordsAscend.{BeginsWith, ascends-next, spelled-begins}
use Rattle.lookup.specs.Steps.{Try, on, stop}
use Rattle.lookup.specs.Walks.{find_in}
use Rattle.lookup.specs.WordsBefore.{begins_below}

-- no word of the list begins with t
abbrev pub NotIn : ℕ → List Word → Type 0
NotIn t l = (u : Word) → Memᴰ (t ∷ u) l → ⊥

-- every word of the list begins below t
abbrev pub AllBelow : ℕ → List Word → Type 0
AllBelow t l = All (λ w. begins_below t w ≡ true) l

pub below-not_in : (t : ℕ) (l : List Word) → AllBelow t l → NotIn t l
below-not_in t l a u m =
    true≢false (sym (all_mem (λ w. begins_below t w ≡ true) l (t ∷ u) a m) ∙ le-ltb t t (omega arith))

not_in_append : (t : ℕ) (a b : List Word) → NotIn t a → NotIn t b → NotIn t (a ++ b)
not_in_append t a b h k u m = ⊎_elim (λ i. h u i) (λ i. k u i) (Memᴰ.append_cases a m)

begins-below : (a t : ℕ) → a < t → (w : Word) → BeginsWith a w → begins_below t w ≡ true
begins-below a t h [] b = absurd b
begins-below a t h (x ∷ w) b = lt-ltb x t (omega arith)

module _ (g : Graph) where
  abbrev W : ℕ → List Word
  W q = words kbwg g q

  -- the words that a node spells
  abbrev own : ℕ → List Word
  own p = spelled kbwg (after_arc kbwg g) (node g p)

  module _ (p : ℕ) (h : p < length g) where
    words-own : is_end kbwg (node g p) ≡ true → W p ≡ own p
    words-own e = words-run kbwg g p (omega arith) ∙ in_order-last kbwg (spelled kbwg (after_arc kbwg g)) g p h e

    words-own-next : is_end kbwg (node g p) ≡ false → W p ≡ own p ++ W (suc p)
    words-own-next e =
        words-run kbwg g p (omega arith) ∙ in_order-next kbwg (spelled kbwg (after_arc kbwg g)) g p h e
        ∙ ap (own p ++◌) (sym (words-run kbwg g (suc p) (omega arith)))

module _ (g : Graph) (steps : Closed g) where
  -- ---- a run of the graph is searched alike where the graph stands at the head of a list
  module _ (nodes : Graph) (same : (p : ℕ) → p < length g → (p < length nodes) × (node nodes p ≡ node g p)) where
    same-search : (l : Graph) (p t : ℕ) → drop p g ≡ l → p < length g → find_in (drop p nodes) p t ≡ find_in l p t
    unfolding find_in
    same-search [] p t e h = absurd (let n : length g - p ≡ 0 = sym (length-drop p g) ∙ ap length e in omega arith)
    same-search (v ∷ l) p t e h =
        let c : node g p ∷ drop (suc p) g ≡ v ∷ l = sym (drop-cons g p 0 h) ∙ e in
        let is : node nodes p ≡ v = (same p h).1 ∙ head-eq_of_cons-eq c in
        rw (drop-cons nodes p 0 (same p h).0 ∙ ap (◌∷ drop (suc p) nodes) is)
        (split (eqb (tile kbwg v) t)
        (λ x. rw (x, find_in))
        (λ x. rw (x, find_in)
        (split (is_end kbwg v)
        (λ y. rw y)
        (λ y. rw y
        (same-search l (suc p) t (tail-eq_of_cons-eq c) (steps.runs p h (ap (is_end kbwg) (head-eq_of_cons-eq c) ∙ y)))))))

    pub find-same : (p t : ℕ) → p < length g → find_in (drop p nodes) p t ≡ find_in (drop p g) p t
    find-same p t h = same-search (drop p g) p t refl h

  -- ---- what is found
  module _ (up : ascends kbwg g ≡ true) where
    pub data FoundIs (p t : ℕ) : Try ℕ → Type 0 where
      found_at : {q : ℕ} → q < length g → tile kbwg (node g q) ≡ t → tile kbwg (node g p) ≤ t → (front : List Word) → W g p ≡ front ++ W g q
          → AllBelow t front → FoundIs p t (on q)
      found_none : NotIn t (W g p) → FoundIs p t (stop nothing)

    own-other : (p t : ℕ) → tile kbwg (node g p) ≢ t → NotIn t (own g p)
    own-other p t n u m =
        n (sym (all_mem (BeginsWith (tile kbwg (node g p))) (own g p) (t ∷ u) (spelled-begins kbwg (after_arc kbwg g) (node g p)) m))

    own_below : (p t : ℕ) → tile kbwg (node g p) < t → AllBelow t (own g p)
    own_below p t h =
        all_weaken (BeginsWith (tile kbwg (node g p))) (λ w. begins_below t w ≡ true) (begins-below (tile kbwg (node g p)) t h) (own g p)
        (spelled-begins kbwg (after_arc kbwg g) (node g p))

    found-later : (p t : ℕ) → p < length g → is_end kbwg (node g p) ≡ false → tile kbwg (node g p) ≢ t → {r : Try ℕ}
        → FoundIs (suc p) t r → FoundIs p t r
    found-later p t h e n (found_at {q} l i k front f a) =
        let lt = ascends-next kbwg g up p (steps.runs p h e) e in
        found_at l i (omega arith) (own g p ++ front) (words-own-next g p h e ∙ ap (own g p ++◌) f ∙ sym (append_assoc (own g p) front (W g q)))
        (all_append (λ w. begins_below t w ≡ true) (own g p) front (own_below p t (omega arith)) a)
    found-later p t h e n (found_none k) =
        found_none (subst (NotIn t) (sym (words-own-next g p h e)) (not_in_append t (own g p) (W g (suc p)) (own-other p t n) k))

    find_in_list : (l : Graph) (p t : ℕ) → drop p g ≡ l → p < length g → FoundIs p t (find_in l p t)
    unfolding find_in
    find_in_list [] p t e h = absurd (let n : length g - p ≡ 0 = sym (length-drop p g) ∙ ap length e in omega arith)
    find_in_list (v ∷ l) p t e h =
        let c : node g p ∷ drop (suc p) g ≡ v ∷ l = sym (drop-cons g p 0 h) ∙ e in
        let is : node g p ≡ v = head-eq_of_cons-eq c in
        split (eqb (tile kbwg v) t)
        (λ x. let i = ap (tile kbwg) is ∙ eqb-true (tile kbwg v) t x in rw (x, find_in) (found_at h i (omega arith) [] refl tt))
        (λ x. rw (x, find_in)
        (let n : tile kbwg (node g p) ≢ t = λ i. eqb-false (tile kbwg v) t x (sym (ap (tile kbwg) is) ∙ i) in
        split (is_end kbwg v)
        (λ y. rw y (found_none (subst (NotIn t) (sym (words-own g p h (ap (is_end kbwg) is ∙ y))) (own-other p t n))))
        (λ y. rw y
        (let z = ap (is_end kbwg) is ∙ y in
        found-later p t h z n (find_in_list l (suc p) t (tail-eq_of_cons-eq c) (steps.runs p h z))))))

    pub find : (p t : ℕ) → p < length g → FoundIs p t (find_in (drop p g) p t)
    find p t h = find_in_list (drop p g) p t refl h
