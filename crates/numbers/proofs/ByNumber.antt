-- By number: the walk with a graph's own counts names the words of a node in order.
use Rattle.std.specs.Prelude.{◌≡◌, refl, true, false, ◌&&◌, ◌≢◌, eqb, ltb}
use Rattle.std.proofs.Math.Path.{sym, ap, subst}
use Rattle.std.proofs.Common.{◌∙◌, true≢false, zero-add, length-drop, drop-cons}
use mathlib.Core.List.{List, [], ◌∷◌, ◌++◌, map, head-eq_of_cons-eq, tail-eq_of_cons-eq}
use Prim.Native.Nat.{ℕ, zero, suc, ◌+◌, ◌-◌, ◌≤◌, ◌<◌}
use native.Mathlib.Omega.{arith}
use borrow.Author.Tests.{ltb-true, ltb-false, eqb-true, eqb-false, eq-eqb}
use Rattle.std.proofs.Math.ListN.{length, get_or, drop, length-append}
use Rattle.std.proofs.lemmas.List.{length-map}
use Rattle.laws.specs.Lists.{all_mem}
use Rattle.laws.specs.Members.{get_or-map-in, at_in}
use Rattle.laws.specs.Cases.{split, and_left, and_right}
use Rattle.answers.specs.Answers.{gives, nothing}
use Rattle.lookup.specs.Steps.{Try, on, stop, ◌>>=◌}
use Rattle.node.specs.Nodes.{tile, arc, accepts, accepts_bit, kbwg, is_end}
use Rattle.graph.specs.Runs.{Graph, node}
use Rattle.graph.specs.Words.{Word, spelled, words, count}
use Rattle.graph.proofs.WordsAscend.{From, words-nonempty}
use Rattle.graph.proofs.CountEquationLaws.{words-end, words-on}
use Rattle.lookup.specs.StepsLaws.{difference-on}
use Rattle.lookup.specs.Walks.{Turn, last, down, words_between, words_here, turn_in, word_from}
use Rattle.numbers.specs.RunWords.{accepts-one, accepts-zero, spelled-alone, spelled_both, spelled_none, spelled-arc, own-word}
use Rattle.numbers.specs.RunWords.{size, first_word, count_splits, at-later}
use Rattle.numbers.specs.Walkable.{Walkable}
use Rattle.numbers.specs.WordNumbers.{word_at}

module _ (g : Graph) (nodes counted : List ℕ) (walk : Walkable g nodes counted) where
  abbrev W : ℕ → List Word
  W q = words kbwg g q

  here-is : (p : ℕ) → p < length g → words_here counted (node g p) p ≡ on (size g (node g p))
  unfolding words_here words_between
  here-is p h =
      split (is_end kbwg (node g p))
      (λ e. rw (e, words_here) (rw (walk.count-lent p h) (rw (words-end kbwg g p h (walk.clear p) e))))
      (λ e. rw (e, words_here) (rw (walk.count-lent p h) (rw (walk.count-lent (suc p) (walk.steps.runs p h e))
      (let l = ap length (words-on kbwg g p h (walk.clear p) e) ∙ length-append (spelled kbwg W (node g p)) (W (suc p)) in
      difference-on (count kbwg g p) (count kbwg g (suc p)) (omega arith) ∙ ap on (omega arith)))))

  record Down (v : ℕ) (idx : ℕ) : Type 0 where
    some-arc : arc kbwg v ≢ 0
    left : idx - accepts_bit kbwg v < count kbwg g (arc kbwg v)
    is : get_or (spelled kbwg W v) idx [] ≡ tile kbwg v ∷ word_at g (arc kbwg v) (idx - accepts_bit kbwg v)

  -- the word with the number is one of the arc's, after the node's tile
  down-arc : (v idx j : ℕ) → idx - accepts_bit kbwg v ≡ j → eqb (arc kbwg v) 0 ≡ false → j < length (map (tile kbwg v ∷◌) (W (arc kbwg v)))
      → get_or (spelled kbwg W v) idx [] ≡ get_or (map (tile kbwg v ∷◌) (W (arc kbwg v))) j [] → Down v idx
  down-arc v idx j e z h is =
      let l = length-map (W (arc kbwg v)) (tile kbwg v ∷◌) in
      record {
        some-arc = eqb-false (arc kbwg v) 0 z;
        left = omega arith;
        is = is ∙ rw e (get_or-map-in (tile kbwg v ∷◌) (W (arc kbwg v)) j [] [] (omega arith));
      }

  down-own : (v : ℕ) (idx : ℕ) → idx < size g v → idx ≢ 0 → accepts kbwg v ≡ true → eqb (arc kbwg v) 0 ≡ false → Down v idx
  down-own v zero h n a z = absurd (n refl)
  down-own v (suc j) h n a z =
      let one = accepts-one v a in
      let h' = rw (spelled_both g v a z) at h in
      down-arc v (suc j) j (omega arith) z (omega arith) (rw (spelled_both g v a z))

  down_word : (v : ℕ) (idx : ℕ) → idx < size g v → (eqb idx 0 && accepts kbwg v) ≡ false → Down v idx
  down_word v idx h n =
      split (accepts kbwg v)
      (λ a. let k : idx ≢ 0 = λ i. absurd (true≢false (sym (rw (eq-eqb idx 0 i, a)) ∙ n)) in
      split (eqb (arc kbwg v) 0)
      (λ z. let h' = rw (spelled-alone g v a z) at h in absurd (omega arith))
      (λ z. down-own v idx h k a z))
      (λ a. split (eqb (arc kbwg v) 0)
      (λ z. let h' = rw (spelled_none g v a z) at h in absurd (omega arith))
      (λ z. let o = accepts-zero v a in down-arc v idx idx (omega arith) z (rw (spelled-arc g v a z) at h) (rw (spelled-arc g v a z))))

  -- what the walk along a run comes to
  data TurnIs (p idx : ℕ) : Try Turn → Type 0 where
    ends : {v : ℕ} → idx < count kbwg g p → word_at g p idx ≡ tile kbwg v ∷ [] → TurnIs p idx (on (last v))
    goes : {v : ℕ} {left : ℕ} → idx < count kbwg g p → arc kbwg v < length g → left < count kbwg g (arc kbwg v)
        → word_at g p idx ≡ tile kbwg v ∷ word_at g (arc kbwg v) left → TurnIs p idx (on (down v left))
    past : count kbwg g p ≤ idx → TurnIs p idx (stop nothing)

  later : (p idx : ℕ) (v : ℕ) → W p ≡ spelled kbwg W v ++ W (suc p) → size g v ≤ idx → {t : Try Turn} → TurnIs (suc p) (idx - size g v) t → TurnIs p idx t
  later p idx v b k (ends l e) = ends (omega (arith, count_splits g p v b)) (at-later g p v b idx k ∙ e)
  later p idx v b k (goes l a m e) =
      goes (omega (arith, count_splits g p v b)) a m (at-later g p v b idx k ∙ e)
  later p idx v b k (past l) = past (omega (arith, count_splits g p v b))

  turn : (l : Graph) (p idx : ℕ) → drop p nodes ≡ l → p < length g → TurnIs p idx (turn_in counted l p idx)
  unfolding turn_in
  turn [] p idx e h = absurd (let n : length nodes - p ≡ 0 = sym (length-drop p nodes) ∙ ap length e in omega (arith, (walk.same p h).0))
  turn (v ∷ l) p idx e h =
      let c : node nodes p ∷ drop (suc p) nodes ≡ v ∷ l = sym (drop-cons nodes p 0 (walk.same p h).0) ∙ e in
      let is : node g p ≡ v = sym (walk.same p h).1 ∙ head-eq_of_cons-eq c in
      let rest = tail-eq_of_cons-eq c in
      let here : words_here counted v p ≡ on (size g v) = subst (λ w. words_here counted w p ≡ on (size g w)) is (here-is p h) in
      split (eqb idx 0 && accepts kbwg v)
      (λ t. rw (t, turn_in)
      (let z : idx ≡ 0 = eqb-true idx 0 (and_left (eqb idx 0) (accepts kbwg v) t) in
      let o = own-word g v (and_right (eqb idx 0) (accepts kbwg v) t) in
      let f = first_word g p h (walk.clear p) idx (subst (λ w. idx < size g w) (sym is) (omega arith)) in
      ends f.0 (f.1 ∙ ap (λ w. get_or (spelled kbwg W w) idx []) is ∙ ap (λ k. get_or (spelled kbwg W v) k []) z ∙ o.1)))
      (λ t. rw (t, turn_in) (rw here (split (ltb idx (size g v))
      (λ u. rw (u, ◌>>=◌)
      (let k = ltb-true idx (size g v) u in
      let d = down_word v idx k t in
      let f = first_word g p h (walk.clear p) idx (subst (λ w. idx < size g w) (sym is) k) in
      goes f.0 (subst (λ w. arc kbwg w < length g) is (walk.steps.arcs p h)) d.left (f.1 ∙ ap (λ w. get_or (spelled kbwg W w) idx []) is ∙ d.is)))
      (λ u. rw (u, ◌>>=◌) (split (is_end kbwg v)
      (λ x. rw x
      (let k = ltb-false idx (size g v) u in
      let q = ap length (words-end kbwg g p h (walk.clear p) (ap (is_end kbwg) is ∙ x)) ∙ ap (size g) is in
      past (omega arith)))
      (λ x. rw x
      (let k = ltb-false idx (size g v) u in
      let y = ap (is_end kbwg) is ∙ x in
      let b : W p ≡ spelled kbwg W v ++ W (suc p) = words-on kbwg g p h (walk.clear p) y ∙ ap (λ w. spelled kbwg W w ++ W (suc p)) is in
      later p idx v b k (turn l (suc p) (idx - size g v) rest (walk.steps.runs p h y)))))))))

  has-tile : (w : Word) → From 0 w → 0 < length w
  has-tile [] h = absurd h
  has-tile (t ∷ w) h = omega arith

  some-tile : (p i : ℕ) → i < count kbwg g p → 0 < length (word_at g p i)
  some-tile p i h = has-tile (word_at g p i) (all_mem (From 0) (W p) (word_at g p i) (words-nonempty kbwg g p) (at_in (W p) i [] h))

  abbrev Names : ℕ → ℕ → ℕ → ℕ → Type 0
  Names room n p i = word_from counted nodes room n p i ≡ (word_at g p i, gives ((n + length (word_at g p i)) ∷ []))

  named-turn : (room n p i : ℕ) → i < count kbwg g p → length (word_at g p i) ≤ suc room
      → ((m q j : ℕ) → q < length g → j < count kbwg g q → length (word_at g q j) ≤ room → Names room m q j)
      → (t : Try Turn) → turn_in counted (drop p nodes) p i ≡ t → TurnIs p i t → Names (suc room) n p i
  unfolding word_from
  named-turn room n p i k r ih t e (ends {v} l w) = rw (e, word_from) (rw w (let o : suc n ≡ n + 1 = omega arith in rw o))
  named-turn room n p i k r ih t e (goes {v} {left} l a m w) =
      rw (e, word_from) (rw w (rw (ih (suc n) (arc kbwg v) left a m (let r' = rw w at r in omega arith))
      (let o : suc n + length (word_at g (arc kbwg v) left) ≡ n + suc (length (word_at g (arc kbwg v) left)) = omega arith in rw o)))
  named-turn room n p i k r ih t e (past l) = absurd (omega arith)

  named-from : (room n p i : ℕ) → p < length g → i < count kbwg g p → length (word_at g p i) ≤ room → Names room n p i
  named-from zero n p i h k r = absurd (let e = some-tile p i k in omega arith)
  named-from (suc room) n p i h k r =
      named-turn room n p i k r (named-from room) (turn_in counted (drop p nodes) p i) refl (turn (drop p nodes) p i refl h)

  pub named : (room p i : ℕ) → p < length g → i < count kbwg g p → length (word_at g p i) ≤ room
      → word_from counted nodes room 0 p i ≡ (word_at g p i, gives (length (word_at g p i) ∷ []))
  named room p i h k r = named-from room 0 p i h k r ∙ rw zero-add

  past-turn : (room p i : ℕ) → count kbwg g p ≤ i → (t : Try Turn) → turn_in counted (drop p nodes) p i ≡ t → TurnIs p i t
      → word_from counted nodes room 0 p i ≡ ([], nothing)
  unfolding word_from
  past-turn room p i k t e (ends l w) = absurd (omega arith)
  past-turn room p i k t e (goes l a m w) = absurd (omega arith)
  past-turn zero p i k t e (past l) = rw (e, word_from)
  past-turn (suc room) p i k t e (past l) = rw (e, word_from)

  pub other-numbers : (room p i : ℕ) → p < length g → count kbwg g p ≤ i → word_from counted nodes room 0 p i ≡ ([], nothing)
  other-numbers room p i h k = past-turn room p i k (turn_in counted (drop p nodes) p i) refl (turn (drop p nodes) p i refl h)
