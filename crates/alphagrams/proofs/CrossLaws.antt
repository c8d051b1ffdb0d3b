-- The cross set adds the tiles with which the letters left, and one tile more, are a word of the run.
use Rattle.std.specs.Prelude.{◌≡◌, Bool, true, false, ◌||◌, ◌≢◌, ◌⊎◌, ◌↔◌, eqb, ltb, get_or}
use Rattle.std.proofs.Math.Path.{refl, sym, ap}
use Rattle.std.proofs.Common.{◌∙◌, subst, true≢false, ⊎_elim, arith, eqb-true, ltb-true, ltb-false, eq-eqb, length-drop, add-one, drop-cons, drop-drop}
use Rattle.std.proofs.Math.Bool.{or-true}
use Rattle.std.proofs.Math.Logic.{inl, inr}
use mathlib.Core.List.Memᴰ
use mathlib.Core.List.{List, [], ◌∷◌, ◌++◌, Memᴰ, head-eq_of_cons-eq, tail-eq_of_cons-eq}
use Prim.Native.Nat.{ℕ, zero, suc, ◌-◌, ◌^◌, ◌≤◌, ◌<◌}
use Rattle.std.proofs.lemmas.Bool.{eqb-false}
use Rattle.std.specs.Int.Bits.{bit_or}
use Rattle.std.proofs.Math.ListN.{length, drop, replicate}
use Rattle.laws.specs.Bits.{has_bit, or_bit, power_bit}
use Rattle.laws.specs.Cases.{split}
use Rattle.laws.specs.Lists.{all_mem}
use Rattle.answers.specs.Answers.{Answer, gives}
use Rattle.node.specs.Nodes.{kbwg, tile, arc, accepts, is_end}
use Rattle.graph.specs.Runs.{Graph, node, run, ascends}
use Rattle.graph.specs.Words.{Word, words, spelled, in_order}
use Rattle.graph.proofs.WordsAscend.{From, BeginsWith, heads, spelled-begins, ascends-drop, words-nonempty}
use Rattle.graph.proofs.WordsEquationLaws.{words-equation}
use Rattle.graph.proofs.CountEquationLaws.{words-end, words-on}
use Rattle.lookup.specs.Steps.{Try, on, stop}
use Rattle.lookup.specs.StepsLaws.{on_eq}
use Rattle.numbers.specs.Walkable.{Walkable}
use Rattle.numbers.specs.TileSearch.{only_here}
use Rattle.laws.specs.BitSets.{marked}
use Rattle.letters.specs.AlphaSets.{closing, completes, along, cross_copies, cross_letters}
use Rattle.alphagrams.specs.Alphagrams.{alphagram_from, NeverDescends, ReadBelow}
use Rattle.alphagrams.proofs.InsertLaws.{with_letter, with-letter-low, with-letter-high, starts}
use Rattle.alphagrams.proofs.AcceptsLaws.{spent-walk, Reads, yes, no, reads, spelled-below, below-spelled, in_own-run}

strictly : {a b : ℕ} → b ≤ a → (b ≡ a → ⊥) → b < a
strictly {a} {b} k n = omega arith

-- bit u of a set
abbrev pub Bit : ℕ → ℕ → Type 0
Bit u n = has_bit n u ≡ true

or_cases : (a b : Bool) → a || b ≡ true → (a ≡ true) ⊎ (b ≡ true)
or_cases true b e = inl refl
or_cases false b e = inr e

-- a tile marked: its bit, where asked, and all that was set before
bit-marked : (u s t : ℕ) (b : Bool) → Bit u (marked s t b) ↔ (Bit u s ⊎ ((u ≡ t) × (b ≡ true)))
bit-marked u s t true =
    let is : has_bit (bit_or s (2 ^ t)) u ≡ has_bit s u || eqb u t = or_bit s (2 ^ t) u ∙ ap (λ b. has_bit s u || b) (power_bit t u) in (
      (λ e. ⊎_elim (λ k. inl k) (λ k. inr (eqb-true u t k, refl)) (or_cases (has_bit s u) (eqb u t) (sym is ∙ e))),
      (λ x. is ∙ ⊎_elim
          (λ k. ap (λ b. b || eqb u t) k)
          (λ k. ap (λ b. has_bit s u || b) (eq-eqb u t k.0) ∙ or-true (has_bit s u))
          x),
    )
bit-marked u s t false = ((λ e. inl e), (λ x. ⊎_elim (λ k. k) (λ k. absurd (true≢false (sym k.1))) x))

module _ (g : Graph) (counted : List ℕ) (walk : Walkable g g counted) (up : ascends kbwg g ≡ true) where
  abbrev W : ℕ → List Word
  W q = words kbwg g q

  abbrev Sp : ℕ → List Word
  Sp q = spelled kbwg W (node g q)

  -- ---- first tiles
  head-from : (p : ℕ) → p < length g → (w : Word) → Memᴰ w (W p) → From (tile kbwg (node g p)) w
  head-from p h w m =
      let first : get_or (drop p g) 0 0 ≡ node g p = ap (λ l. get_or l 0 0) (drop-cons g p 0 h) in
      let all = heads kbwg W (drop p g) (tile kbwg (node g p)) (ascends-drop kbwg p g up)
      (subst (λ v. tile kbwg (node g p) ≤ tile kbwg v) (sym first) (omega arith)) in
      all_mem (From (tile kbwg (node g p))) (in_order (spelled kbwg W) (run kbwg (drop p g))) w all (rw (words-equation kbwg g p (walk.clear p)) at m)

  own-tile : (p a : ℕ) (w : Word) → Memᴰ (a ∷ w) (Sp p) → a ≡ tile kbwg (node g p)
  own-tile p a w m =
      all_mem (BeginsWith (tile kbwg (node g p))) (Sp p) (a ∷ w) (spelled-begins kbwg W (node g p)) m

  -- ---- what a walk adds to a set
  pub record Adds (s : ℕ) (left : Word) (p : ℕ) (x : Answer) : Type 0 where
    pub set : ℕ
    pub is : x ≡ gives (set ∷ [])
    pub bit : (u : ℕ) → Bit u set ↔ (Bit u s ⊎ Memᴰ (with_letter u left) (W p))

  adds_none : (s : ℕ) (left : Word) (p : ℕ) → ((u : ℕ) → Memᴰ (with_letter u left) (W p) → ⊥) → Adds s left p (gives (s ∷ []))
  adds_none s left p n = record { set = s; is = refl; bit = λ u. ((λ e. inl e), (λ x. ⊎_elim (λ k. k) (λ k. absurd (n u k)) x)) }

  -- a node of the run whose words with the letters left are known: its tile, where b
  module _ (s : ℕ) (left : Word) (p : ℕ) (b : Bool) (own : (u : ℕ) → Memᴰ (with_letter u left) (Sp p) ↔ ((u ≡ tile kbwg (node g p)) × (b ≡ true))) where
    Adds-last : W p ≡ Sp p → Adds s left p (gives (marked s (tile kbwg (node g p)) b ∷ []))
    Adds-last e = record {
      set = marked s (tile kbwg (node g p)) b;
      is = refl;
      bit = λ u. (
        (λ k. ⊎_elim (λ x. inl x) (λ x. inr (rw e ((own u).1 x))) ((bit-marked u s (tile kbwg (node g p)) b).0 k)),
        (λ k. (bit-marked u s (tile kbwg (node g p)) b).1 (⊎_elim (λ x. inl x) (λ x. inr ((own u).0 (rw e at x))) k)),
      );
    }

    Adds-more : {x : Answer} → W p ≡ Sp p ++ W (suc p) → Adds (marked s (tile kbwg (node g p)) b) left (suc p) x → Adds s left p x
    Adds-more e a = record {
      set = a.set;
      is = a.is;
      bit = λ u. (
        (λ k. ⊎_elim
            (λ y. ⊎_elim (λ x. inl x) (λ x. inr (rw e (Memᴰ.append_left (W (suc p)) ((own u).1 x)))) ((bit-marked u s (tile kbwg (node g p)) b).0 y))
            (λ y. inr (rw e (Memᴰ.append_right (Sp p) y)))
            ((a.bit u).0 k)),
        (λ k. (a.bit u).1 (⊎_elim
            (λ x. inl ((bit-marked u s (tile kbwg (node g p)) b).1 (inl x)))
            (λ x. ⊎_elim
            (λ y. inl ((bit-marked u s (tile kbwg (node g p)) b).1 (inr ((own u).0 y))))
            (λ y. inr y)
            (Memᴰ.append_cases (Sp p) (rw e at x)))
            k)),
      );
    }

  -- ---- the closing loop: no letters left
  closing-own : (p u : ℕ) → Memᴰ (with_letter u []) (Sp p) ↔ ((u ≡ tile kbwg (node g p)) × (accepts kbwg (node g p) ≡ true))
  closing-own p u = (
    (λ m. let e = own-tile p u [] m in (e, below-spelled g counted walk up p [] (subst (λ a. Memᴰ (a ∷ []) (Sp p)) e m))),
    (λ k. subst (λ a. Memᴰ (a ∷ []) (Sp p)) (sym k.0) (spelled-below g counted walk up p [] k.1)),
  )

  closing-Adds : (l : Graph) (p s : ℕ) → drop p g ≡ l → p < length g → Adds s [] p (closing l s)
  unfolding closing
  closing-Adds [] p s e h = absurd (let n : length g - p ≡ 0 = sym (length-drop p g) ∙ ap length e in omega arith)
  closing-Adds (v ∷ l) p s e h =
      let c : node g p ∷ drop (suc p) g ≡ v ∷ l = sym (drop-cons g p 0 h) ∙ e in
      let is : node g p ≡ v = head-eq_of_cons-eq c in
      rw (← is)
      (split (is_end kbwg (node g p))
      (λ x. rw (x, closing) (Adds-last s [] p (accepts kbwg (node g p)) (closing-own p) (words-end kbwg g p h (walk.clear p) x)))
      (λ x. rw (x, closing)
      (Adds-more s [] p (accepts kbwg (node g p)) (closing-own p) (words-on kbwg g p h (walk.clear p) x)
      (closing-Adds l (suc p) (marked s (tile kbwg (node g p)) (accepts kbwg (node g p))) (tail-eq_of_cons-eq c) (walk.steps.runs p h x)))))

  -- ---- words that go on from a letter m never descend
  abbrev pub Level : ℕ → ℕ → Type 0
  Level m p = (w : Word) → Memᴰ w (W p) → NeverDescends (m ∷ w)

  Level-on : (m p : ℕ) → p < length g → is_end kbwg (node g p) ≡ false → Level m p → Level m (suc p)
  Level-on m p h e v w k = v w (rw (words-on kbwg g p h (walk.clear p) e) (Memᴰ.append_right (Sp p) k))

  some_word : (w : Word) (p : ℕ) → Memᴰ w (W p) → (a : ℕ) × (u : Word) × (w ≡ a ∷ u)
  some_word [] p m = absurd (all_mem (From 0) (W p) [] (words-nonempty kbwg g p) m)
  some_word (a ∷ u) p m = (a, u, refl)

  below-arc : (p : ℕ) (w : Word) → p < length g → arc kbwg (node g p) ≢ 0 → Memᴰ w (W (arc kbwg (node g p))) → Memᴰ (tile kbwg (node g p) ∷ w) (W p)
  below-arc p w h n m =
      let c = some_word w (arc kbwg (node g p)) m in
      subst (λ x. Memᴰ (tile kbwg (node g p) ∷ x) (W p)) (sym c.2)
      (in_own-run g counted walk up p h (tile kbwg (node g p) ∷ c.0 ∷ c.1)
      (spelled-below g counted walk up p (c.0 ∷ c.1) (n, subst (λ x. Memᴰ x (W (arc kbwg (node g p)))) c.2 m)))

  Level-down : (m p : ℕ) → p < length g → arc kbwg (node g p) ≢ 0 → Level m p → Level (tile kbwg (node g p)) (arc kbwg (node g p))
  Level-down m p h n v w k = (v (tile kbwg (node g p) ∷ w) (below-arc p w h n k)).1

  -- ---- the node with the next letter t, by its arc
  adds_down : (s t : ℕ) (left : Word) (p : ℕ) → p < length g → tile kbwg (node g p) ≡ t → arc kbwg (node g p) ≢ 0 → Level t (arc kbwg (node g p))
      → {x : Answer} → Adds s left (arc kbwg (node g p)) x → Adds s (t ∷ left) p x
  adds_down s t left p h e n v a = record {
    set = a.set;
    is = a.is;
    bit = λ u. (
      (λ k. ⊎_elim (λ x. inl x) (λ x. inr (up_to u x)) ((a.bit u).0 k)),
      (λ k. (a.bit u).1 (⊎_elim (λ x. inl x) (λ x. inr (down-from u x)) k)),
    );
  }
    where
      high : (u : ℕ) → Memᴰ (with_letter u left) (W (arc kbwg (node g p))) → t ≤ u
      high u m =
          let c = starts u left in
          let d = (v (c.first ∷ c.rest) (subst (λ x. Memᴰ x (W (arc kbwg (node g p)))) c.is m)).0 in
          let l = c.low in omega arith

      up_to : (u : ℕ) → Memᴰ (with_letter u left) (W (arc kbwg (node g p))) → Memᴰ (with_letter u (t ∷ left)) (W p)
      up_to u m = rw (with-letter-high u t left (high u m)) (subst (λ a. Memᴰ (a ∷ with_letter u left) (W p)) e (below-arc p (with_letter u left) h n m))

      down-from : (u : ℕ) → Memᴰ (with_letter u (t ∷ left)) (W p) → Memᴰ (with_letter u left) (W (arc kbwg (node g p)))
      down-from u m =
          split (ltb u t)
          (λ l. let f = head-from p h (u ∷ t ∷ left) (rw (with-letter-low u t left (ltb-true u t l)) at m) in let k = ltb-true u t l in absurd (omega arith))
          (λ l.
          let c = starts u left in
          let m₁ = rw (with-letter-high u t left (ltb-false u t l)) at m in
          let m₂ = subst (λ a. Memᴰ (a ∷ with_letter u left) (W p)) (sym e) m₁ in
          let m₃ = only_here g g counted walk up p h (with_letter u left) m₂ in
          let m₄ = subst (λ x. Memᴰ (tile kbwg (node g p) ∷ x) (Sp p)) c.is m₃ in
          subst (λ x. Memᴰ x (W (arc kbwg (node g p)))) (sym c.is) (below-spelled g counted walk up p (c.first ∷ c.rest) m₄).1)

  -- no word of the run begins with a letter up to t, nor with t and more
  past-letter : (t : ℕ) (left : Word) (p : ℕ) → p < length g → t < tile kbwg (node g p) → (u : ℕ) → Memᴰ (with_letter u (t ∷ left)) (W p) → ⊥
  past-letter t left p h l u m =
      split (ltb u t)
      (λ k. let f = head-from p h (u ∷ t ∷ left) (rw (with-letter-low u t left (ltb-true u t k)) at m) in let j = ltb-true u t k in omega arith)
      (λ k. let f = head-from p h (t ∷ with_letter u left) (rw (with-letter-high u t left (ltb-false u t k)) at m) in omega arith)

  no-arc-there : (t : ℕ) (left : Word) (p : ℕ) → p < length g → tile kbwg (node g p) ≡ t → arc kbwg (node g p) ≡ 0
      → (u : ℕ) → Memᴰ (with_letter u (t ∷ left)) (W p) → ⊥
  no-arc-there t left p h e z u m =
      split (ltb u t)
      (λ k. let f = head-from p h (u ∷ t ∷ left) (rw (with-letter-low u t left (ltb-true u t k)) at m) in let j = ltb-true u t k in omega arith)
      (λ k.
      let c = starts u left in
      let m₁ = rw (with-letter-high u t left (ltb-false u t k)) at m in
      let m₂ = subst (λ a. Memᴰ (a ∷ with_letter u left) (W p)) (sym e) m₁ in
      let m₃ = only_here g g counted walk up p h (with_letter u left) m₂ in
      (below-spelled g counted walk up p (c.first ∷ c.rest) (subst (λ x. Memᴰ (tile kbwg (node g p) ∷ x) (Sp p)) c.is m₃)).0 z)

  -- a node below the letter t: its tile, where the letters left are read below it
  lower-own : (t : ℕ) (left : Word) (p : ℕ) (b : Bool) → tile kbwg (node g p) < t → (b ≡ true ↔ ReadBelow g p (t ∷ left))
      → (u : ℕ) → Memᴰ (with_letter u (t ∷ left)) (Sp p) ↔ ((u ≡ tile kbwg (node g p)) × (b ≡ true))
  lower-own t left p b l k u = (
    (λ m. split (ltb u t)
        (λ j.
        let m₁ = rw (with-letter-low u t left (ltb-true u t j)) at m in
        let e = own-tile p u (t ∷ left) m₁ in
        (e, k.1 (below-spelled g counted walk up p (t ∷ left) (subst (λ a. Memᴰ (a ∷ t ∷ left) (Sp p)) e m₁))))
        (λ j.
        let e = own-tile p t (with_letter u left) (rw (with-letter-high u t left (ltb-false u t j)) at m) in absurd (omega arith))),
    (λ x.
        let e = x.0 in
        rw (with-letter-low u t left (omega arith))
        (subst (λ a. Memᴰ (a ∷ t ∷ left) (Sp p)) (sym e) (spelled-below g counted walk up p (t ∷ left) (k.0 x.1)))),
  )

  -- ---- the letters of the tally
  module _ (tally : List ℕ) where
    -- all the letters from t on, those already used too: what `completes_alpha_cross_set` looks for
    abbrev letters : ℕ → Word
    letters t = alphagram_from t (drop t tally)

    pub completes-reads : (t p : ℕ) → p < length g → Reads g counted walk up p (letters t) (completes g tally t p)
    unfolding completes
    completes-reads t p h = rw (spent-walk g t (drop t tally) p) (reads g counted walk up (letters t) p h)

    -- nothing is read below a node whose tile is under the letter before the run
    none-under : (m p : ℕ) → p < length g → tile kbwg (node g p) < m → Level m p → (w : Word) → ReadBelow g p w → ⊥
    none-under m p h l v w r =
        let d = (v (tile kbwg (node g p) ∷ w) (in_own-run g counted walk up p h (tile kbwg (node g p) ∷ w) (spelled-below g counted walk up p w r))).0 in
        omega arith

    module _ (t m : ℕ) (left : Word) (first : (letters t ≡ t ∷ left) ⊎ (m ≡ t)) (follows : ℕ → ℕ → Answer)
        (goes : (a s : ℕ) → a < length g → Level t a → Adds s left a (follows a s)) where
      decides : (p : ℕ) → p < length g → tile kbwg (node g p) < t → Level m p → (b : Bool) → Reads g counted walk up p (letters t) (on b)
          → b ≡ true ↔ ReadBelow g p (t ∷ left)
      decides p h l v b r =
          ⊎_elim
          (λ e. by-letters (on b) (subst (λ w. Reads g counted walk up p w (on b)) e r) b refl)
          (λ e. let n = none-under m p h (omega arith) v in by-none n (on b) r b refl)
          first
        where
          by-letters : (x : Try Bool) → Reads g counted walk up p (t ∷ left) x → (b : Bool) → x ≡ on b → b ≡ true ↔ ReadBelow g p (t ∷ left)
          by-letters x (yes k) b e = ((λ z. k), (λ z. let i : true ≡ b = on_eq e in sym i))
          by-letters x (no k) b e = ((λ z. absurd (true≢false (sym z ∙ sym (on_eq e)))), (λ z. absurd (k z)))

          by-none : ((w : Word) → ReadBelow g p w → ⊥) → (x : Try Bool) → Reads g counted walk up p (letters t) x → (b : Bool) → x ≡ on b
              → b ≡ true ↔ ReadBelow g p (t ∷ left)
          by-none n x (yes k) b e = absurd (n (letters t) k)
          by-none n x (no k) b e = ((λ z. absurd (true≢false (sym z ∙ sym (on_eq e)))), (λ z. absurd (n (t ∷ left) z)))

      -- a node under the letter, by what is read below it
      lower_adds : (l : Graph) (p s : ℕ) → drop (suc p) g ≡ l → p < length g → Level m p → tile kbwg (node g p) < t
          → ((q r : ℕ) → drop q g ≡ l → q < length g → Level m q → Adds r (t ∷ left) q (along g tally t follows l q r))
          → (b : Bool) → Reads g counted walk up p (letters t) (on b)
          → Adds s (t ∷ left) p (elim (is_end kbwg (node g p)) [
            | true ↦ gives (marked s (tile kbwg (node g p)) b ∷ [])
            | false ↦ along g tally t follows l (suc p) (marked s (tile kbwg (node g p)) b)
          ])
      lower_adds l p s e h v u ih b r =
          let own = lower-own t left p b u (decides p h u v b r) in
          split (is_end kbwg (node g p))
          (λ x. rw x (Adds-last s (t ∷ left) p b own (words-end kbwg g p h (walk.clear p) x)))
          (λ x. rw x (Adds-more s (t ∷ left) p b own (words-on kbwg g p h (walk.clear p) x)
          (ih (suc p) (marked s (tile kbwg (node g p)) b) e (walk.steps.runs p h x) (Level-on m p h x v))))

      abbrev completed : Graph → ℕ → ℕ → Try Bool → Answer
      completed l p s x = elim x [
        | stop r ↦ r
        | on b ↦ elim (is_end kbwg (node g p)) [
          | true ↦ gives (marked s (tile kbwg (node g p)) b ∷ [])
          | false ↦ along g tally t follows l (suc p) (marked s (tile kbwg (node g p)) b)
        ]
      ]

      lower : (l : Graph) (p s : ℕ) → drop (suc p) g ≡ l → p < length g → Level m p → tile kbwg (node g p) < t
          → ((q r : ℕ) → drop q g ≡ l → q < length g → Level m q → Adds r (t ∷ left) q (along g tally t follows l q r))
          → (x : Try Bool) → Reads g counted walk up p (letters t) x → Adds s (t ∷ left) p (completed l p s x)
      lower l p s e h v u ih x (yes k) = lower_adds l p s e h v u ih true (yes k)
      lower l p s e h v u ih x (no k) = lower_adds l p s e h v u ih false (no k)

      -- the three turns of the inner loop
      module _ (l : Graph) (p s : ℕ) where
        turn_greater : ltb t (tile kbwg (node g p)) ≡ true → along g tally t follows (node g p ∷ l) p s ≡ gives (s ∷ [])
        unfolding along
        turn_greater x = rw (x, along)

        turn-no-arc : ltb t (tile kbwg (node g p)) ≡ false → eqb (tile kbwg (node g p)) t ≡ true → eqb (arc kbwg (node g p)) 0 ≡ true
            → along g tally t follows (node g p ∷ l) p s ≡ gives (s ∷ [])
        unfolding along
        turn-no-arc x y z = rw (x, along) (rw y (rw z))

        turn-arc : ltb t (tile kbwg (node g p)) ≡ false → eqb (tile kbwg (node g p)) t ≡ true → eqb (arc kbwg (node g p)) 0 ≡ false
            → along g tally t follows (node g p ∷ l) p s ≡ follows (arc kbwg (node g p)) s
        unfolding along
        turn-arc x y z = rw (x, along) (rw y (rw z))

        turn-less : ltb t (tile kbwg (node g p)) ≡ false → eqb (tile kbwg (node g p)) t ≡ false
            → along g tally t follows (node g p ∷ l) p s ≡ completed l p s (completes g tally t p)
        unfolding along
        turn-less x y = rw (x, along) (rw y)

      along-same : (l : Graph) (p s : ℕ) → p < length g → Level m p → ltb t (tile kbwg (node g p)) ≡ false → eqb (tile kbwg (node g p)) t ≡ true
          → Adds s (t ∷ left) p (along g tally t follows (node g p ∷ l) p s)
      along-same l p s h v x y =
          let same = eqb-true (tile kbwg (node g p)) t y in
          split (eqb (arc kbwg (node g p)) 0)
          (λ z. subst (Adds s (t ∷ left) p) (sym (turn-no-arc l p s x y z))
          (adds_none s (t ∷ left) p (no-arc-there t left p h same (eqb-true (arc kbwg (node g p)) 0 z))))
          (λ z.
          let n = eqb-false (arc kbwg (node g p)) 0 z in
          let d = subst (λ k. Level k (arc kbwg (node g p))) same (Level-down m p h n v) in
          subst (Adds s (t ∷ left) p) (sym (turn-arc l p s x y z)) (adds_down s t left p h same n d (goes (arc kbwg (node g p)) s (walk.steps.arcs p h) d)))

      along-node : (l : Graph) (p s : ℕ) → drop (suc p) g ≡ l → p < length g → Level m p
          → ((q r : ℕ) → drop q g ≡ l → q < length g → Level m q → Adds r (t ∷ left) q (along g tally t follows l q r))
          → Adds s (t ∷ left) p (along g tally t follows (node g p ∷ l) p s)
      along-node l p s e h v ih =
          split (ltb t (tile kbwg (node g p)))
          (λ x. subst (Adds s (t ∷ left) p) (sym (turn_greater l p s x))
          (adds_none s (t ∷ left) p (past-letter t left p h (ltb-true t (tile kbwg (node g p)) x))))
          (λ x. split (eqb (tile kbwg (node g p)) t)
          (λ y. along-same l p s h v x y)
          (λ y. subst (Adds s (t ∷ left) p) (sym (turn-less l p s x y))
          (lower l p s e h v (strictly (ltb-false t (tile kbwg (node g p)) x) (eqb-false (tile kbwg (node g p)) t y)) ih
          (completes g tally t p) (completes-reads t p h))))

      along-Adds : (l : Graph) (p s : ℕ) → drop p g ≡ l → p < length g → Level m p → Adds s (t ∷ left) p (along g tally t follows l p s)
      along-Adds [] p s e h v = absurd (let n : length g - p ≡ 0 = sym (length-drop p g) ∙ ap length e in omega arith)
      along-Adds (w ∷ l) p s e h v =
          let c : node g p ∷ drop (suc p) g ≡ w ∷ l = sym (drop-cons g p 0 h) ∙ e in
          subst (λ x. Adds s (t ∷ left) p (along g tally t follows (x ∷ l) p s)) (head-eq_of_cons-eq c)
          (along-node l p s (tail-eq_of_cons-eq c) h v (along-Adds l))

    copies_adds : (t N : ℕ) (rest : Word) → letters t ≡ replicate N t ++ rest → (follows : ℕ → ℕ → Answer)
        → ((m a s : ℕ) → a < length g → Level m a → Adds s rest a (follows a s))
        → (n m p s : ℕ) → (n ≡ N) ⊎ (m ≡ t) → p < length g → Level m p → Adds s (replicate n t ++ rest) p (cross_copies g tally n t follows p s)
    unfolding cross_copies
    copies_adds t N rest e follows goes zero m p s c h v = goes m p s h v
    copies_adds t N rest e follows goes (suc n) m p s c h v =
        along-Adds t m (replicate n t ++ rest)
        (⊎_elim (λ i. inl (subst (λ k. letters t ≡ replicate k t ++ rest) (sym i) e)) (λ i. inr i) c)
        (λ q u. cross_copies g tally n t follows q u)
        (λ a r k d. copies_adds t N rest e follows goes n t a r (inr refl) k d)
        (drop p g) p s refl h v

    next-letters : (t n : ℕ) (ns : List ℕ) → drop t tally ≡ n ∷ ns → drop (suc t) tally ≡ ns
    next-letters t n ns e = ap (λ k. drop k tally) (sym (add-one t)) ∙ sym (drop-drop 1 t tally) ∙ ap (drop 1) e

    pub letters_adds : (ns : List ℕ) (t m p s : ℕ) → drop t tally ≡ ns → p < length g → Level m p
        → Adds s (alphagram_from t ns) p (cross_letters g tally t ns p s)
    unfolding cross_letters alphagram_from
    letters_adds [] t m p s e h v = closing-Adds (drop p g) p s refl h
    letters_adds (n ∷ ns) t m p s e h v =
        copies_adds t n (alphagram_from (suc t) ns) (ap (alphagram_from t) e) (λ q u. cross_letters g tally (suc t) ns q u)
        (λ k a r i d. letters_adds ns (suc t) k a r (next-letters t n ns e) i d)
        n m p s (inl refl) h v
