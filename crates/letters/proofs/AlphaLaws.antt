-- The walks of the alpha sets, step by step.
use Rattle.std.proofs.Common.{◌≡◌, ◌≢◌, refl, ap, ◌∙◌, List, [], ◌∷◌, ℕ, zero, suc, ◌+◌, ◌≤◌, ◌<◌, Bool, true, false, length, get_or, drop, arith, add-one, drop_of_length-le, drop-cons, eq-eqb, ne_eqb, lt-ltb, le-ltb}
use Rattle.answers.specs.Answers.{Answer, gives, refused}
use Rattle.node.specs.Nodes.{kbwg, tile, arc, accepts, is_end}
use Rattle.graph.specs.Runs.{Graph, node}
use Rattle.lookup.specs.Steps.{Try, on, stop, ◌>>=◌}
use Rattle.lookup.specs.Walks.{step_to}
use Rattle.laws.specs.BitSets.{marked}
use Rattle.letters.specs.AlphaSets.{copies, spent, accepts_at, completes, closing, along, cross_copies, cross_letters}

-- ---- the closing loop
module _ (g : Graph) (p s : ℕ) where
  pub closing-out : length g ≤ p → closing (drop p g) s ≡ refused 14 []
  unfolding closing
  closing-out h = rw (drop_of_length-le g h)

  -- x: the set with the node's tile, where it accepts
  module _ (h : p < length g) (x : ℕ) (with_it : x ≡ marked s (tile kbwg (node g p)) (accepts kbwg (node g p))) where
    pub closing_end : is_end kbwg (node g p) ≡ true → closing (drop p g) s ≡ gives (x ∷ [])
    unfolding closing
    closing_end e = rw with_it (rw (drop-cons g p 0 h) (rw (e, closing)))

    pub closing-next : is_end kbwg (node g p) ≡ false → closing (drop p g) s ≡ closing (drop (p + 1) g) x
    unfolding closing
    closing-next e = rw (with_it, add-one) (rw (drop-cons g p 0 h) (rw (e, closing)))

-- ---- along the letters left
module _ (g : Graph) (tally : List ℕ) where
  -- n more of the letter t, then the letters after it
  abbrev pub spending : ℕ → ℕ → ℕ → Try ℕ
  spending n t p = copies g n t p >>= λ q. spent g (t + 1) (drop (t + 1) tally) q

  pub spent-end : (t p : ℕ) → length tally ≤ t → spent g t (drop t tally) p ≡ on p
  unfolding spent
  spent-end t p h = rw (drop_of_length-le tally h)

  pub spent-letter : (t p : ℕ) → t < length tally → spent g t (drop t tally) p ≡ spending (get_or tally t 0) t p
  unfolding spent
  spent-letter t p h = rw (add-one, drop-cons tally t 0 h)

  pub spent-none : (n t p : ℕ) → n ≤ 0 → spending n t p ≡ spent g (t + 1) (drop (t + 1) tally) p
  unfolding copies
  spent-none zero t p h = refl
  spent-none (suc n) t p h = absurd (omega arith)

  pub spent-step : (n m t p : ℕ) {q : ℕ} → n ≡ m + 1 → step_to g p t ≡ on q → spending n t p ≡ spending m t q
  unfolding copies
  spent-step n m t p h e = rw (h, add-one m, e, copies)

  pub spent-stop : (n t p : ℕ) {r : Answer} → 0 < n → step_to g p t ≡ stop r → spending n t p ≡ stop r
  unfolding copies
  spent-stop zero t p h e = absurd (omega arith)
  spent-stop (suc n) t p h e = rw e

  pub completes-by : (t p : ℕ) {r : Try ℕ} → spent g t (drop t tally) p ≡ r → completes g tally t p ≡ accepts_at g r
  unfolding completes
  completes-by t p e = ap (accepts_at g) e

  -- ---- the three loops
  -- the letters from t on; n more of the letter t, then those
  abbrev pub at_letter : ℕ → ℕ → ℕ → Answer
  at_letter t p s = cross_letters g tally t (drop t tally) p s

  abbrev pub at_copy : ℕ → ℕ → ℕ → ℕ → Answer
  at_copy n t p s = cross_copies g tally n t (λ q u. at_letter (t + 1) q u) p s

  pub letters-end : (t p s : ℕ) → length tally ≤ t → at_letter t p s ≡ closing (drop p g) s
  unfolding cross_letters
  letters-end t p s h = rw (drop_of_length-le tally h)

  pub letters-one : (t p s : ℕ) → t < length tally → at_letter t p s ≡ at_copy (get_or tally t 0) t p s
  unfolding cross_letters
  letters-one t p s h = rw (add-one, drop-cons tally t 0 h)

  pub copies-none : (n t p s : ℕ) → n ≤ 0 → at_copy n t p s ≡ at_letter (t + 1) p s
  unfolding cross_copies
  copies-none zero t p s h = refl
  copies-none (suc n) t p s h = absurd (omega arith)

  pub copies-one : (n m t p s : ℕ) → n ≡ m + 1 → at_copy n t p s ≡ along g tally t (λ q u. at_copy m t q u) (drop p g) p s
  unfolding cross_copies
  copies-one n m t p s h = rw (h, add-one m)

  module _ (t : ℕ) (follows : ℕ → ℕ → Answer) (p s : ℕ) where
    pub node-out : length g ≤ p → along g tally t follows (drop p g) p s ≡ refused 14 []
    unfolding along
    node-out h = rw (drop_of_length-le g h)

    module _ (h : p < length g) where
      pub node_greater : t < tile kbwg (node g p) → along g tally t follows (drop p g) p s ≡ gives (s ∷ [])
      unfolding along
      node_greater k = rw (drop-cons g p 0 h) (rw (lt-ltb t (tile kbwg (node g p)) k, along))

      pub node-no-arc : tile kbwg (node g p) ≡ t → arc kbwg (node g p) ≡ 0 → along g tally t follows (drop p g) p s ≡ gives (s ∷ [])
      unfolding along
      node-no-arc k z =
          rw (drop-cons g p 0 h) (rw (le-ltb t (tile kbwg (node g p)) (omega arith), along)
          (rw (eq-eqb (tile kbwg (node g p)) t k) (rw (eq-eqb (arc kbwg (node g p)) 0 z))))

      pub node-arc : (q : ℕ) → q ≡ arc kbwg (node g p) → tile kbwg (node g p) ≡ t → q ≢ 0 → along g tally t follows (drop p g) p s ≡ follows q s
      unfolding along
      node-arc q e k z =
          rw e (rw (drop-cons g p 0 h) (rw (le-ltb t (tile kbwg (node g p)) (omega arith), along)
          (rw (eq-eqb (tile kbwg (node g p)) t k) (rw (ne_eqb (arc kbwg (node g p)) 0 (λ y. z (e ∙ y)))))))

      module _ (k : tile kbwg (node g p) ≤ t) (m : tile kbwg (node g p) ≢ t) where
        pub node-stop : {r : Answer} → completes g tally t p ≡ stop r → along g tally t follows (drop p g) p s ≡ r
        unfolding along
        node-stop e =
            rw (drop-cons g p 0 h) (rw (le-ltb t (tile kbwg (node g p)) k, along) (rw (ne_eqb (tile kbwg (node g p)) t m) (rw e)))

        -- x: the set with the node's tile, where that completes the letters
        module _ (b : Bool) (e : completes g tally t p ≡ on b) (x : ℕ) (with_it : x ≡ marked s (tile kbwg (node g p)) b) where
          pub node_end : is_end kbwg (node g p) ≡ true → along g tally t follows (drop p g) p s ≡ gives (x ∷ [])
          unfolding along
          node_end z =
              rw with_it (rw (drop-cons g p 0 h) (rw (le-ltb t (tile kbwg (node g p)) k, along)
              (rw (ne_eqb (tile kbwg (node g p)) t m) (rw e (rw z)))))

          pub node-next : is_end kbwg (node g p) ≡ false → along g tally t follows (drop p g) p s ≡ along g tally t follows (drop (p + 1) g) (p + 1) x
          unfolding along
          node-next z =
              rw (with_it, add-one p) (rw (drop-cons g p 0 h) (rw (le-ltb t (tile kbwg (node g p)) k, along)
              (rw (ne_eqb (tile kbwg (node g p)) t m) (rw e (rw z)))))
