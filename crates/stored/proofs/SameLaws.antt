-- Lists of one length compared entry by entry.
use Rattle.std.proofs.Common.{◌≡◌, refl, ℕ, Bool, true, false, ◌&&◌, List, [], ◌∷◌, length, map, eqb, arith}
use Rattle.std.specs.List.{list_all, zip}
use Rattle.stored.specs.Answers.{same}

and_false : (b : Bool) → false ≡ b && false
and_false true = refl
and_false false = refl

module _ {A : Type 0} (value : A → ℕ) where
  abbrev pub each_same : List ℕ → List A → Bool
  each_same stored list = list_all (λ (p : ℕ × A). eqb p.0 (value p.1)) (zip stored list)

  pub same-each : (stored : List ℕ) (list : List A) → length stored ≡ length list → each_same stored list ≡ same stored (map value list)
  unfolding same
  same-each [] [] h = refl
  same-each [] (y ∷ ys) h = absurd (omega arith)
  same-each (x ∷ xs) [] h = absurd (omega arith)
  same-each (x ∷ xs) (y ∷ ys) h = rw (same-each xs ys (omega arith))

  pub other_length : (stored : List ℕ) (list : List A) → (length stored ≡ length list → ⊥) → false ≡ same stored (map value list)
  unfolding same
  other_length [] [] h = absurd (h refl)
  other_length [] (y ∷ ys) h = refl
  other_length (x ∷ xs) [] h = refl
  other_length (x ∷ xs) (y ∷ ys) h = rw (← other_length xs ys (λ e. h (omega arith))) (and_false (eqb x (value y)))
