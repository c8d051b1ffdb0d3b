-- What holds of tests whether two things are the same: those of numbers and of lists tell which are one.
use Rattle.std.specs.Prelude.{◌≡◌, refl, Bool, true, false, ◌≢◌, List, [], ◌∷◌, ℕ, eqb}
use Rattle.std.proofs.Common.{sym, ap, ap₂, ◌∙◌, true≢false, eqb-true, eq-eqb}
use Rattle.laws.specs.Cases.{split, and_left, and_right}
use Rattle.laws.specs.Same.{Exact, same_list, same}

pub exact-number : Exact eqb
exact-number = record { equal = eqb-true; itself = λ x. eq-eqb x x refl }

module _ {A : Type 0} {test : A → A → Bool} (exact : Exact test) where
  pub exact-apart : (x y : A) → test x y ≡ false → x ≢ y
  exact-apart x y e i = true≢false (sym (exact.itself x) ∙ ap (test x) i ∙ e)

  pub apart-exact : (x y : A) → x ≢ y → test x y ≡ false
  apart-exact x y n = split (test x y) (λ e. absurd (n (exact.equal x y e))) (λ e. e)

module _ {A : Type 0} {test : A → A → Bool} (exact : Exact test) where
  equal-lists : (xs ys : List A) → same_list test xs ys ≡ true → xs ≡ ys
  equal-lists [] [] e = refl
  equal-lists [] (y ∷ ys) e = absurd (true≢false (sym e))
  equal-lists (x ∷ xs) [] e = absurd (true≢false (sym e))
  equal-lists (x ∷ xs) (y ∷ ys) e =
      ap₂ ◌∷◌
      (exact.equal x y (and_left (test x y) (same_list test xs ys) e))
      (equal-lists xs ys (and_right (test x y) (same_list test xs ys) e))

  list-itself : (xs : List A) → same_list test xs xs ≡ true
  list-itself [] = refl
  list-itself (x ∷ xs) = rw (exact.itself x) (list-itself xs)

  pub exact-list : Exact (same_list test)
  exact-list = record { equal = equal-lists; itself = list-itself }

-- ---- lists of numbers
pub exact_same : Exact same
unfolding same
exact_same = exact-list exact-number

pub same_refl : (xs : List ℕ) → same xs xs ≡ true
same_refl = exact_same.itself

pub same_eq : (xs ys : List ℕ) → same xs ys ≡ true → xs ≡ ys
same_eq = exact_same.equal

pub not_same : (xs ys : List ℕ) → xs ≢ ys → same xs ys ≡ false
not_same = apart-exact exact_same
