-- Tests whether two things are the same: what such a test must do, and the test of two lists, entry by entry.
use Rattle.std.specs.Prelude.{◌≡◌, Bool, true, false, ◌&&◌, List, [], ◌∷◌, ℕ, eqb}

-- it tells which things are one
pub record Exact {A : Type 0} (test : A → A → Bool) : Type 0 where
  pub equal : (x y : A) → test x y ≡ true → x ≡ y
  pub itself : (x : A) → test x x ≡ true

abbrev pub same_list : {A : Type 0} → (A → A → Bool) → List A → List A → Bool
same_list test [] [] = true
same_list test [] (y ∷ ys) = false
same_list test (x ∷ xs) [] = false
same_list test (x ∷ xs) (y ∷ ys) = test x y && same_list test xs ys

-- ---- lists of numbers
unfoldable pub same : List ℕ → List ℕ → Bool
same xs ys = same_list eqb xs ys
