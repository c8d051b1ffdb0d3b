-- When a stored answer is the one given: number by number, with none missing and none left over.
use Rattle.std.specs.Prelude.{◌≡◌, refl, Bool, true, false, ◌&&◌, List, [], ◌∷◌, ◌++◌, ℕ, eqb, length, take, drop}
use Rattle.stored.specs.declared.answers.Verdict.{Verdict}
unfoldable pub use Rattle.laws.specs.Same.{same}

abbrev pub verdict_of : Bool → Verdict
verdict_of true = Verdict.Same
verdict_of false = Verdict.Different

after : (b c d e : Bool) → c ≡ d && e → b && c ≡ (b && d) && e
after true c d e h = h
after false c d e h = refl

-- a list is two, one after the other, where its parts are
pub same-append : (stored xs ys : List ℕ) → same stored (xs ++ ys) ≡ same (take (length xs) stored) xs && same (drop (length xs) stored) ys
unfolding same
same-append stored [] ys = refl
same-append [] (x ∷ xs) ys = refl
same-append (s ∷ ss) (x ∷ xs) ys = after (eqb s x) _ (same (take (length xs) ss) xs) (same (drop (length xs) ss) ys) (same-append ss xs ys)

-- so it is compared by its front and the rest
module _ (stored xs ys : List ℕ) {starts : Bool} (s : starts ≡ same (take (length xs) stored) xs) where
  pub then-rest : {back : List ℕ} {r : Bool} → starts ≡ true → back ≡ drop (length xs) stored → r ≡ same back ys → r ≡ same stored (xs ++ ys)
  then-rest t b e = rw (same-append stored xs ys, ← s, t, ← b) e

  pub not-front : starts ≡ false → starts ≡ same stored (xs ++ ys)
  not-front t = rw (same-append stored xs ys, ← s, t)
