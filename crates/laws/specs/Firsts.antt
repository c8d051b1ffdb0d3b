-- Each entry of a list once, at its first appearance, and the place of a number in a list.
use Rattle.std.specs.Prelude.{◌≡◌, refl, true, false, ℕ, suc, ◌+◌, ◌≤◌, ◌<◌, eqb, length, get_or}
use Rattle.std.proofs.Common.{sym, ap, ◌∙◌, subst, ⊎_elim, zero-le, arith, eqb-true, length-append}
use mathlib.Core.List.{List, [], ◌∷◌, ◌++◌, Memᴰ}
use mathlib.Core.List.Memᴰ
use Rattle.std.proofs.lemmas.Bool.{eqb-false}
use Rattle.laws.specs.Cases.{split}
use Rattle.laws.specs.Lists.{member}
use Rattle.laws.specs.Members.{member_mem}

-- the place of x, from 0
abbrev pub place_in : List ℕ → ℕ → ℕ
place_in [] x = 0
place_in (y ∷ ys) x = elim (eqb x y) [ true ↦ 0 | false ↦ suc (place_in ys x) ]

-- after those seen, each number that is not among them, once
abbrev pub firsts : List ℕ → List ℕ → List ℕ
firsts seen [] = seen
firsts seen (x ∷ xs) = elim (member x seen) [ true ↦ firsts seen xs | false ↦ firsts (seen ++ x ∷ []) xs ]

pub place_le : (l : List ℕ) (x : ℕ) → place_in l x ≤ length l
place_le [] x = zero-le
place_le (y ∷ l) x = let h = place_le l x in split (eqb x y) (λ t. rw (t, place_in) zero-le) (λ t. rw (t, place_in) (omega arith))

pub place_lt : (l : List ℕ) (x : ℕ) → Memᴰ x l → place_in l x < length l
place_lt [] x m = absurd (Memᴰ.not-nil m)
place_lt (y ∷ l) x m =
    split (eqb x y)
    (λ t. rw (t, place_in) (omega arith))
    (λ t. let h = place_lt l x (⊎_elim (λ i. absurd (eqb-false x y t i)) (λ k. k) (Memᴰ.cases_cons m)) in rw (t, place_in) (omega arith))

pub place_at : (l : List ℕ) (x : ℕ) → Memᴰ x l → get_or l (place_in l x) 0 ≡ x
place_at [] x m = absurd (Memᴰ.not-nil m)
place_at (y ∷ l) x m =
    split (eqb x y)
    (λ t. rw (t, place_in) (sym (eqb-true x y t)))
    (λ t. rw (t, place_in) (place_at l x (⊎_elim (λ i. absurd (eqb-false x y t i)) (λ k. k) (Memᴰ.cases_cons m))))

pub firsts-keep : (l seen : List ℕ) (x : ℕ) → Memᴰ x seen → Memᴰ x (firsts seen l)
firsts-keep [] seen x m = m
firsts-keep (a ∷ l) seen x m =
    split (member a seen)
    (λ t. rw (t, firsts) (firsts-keep l seen x m))
    (λ t. rw (t, firsts) (firsts-keep l (seen ++ a ∷ []) x (Memᴰ.append_left (a ∷ []) m)))

pub firsts-all : (l seen : List ℕ) (x : ℕ) → Memᴰ x l → Memᴰ x (firsts seen l)
firsts-all [] seen x m = absurd (Memᴰ.not-nil m)
firsts-all (a ∷ l) seen x m =
    split (member a seen)
    (λ t. rw (t, firsts) (⊎_elim
    (λ i. firsts-keep l seen x (Memᴰ.cast i (member_mem a seen t)))
    (λ k. firsts-all l seen x k)
    (Memᴰ.cases_cons m)))
    (λ t. rw (t, firsts) (⊎_elim
    (λ i. firsts-keep l (seen ++ a ∷ []) x (Memᴰ.append_right seen (Memᴰ.head i)))
    (λ k. firsts-all l (seen ++ a ∷ []) x k)
    (Memᴰ.cases_cons m)))

pub firsts-length : (l seen : List ℕ) → length (firsts seen l) ≤ length seen + length l
firsts-length [] seen = omega arith
firsts-length (a ∷ l) seen =
    split (member a seen)
    (λ t. let h = firsts-length l seen in rw (t, firsts) (omega arith))
    (λ t. let h = firsts-length l (seen ++ a ∷ []) in let k = length-append seen (a ∷ []) in rw (t, firsts) (omega arith))

-- what holds of those seen and of the list's numbers holds of the result's
pub firsts-from : (P : ℕ → Type 0) (l seen : List ℕ) → ((x : ℕ) → Memᴰ x seen → P x) → ((x : ℕ) → Memᴰ x l → P x)
    → (x : ℕ) → Memᴰ x (firsts seen l) → P x
firsts-from P [] seen h k x m = h x m
firsts-from P (a ∷ l) seen h k x m =
    split (member a seen)
    (λ t. firsts-from P l seen h (λ y n. k y (Memᴰ.tail n)) x (rw (t, firsts) at m))
    (λ t. firsts-from P l (seen ++ a ∷ [])
    (λ y n. ⊎_elim
    (λ i. h y i)
    (λ i. subst P (sym (Memᴰ.eq_of_singleton i)) (k a (Memᴰ.head refl)))
    (Memᴰ.append_cases seen n))
    (λ y n. k y (Memᴰ.tail n)) x (rw (t, firsts) at m))

-- ---- one after the other: what is seen keeps its place, whatever comes after it
pub firsts-step : (seen xs : List ℕ) (x : ℕ) → firsts seen (x ∷ xs) ≡ firsts (firsts seen (x ∷ [])) xs
firsts-step seen xs x = split (member x seen) (λ m. rw (m, firsts)) (λ m. rw (m, firsts))

pub place_append : (l more : List ℕ) (x : ℕ) → Memᴰ x l → place_in (l ++ more) x ≡ place_in l x
place_append [] more x m = absurd (Memᴰ.not-nil m)
place_append (y ∷ l) more x m =
    split (eqb x y)
    (λ t. rw (t, place_in))
    (λ t. rw (t, place_in) (ap suc (place_append l more x (⊎_elim (λ i. absurd (eqb-false x y t i)) (λ k. k) (Memᴰ.cases_cons m)))))

pub place-stays : (xs seen : List ℕ) (x : ℕ) → Memᴰ x seen → place_in (firsts seen xs) x ≡ place_in seen x
place-stays [] seen x m = refl
place-stays (a ∷ xs) seen x m =
    split (member a seen)
    (λ t. rw (t, firsts) (place-stays xs seen x m))
    (λ t. rw (t, firsts) (place-stays xs (seen ++ a ∷ []) x (Memᴰ.append_left (a ∷ []) m) ∙ place_append seen (a ∷ []) x m))
