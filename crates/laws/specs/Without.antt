-- A list without one number, and the numbers below a bound: what an argument by exhaustion counts down.
use Rattle.std.specs.Prelude.{◌≡◌, refl, true, false, ◌≢◌, ℕ, zero, suc, ◌≤◌, ◌<◌, eqb, length}
use Rattle.std.proofs.Common.{sym, ap, ◌∙◌, ⊎_elim, zero-le, arith, eqb-true}
use mathlib.Core.List.Memᴰ
use mathlib.Core.List.{List, [], ◌∷◌, Memᴰ}
use Rattle.std.proofs.lemmas.Bool.{eqb-false}
use Rattle.laws.specs.Cases.{split}

unfoldable pub without : ℕ → List ℕ → List ℕ
without p [] = []
without p (x ∷ xs) = elim (eqb x p) [ true ↦ without p xs | false ↦ x ∷ without p xs ]

without_le : (p : ℕ) (xs : List ℕ) → length (without p xs) ≤ length xs
unfolding without
without_le p [] = zero-le
without_le p (x ∷ xs) =
    let h = without_le p xs in
    split (eqb x p) (λ e. rw (e, without) (omega arith)) (λ e. rw (e, without) (omega arith))

pub without_lt : (p : ℕ) (xs : List ℕ) → Memᴰ p xs → length (without p xs) < length xs
unfolding without
without_lt p [] m = absurd (Memᴰ.not-nil m)
without_lt p (x ∷ xs) m =
    let h = without_le p xs in
    split (eqb x p)
    (λ e. rw (e, without) (omega arith))
    (λ e. rw (e, without) (⊎_elim
    (λ i. absurd (eqb-false x p e (sym i)))
    (λ t. let k = without_lt p xs t in omega arith)
    (Memᴰ.cases_cons m)))

pub without-keeps : (p x : ℕ) (xs : List ℕ) → x ≢ p → Memᴰ x xs → Memᴰ x (without p xs)
unfolding without
without-keeps p x [] n m = m
without-keeps p x (y ∷ xs) n m =
    split (eqb y p)
    (λ e. rw (e, without) (⊎_elim
    (λ i. absurd (n (i ∙ eqb-true y p e)))
    (λ t. without-keeps p x xs n t)
    (Memᴰ.cases_cons m)))
    (λ e. rw (e, without) (⊎_elim
    (λ i. Memᴰ.head i)
    (λ t. Memᴰ.tail (without-keeps p x xs n t))
    (Memᴰ.cases_cons m)))

unfoldable pub below : ℕ → List ℕ
below zero = []
below (suc n) = n ∷ below n

pub length-below : (n : ℕ) → length (below n) ≡ n
unfolding below
length-below zero = refl
length-below (suc n) = ap suc (length-below n)

pub in_below : (n x : ℕ) → x < n → Memᴰ x (below n)
unfolding below
in_below zero x h = absurd (omega arith)
in_below (suc n) x h =
    split (eqb x n)
    (λ e. Memᴰ.head (eqb-true x n e))
    (λ e. let k : x ≢ n = eqb-false x n e in Memᴰ.tail (in_below n x (omega arith)))

-- a list that has every number below n has n entries or more
pub covers_length : (n : ℕ) (xs : List ℕ) → ((x : ℕ) → x < n → Memᴰ x xs) → n ≤ length xs
covers_length zero xs h = zero-le
covers_length (suc n) xs h =
    let less = without_lt n xs (h n (omega arith)) in
    let r = covers_length n (without n xs) (λ x l. without-keeps n x xs (λ e. omega arith) (h x (omega arith))) in
    omega arith
