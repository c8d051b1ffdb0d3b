-- Decimal digits one by one: how many there are, that they are digits, and what is read back.
use Rattle.std.specs.Prelude.{◌≡◌, refl, List, [], ◌∷◌, ◌++◌, ℕ, zero, suc, ◌+◌, ◌-◌, ◌*◌, ◌/◌, ◌%◌, ◌^◌, ◌≤◌, ◌<◌, ltb, length}
use Rattle.std.proofs.Common.{ap, ◌∙◌, subst, zero-le, pow-suc, div-lt_iff_lt-mul, arith, lit<, ltb-true, ltb-false, lt-ltb, le-ltb, length-append}
use Rattle.laws.specs.Cases.{split}
use Rattle.laws.specs.Lists.{All, all_append}
use Rattle.decimal.specs.Decimal.{decimal_within, decimal, from_decimal}

-- more digits than enough change nothing
within-enough : (k m n : ℕ) → n < k → n < m → decimal_within k n ≡ decimal_within m n
unfolding decimal_within
within-enough zero m n h i = absurd (omega arith)
within-enough (suc k) zero n h i = absurd (omega arith)
within-enough (suc k) (suc m) n h i =
    split (ltb n 10)
    (λ t. rw (t, decimal_within))
    (λ t. let b = ltb-false n 10 t in
    rw (t, decimal_within) (ap (◌++ (0x30 + n % 10) ∷ []) (within-enough k m (n / 10) (omega arith) (omega arith))))

pub decimal-one : (n : ℕ) → n < 10 → decimal n ≡ (0x30 + n) ∷ []
unfolding decimal decimal_within
decimal-one n h = rw (lt-ltb n 10 h, decimal_within)

pub decimal-more : (n : ℕ) → 10 ≤ n → decimal n ≡ decimal (n / 10) ++ (0x30 + n % 10) ∷ []
unfolding decimal decimal_within
decimal-more n h =
    rw (le-ltb n 10 h, decimal_within)
    (ap (◌++ (0x30 + n % 10) ∷ []) (within-enough n (suc (n / 10)) (n / 10) (omega arith) (omega arith)))

-- ---- how many there are
-- a number below 10 ^ k has at most k digits
more-length : (k m n : ℕ) → ((i : ℕ) → i < 10 ^ k → length (decimal_within m i) ≤ k) → 10 ≤ n → n < 10 ^ suc k
    → length (decimal_within m (n / 10) ++ (0x30 + n % 10) ∷ []) ≤ suc k
more-length k m n ih b h =
    let l = ih (n / 10) ((div-lt_iff_lt-mul (lit< tt)).1 (subst (λ x. n < x) (pow-suc 10 k) h)) in
    rw length-append (omega arith)

within-length : (k m n : ℕ) → n < 10 ^ suc k → length (decimal_within m n) ≤ suc k
unfolding decimal_within
within-length k zero n h = zero-le
within-length zero (suc m) n h = rw (lt-ltb n 10 h, decimal_within) (omega arith)
within-length (suc k) (suc m) n h =
    split (ltb n 10)
    (λ t. rw (t, decimal_within) (omega arith))
    (λ t. rw (t, decimal_within) (more-length (suc k) m n (within-length k m) (ltb-false n 10 t) h))

pub decimal-length : (k n : ℕ) → n < 10 ^ suc k → length (decimal n) ≤ suc k
unfolding decimal
decimal-length k n h = within-length k (suc n) n h

pub length-one : (n : ℕ) → n < 10 → length (decimal n) ≡ 1
length-one n h = ap length (decimal-one n h)

pub length_more : (n : ℕ) → 10 ≤ n → length (decimal n) ≡ length (decimal (n / 10)) + 1
length_more n h = ap length (decimal-more n h) ∙ length-append (decimal (n / 10)) ((0x30 + n % 10) ∷ [])

-- one from 10 ^ k on and below 10 ^ (k + 1) has k + 1
pub decimal-count : (k n : ℕ) → 10 ^ k ≤ n → n < 10 * 10 ^ k → length (decimal n) ≡ suc k
decimal-count zero n h i = length-one n (omega arith)
decimal-count (suc k) n h i =
    let p = pow-suc 10 k in
    let low : 10 ^ k ≤ n / 10 = omega arith in
    let high : n / 10 < 10 * 10 ^ k = omega arith in
    let some : 10 ≤ n = omega (arith, decimal-count k (n / 10) low high) in
    length_more n some ∙ omega (arith, decimal-count k (n / 10) low high)

-- ---- from a number's tenth to the number
module _ (P : ℕ → Type 0) (one : (n : ℕ) → n < 10 → P n) (more : (n : ℕ) → 10 ≤ n → P (n / 10) → P n) where
  tenths_below : (k n : ℕ) → n < k → P n
  tenths_below zero n h = absurd (omega arith)
  tenths_below (suc k) n h =
      split (ltb n 10)
      (λ t. one n (ltb-true n 10 t))
      (λ t. let b = ltb-false n 10 t in more n b (tenths_below k (n / 10) (omega arith)))

  -- what holds of each number below 10, and of each other if of its tenth, holds of every number
  pub by_tenths : (n : ℕ) → P n
  by_tenths n = tenths_below (suc n) n (omega arith)

pub decimal-some : (n : ℕ) → 0 < length (decimal n)
decimal-some =
    by_tenths (λ n. 0 < length (decimal n)) (λ n h. omega (arith, length-one n h)) (λ n h i. omega (arith, length_more n h))

pub decimal-digits : (n : ℕ) → All (λ b. (0x30 ≤ b) × (b ≤ 0x39)) (decimal n)
decimal-digits =
    by_tenths (λ n. All (λ b. (0x30 ≤ b) × (b ≤ 0x39)) (decimal n))
    (λ n h. rw (decimal-one n h) ((omega arith, omega arith), tt))
    (λ n h i. rw (decimal-more n h) (all_append _ (decimal (n / 10)) ((0x30 + n % 10) ∷ []) i ((omega arith, omega arith), tt)))

-- ---- what is read back
from_more : (bs : List ℕ) (v b : ℕ) → from_decimal v (bs ++ b ∷ []) ≡ from_decimal v bs * 10 + (b - 0x30)
from_more [] v b = refl
from_more (a ∷ bs) v b = from_more bs (v * 10 + (a - 0x30)) b

pub decimal-value : (n : ℕ) → from_decimal 0 (decimal n) ≡ n
decimal-value =
    by_tenths (λ n. from_decimal 0 (decimal n) ≡ n)
    (λ n h. ap (from_decimal 0) (decimal-one n h) ∙ omega arith)
    (λ n h i. ap (from_decimal 0) (decimal-more n h) ∙ from_more (decimal (n / 10)) 0 (0x30 + n % 10) ∙ omega (arith, i))
