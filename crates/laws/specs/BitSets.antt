-- A set of numbers as one number: bit t stands for t.
use Rattle.std.specs.Prelude.{◌≡◌, refl, Bool, true, false, ◌||◌, ℕ, zero, suc, ◌+◌, ◌*◌, ◌/◌, ◌%◌, ◌^◌, ◌≤◌, ◌<◌, max, eqb}
use Rattle.std.proofs.Common.{sym, ap, ap₂, ◌∙◌, one-mul, arith, lit<, pow_pos, shl_exact}
use Rattle.std.proofs.Math.Bool.{or_comm}
use mathlib.Core.List.{List, [], ◌∷◌, map, Memᴰ}
use Rattle.std.specs.Int.Bits.{bit_or, or_step}
use Rattle.std.proofs.lemmas.Nat.{or_lt}
use Rattle.std.specs.Int.Bits as bits
use Rattle.std.proofs.Math.Pow.{pow-lt}
use Rattle.laws.specs.Bits.{has_bit, zero_bit, power_bit, or_bit}
use Rattle.laws.specs.Cases.{split}
use Rattle.laws.specs.Lists.{filtered, member}

-- with t, where the test holds
abbrev pub marked : ℕ → ℕ → Bool → ℕ
marked s t true = bit_or s (2 ^ t)
marked s t false = s

unfoldable pub bit_set : List ℕ → ℕ
bit_set [] = 0
bit_set (t ∷ ts) = marked (bit_set ts) t true

-- the set of what f gives of those that pass the test, with one before them
pub bit-set-with : {A : Type 0} (f : A → ℕ) (test : A → Bool) (v : A) (vs : List A)
    → bit_set (map f (filtered test (v ∷ vs))) ≡ marked (bit_set (map f (filtered test vs))) (f v) (test v)
unfolding bit_set
bit-set-with f test v vs = split (test v) (λ y. rw (y, filtered)) (λ y. rw (y, filtered))

-- what the number means
pub bit-set-bit : (ts : List ℕ) (t : ℕ) → has_bit (bit_set ts) t ≡ member t ts
unfolding bit_set
bit-set-bit [] t = zero_bit t
bit-set-bit (u ∷ ts) t =
    or_bit (bit_set ts) (2 ^ u) t ∙ ap₂ ◌||◌ (bit-set-bit ts t) (power_bit u t) ∙ or_comm (member t ts) (eqb t u)

-- a set of numbers below n is below 2 ^ n
pub bit-set-below : (n : ℕ) (ts : List ℕ) → ((t : ℕ) → Memᴰ t ts → t < n) → bit_set ts < 2 ^ n
unfolding bit_set
bit-set-below n [] h = pow_pos n
bit-set-below n (t ∷ ts) h =
    or_lt n (bit_set ts) (2 ^ t) (bit-set-below n ts (λ u m. h u (Memᴰ.tail m))) (pow-lt (h t (Memᴰ.head refl)))

-- ---- sets joined in another order
or_half : (a b : ℕ) → bit_or a b / 2 ≡ bit_or (a / 2) (b / 2)
or_half a b = let e = or_step a b in omega arith

or_odd : (a b : ℕ) → bit_or a b % 2 ≡ max (a % 2) (b % 2)
or_odd a b = let e = or_step a b in omega arith

assoc-below : (n a b c : ℕ) → a ≤ n → b ≤ n → c ≤ n → bit_or (bit_or a b) c ≡ bit_or a (bit_or b c)
assoc-below zero zero zero c h k l = refl
assoc-below zero (suc a) b c h k l = absurd (omega arith)
assoc-below zero zero (suc b) c h k l = absurd (omega arith)
assoc-below (suc n) a b c h k l =
    let low : max (max (a % 2) (b % 2)) (c % 2) ≡ max (a % 2) (max (b % 2) (c % 2)) = omega arith in
    let high = assoc-below n (a / 2) (b / 2) (c / 2) (omega arith) (omega arith) (omega arith) in
    or_step (bit_or a b) c ∙ rw (or_half a b, or_odd a b, low, high) (sym (or_step a (bit_or b c) ∙ rw (or_half b c, or_odd b c)))

bit_or_assoc : (a b c : ℕ) → bit_or (bit_or a b) c ≡ bit_or a (bit_or b c)
bit_or_assoc a b c = assoc-below (a + b + c) a b c (omega arith) (omega arith) (omega arith)

-- a number marked in the one set or in the other
pub marked_either : (s rest t : ℕ) (b : Bool) → bit_or s (marked rest t b) ≡ bit_or (marked s t b) rest
marked_either s rest t true = ap (bit_or s) (bits.or_comm rest (2 ^ t)) ∙ sym (bit_or_assoc s (2 ^ t) rest)
marked_either s rest t false = refl

-- a number marked by a shift in 64 bits
pub marked_shift : (s t : ℕ) → t < 64 → bit_or s (1 * 2 ^ t % 2 ^ 64) ≡ marked s t true
marked_shift s t h = ap (bit_or s) (shl_exact {a = 1} 1 t 64 (lit< tt) (omega arith) ∙ one-mul (2 ^ t))
