-- Single bits of a number, counted from 0, the lowest.
use Rattle.std.specs.Prelude.{◌≡◌, refl, Bool, true, false, ◌||◌, not, ◌≢◌, ℕ, zero, suc, ◌+◌, ◌-◌, ◌*◌, ◌%◌, ◌/◌, ◌^◌, ◌<◌, eqb, ltb}
use Rattle.std.proofs.Common.{sym, ap, ◌∙◌, zero-add, pow-suc, mul_comm, mul_assoc, arith, eqb-true, ltb-true, ltb-false, pow_pos, pow-add}
use Rattle.std.proofs.Math.Nat.{add-mul-div_right, add-mul-mod_self_right, div-eq_of_lt, zero-div}
use Rattle.std.proofs.lemmas.Bool.{eqb-false}
use Rattle.std.specs.Int.Bits.{bit_or, bit_xor}
use Rattle.std.proofs.lemmas.Nat.{or_shr, or_mod, xor_shr, xor_mod}
use Rattle.std.proofs.Math.Pow.{pow-lt, ones_split, ones_lt, high}
use Rattle.laws.specs.Cases.{split}

abbrev pub has_bit : ℕ → ℕ → Bool
has_bit v r = eqb (v / 2 ^ r % 2) 1

-- the bit at the top
pub top_bit : (x n : ℕ) → x < 2 ^ n → (x + 2 ^ n) / 2 ^ n % 2 ≡ 1
top_bit x n h =
    let e : x + 2 ^ n ≡ x + 1 * 2 ^ n = omega arith in
    ap (λ k. k / 2 ^ n % 2) e ∙ ap (λ k. k % 2) (add-mul-div_right x 1 (pow_pos n) ∙ ap (λ k. k + 1) (div-eq_of_lt h))

-- a multiple of 2 ^ (r + 1) does not touch bit r
pub low_bit : (x m r : ℕ) → (x + m * 2 * 2 ^ r) / 2 ^ r % 2 ≡ x / 2 ^ r % 2
low_bit x m r = ap (λ k. k % 2) (add-mul-div_right x (m * 2) (pow_pos r)) ∙ add-mul-mod_self_right (x / 2 ^ r) m 2

-- and a higher power of two is one
pub higher_power : (n r : ℕ) → r < n → (m : ℕ) × (2 ^ n ≡ m * 2 * 2 ^ r)
higher_power n r h =
    let e : n ≡ (n - suc r) + suc r = omega arith in
    let a = ap (λ k. 2 ^ k) e ∙ pow-add 2 (n - suc r) (suc r) ∙ ap (λ k. 2 ^ (n - suc r) * k) (pow-suc 2 r) in
    (2 ^ (n - suc r), a ∙ ap (λ k. 2 ^ (n - suc r) * k) (mul_comm (2 ^ r) 2) ∙ sym (mul_assoc (2 ^ (n - suc r)) 2 (2 ^ r)))

zero_rest : (r : ℕ) → 0 / 2 ^ r % 2 ≡ 0
zero_rest r = ap (λ k. k % 2) (zero-div (2 ^ r))

pub zero_bit : (r : ℕ) → has_bit 0 r ≡ false
zero_bit r = ap (λ k. eqb k 1) (zero_rest r)

other_power : (t r : ℕ) → r ≢ t → 2 ^ t / 2 ^ r % 2 ≡ 0
other_power t r n =
    split (ltb r t)
    (λ l. let m = higher_power t r (ltb-true r t l) in
    ap (λ k. k / 2 ^ r % 2) (m.1 ∙ sym (zero-add (m.0 * 2 * 2 ^ r))) ∙ low_bit 0 m.0 r ∙ zero_rest r)
    (λ l. let h : t < r = let k = ltb-false r t l in omega arith in ap (λ k. k % 2) (div-eq_of_lt (pow-lt h)))

pub power_bit : (t r : ℕ) → has_bit (2 ^ t) r ≡ eqb r t
power_bit t r =
    split (eqb r t)
    (λ e. rw e (rw (eqb-true r t e) (ap (λ k. eqb (k / 2 ^ t % 2) 1) (sym (zero-add (2 ^ t))) ∙ ap (λ k. eqb k 1) (top_bit 0 t (pow_pos t)))))
    (λ e. rw e (ap (λ k. eqb k 1) (other_power t r (eqb-false r t e))))

or_of_bits : (x y : ℕ) → x < 2 → y < 2 → eqb (bit_or x y) 1 ≡ eqb x 1 || eqb y 1
or_of_bits zero zero h k = refl
or_of_bits zero (suc zero) h k = refl
or_of_bits (suc zero) zero h k = refl
or_of_bits (suc zero) (suc zero) h k = refl
or_of_bits (suc (suc x)) y h k = absurd (omega arith)
or_of_bits zero (suc (suc y)) h k = absurd (omega arith)
or_of_bits (suc zero) (suc (suc y)) h k = absurd (omega arith)

pub or_bit : (a b r : ℕ) → has_bit (bit_or a b) r ≡ has_bit a r || has_bit b r
or_bit a b r =
    ap (λ k. eqb k 1) (ap (λ k. k % 2) (or_shr a b r) ∙ or_mod (a / 2 ^ r) (b / 2 ^ r) 1)
    ∙ or_of_bits (a / 2 ^ r % 2) (b / 2 ^ r % 2) (omega arith) (omega arith)

-- a, turned over where b holds
abbrev pub turned_if : Bool → Bool → Bool
turned_if a true = not a
turned_if a false = a

xor_of_bits : (x y : ℕ) → x < 2 → y < 2 → eqb (bit_xor x y) 1 ≡ turned_if (eqb x 1) (eqb y 1)
xor_of_bits zero zero h k = refl
xor_of_bits zero (suc zero) h k = refl
xor_of_bits (suc zero) zero h k = refl
xor_of_bits (suc zero) (suc zero) h k = refl
xor_of_bits (suc (suc x)) y h k = absurd (omega arith)
xor_of_bits zero (suc (suc y)) h k = absurd (omega arith)
xor_of_bits (suc zero) (suc (suc y)) h k = absurd (omega arith)

pub xor_bit : (a b r : ℕ) → has_bit (bit_xor a b) r ≡ turned_if (has_bit a r) (has_bit b r)
xor_bit a b r =
    ap (λ k. eqb k 1) (ap (λ k. k % 2) (xor_shr a b r) ∙ xor_mod (a / 2 ^ r) (b / 2 ^ r) 1)
    ∙ xor_of_bits (a / 2 ^ r % 2) (b / 2 ^ r % 2) (omega arith) (omega arith)

-- a number whose n bits are all set
pub ones_bit : (n r : ℕ) → r < n → has_bit (2 ^ n - 1) r ≡ true
ones_bit n r h =
    let s : n ≡ suc (n - suc r) + r = omega arith in
    let p = pow-suc 2 (n - suc r) in
    let odd : (2 ^ suc (n - suc r) - 1) % 2 ≡ 1 = let q = pow_pos (n - suc r) in omega arith in
    ap (λ k. eqb (k / 2 ^ r % 2) 1) (ap (λ k. 2 ^ k - 1) s ∙ ones_split (suc (n - suc r)) r)
    ∙ ap (λ k. eqb (k % 2) 1) (high (2 ^ suc (n - suc r) - 1) r (ones_lt r)) ∙ ap (λ k. eqb k 1) odd
