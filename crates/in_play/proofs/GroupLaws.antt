-- What a group says of its numbers: bit k of the bytes joined from byte i on is that of number 8 * i + k.
use mathlib.Core.Path.{◌≡◌, refl, sym, ap, ap₂, ◌∙◌}
use mathlib.Core.Bool.{not}
use mathlib.Core.List.{List, [], ◌∷◌, ◌++◌}
use Prim.Native.Nat.{ℕ, zero, suc, ◌+◌, ◌-◌, ◌*◌, ◌/◌, ◌%◌, ◌^◌, ◌≤◌, ◌<◌}
use native.Mathlib.Nat.{mod-add-div', mul_assoc, mul_comm, le_trans}
use native.Mathlib.Numerals.{add-one}
use native.Mathlib.Omega.{arith}
use borrow.Author.Tests.{ltb-true, ltb-false, eqb-true, eqb-false}
use lib.Dec.{eqb, ltb, lit<}
use lib.ListN.{length, get_or, take, drop, replicate, length-drop, length-take, get_or-eq_default}
use lib.Pow.{shr-shr, pow-add, pow_mono}
use lib.Seq.{drop-drop, slice, slice-cons, slice_empty, length-slice, get_or-take, get_or-drop}
use Rattle.std.specs.Int.{w64, bit_at, from_le_bytes}
use Rattle.std.specs.Simd.{first_chunks}
use Rattle.std.proofs.lemmas.List.{take_all, take-take, drop-take}
use Rattle.std.proofs.lemmas.Nat.Bits.{bit_at_not}
use Rattle.laws.specs.Bits.{has_bit, zero_bit, low_bit, higher_power}
use Rattle.laws.specs.Cases.{split}
use Rattle.in_play.specs.InPlay.{in_play}
use Rattle.in_play.specs.Groups.{Bytes, joined, clear_bits}

tail_bytes : (b : ℕ) (bs : List ℕ) → Bytes (b ∷ bs) → Bytes bs
tail_bytes b bs h i = h (suc i)

-- ---- bytes joined
pub joined-below : (bs : List ℕ) → Bytes bs → joined bs < 2 ^ (8 * length bs)
joined-below [] h = omega arith
joined-below (b ∷ bs) h =
    let r = joined-below bs (tail_bytes b bs h) in
    let s : 8 * suc (length bs) ≡ 8 + 8 * length bs = omega arith in
    let p : 2 ^ (8 * suc (length bs)) ≡ 256 * 2 ^ (8 * length bs) = ap (λ n. 2 ^ n) s ∙ pow-add 2 8 (8 * length bs) in
    let own : b < 256 = h 0 in
    rw p (omega arith)

joined-low : (b j k : ℕ) → k < 8 → has_bit (b + 256 * j) k ≡ has_bit b k
joined-low b j k h =
    let m = higher_power 8 k h in
    let e : 256 * j ≡ j * m.0 * 2 * 2 ^ k =
    mul_comm 256 j ∙ ap (λ n. j * n) m.1 ∙ sym (mul_assoc j (m.0 * 2) (2 ^ k)) ∙ ap (λ n. n * 2 ^ k) (sym (mul_assoc j m.0 2))
    in
    ap (λ n. eqb ((b + n) / 2 ^ k % 2) 1) e ∙ ap (λ n. eqb n 1) (low_bit b (j * m.0) k)

joined-high : (b j k : ℕ) → b < 256 → 8 ≤ k → has_bit (b + 256 * j) k ≡ has_bit j (k - 8)
joined-high b j k h l =
    let s : k ≡ 8 + (k - 8) = omega arith in
    let q : (b + 256 * j) / 2 ^ 8 ≡ j = omega arith in
    ap (λ n. eqb (n % 2) 1) (ap (λ n. (b + 256 * j) / 2 ^ n) s ∙ sym (shr-shr (b + 256 * j) 8 (k - 8)) ∙ ap (λ n. n / 2 ^ (k - 8)) q)

pub joined-bit : (bs : List ℕ) → Bytes bs → (k : ℕ) → has_bit (joined bs) k ≡ has_bit (get_or bs (k / 8) 0) (k % 8)
joined-bit [] h k = zero_bit k ∙ sym (zero_bit (k % 8))
joined-bit (b ∷ bs) h k =
    split (ltb k 8)
    (λ t.
    let l = ltb-true k 8 t in
    let q : k / 8 ≡ 0 = omega arith in
    let r : k % 8 ≡ k = omega arith in
    joined-low b (joined bs) k l ∙ sym (ap₂ (λ n m. has_bit (get_or (b ∷ bs) n 0) m) q r))
    (λ t.
    let l = ltb-false k 8 t in
    let q : k / 8 ≡ suc ((k - 8) / 8) = omega arith in
    let r : k % 8 ≡ (k - 8) % 8 = omega arith in
    joined-high b (joined bs) k (h 0) l ∙ joined-bit bs (tail_bytes b bs h) (k - 8) ∙ sym (ap₂ (λ n m. has_bit (get_or (b ∷ bs) n 0) m) q r))

not-bit : (v k : ℕ) → not (has_bit v k) ≡ eqb (1 - bit_at v k) 1
not-bit v k =
    split (has_bit v k)
    (λ t. let e : bit_at v k ≡ 1 = eqb-true (bit_at v k) 1 t in rw (t, e))
    (λ t. let n = eqb-false (bit_at v k) 1 t in let e : bit_at v k ≡ 0 = omega arith in rw (t, e))

pub clear-below : (group : ℕ) → clear_bits group < 2 ^ 64
clear-below group = omega arith

-- the lowest d bits of a number
pub low_bits : (v d k : ℕ) → k < d → has_bit v k ≡ has_bit (v % 2 ^ d) k
low_bits v d k h =
    let m = higher_power d k h in
    let e : v % 2 ^ d + v / 2 ^ d * m.0 * 2 * 2 ^ k ≡ v =
    ap (λ n. v % 2 ^ d + n) (ap (λ n. n * 2 ^ k) (mul_assoc (v / 2 ^ d) m.0 2) ∙ mul_assoc (v / 2 ^ d) (m.0 * 2) (2 ^ k) ∙ ap (λ n. v / 2 ^ d * n) (sym m.1))
    ∙ mod-add-div' v (2 ^ d)
    in
    ap (λ n. eqb (n / 2 ^ k % 2) 1) (sym e) ∙ ap (λ n. eqb n 1) (low_bit (v % 2 ^ d) (v / 2 ^ d * m.0) k)

-- ---- groups of the record
module _ (bits : List ℕ) (bytes : Bytes bits) where
  part_bytes : (i end : ℕ) → Bytes (slice i end bits)
  part_bytes i end j =
      rw (get_or-drop i (take end bits) j 0)
      (split (ltb (i + j) end)
      (λ t. rw (get_or-take end bits (i + j) 0 (ltb-true (i + j) end t)) (bytes (i + j)))
      (λ t.
      let past = ltb-false (i + j) end t in
      let size = length-take end bits in
      rw (get_or-eq_default (take end bits) 0 {n = i + j} (omega arith)) (lit< tt)))

  pub group-bit : (i end k : ℕ) → 8 * i + k < 8 * end → has_bit (joined (slice i end bits)) k ≡ in_play bits (8 * i + k)
  group-bit i end k h =
      let q : (8 * i + k) / 8 ≡ i + k / 8 = omega arith in
      let r : (8 * i + k) % 8 ≡ k % 8 = omega arith in
      joined-bit (slice i end bits) (part_bytes i end) k
      ∙ ap (λ b. has_bit b (k % 8)) (get_or-drop i (take end bits) (k / 8) 0 ∙ get_or-take end bits (i + k / 8) 0 (omega arith))
      ∙ sym (ap₂ (λ n m. has_bit (get_or bits n 0) m) q r)

  pub part-below : (i end m : ℕ) → end ≤ i + m → joined (slice i end bits) < 2 ^ (8 * m)
  part-below i end m h =
      let taken = length-take end bits in
      let size = length-drop i (take end bits) in
      le_trans (joined-below (slice i end bits) (part_bytes i end)) (pow_mono {j = 8 * m} (omega arith))

  -- the clear bits of at most eight bytes tell which numbers are not in play
  module _ (i end : ℕ) (few : end ≤ i + 8) where
    pub clear-bit : (k : ℕ) → 8 * i + k < 8 * end → not (in_play bits (8 * i + k)) ≡ has_bit (clear_bits (joined (slice i end bits))) k
    clear-bit k h =
        let small = part-below i end 8 few in
        let other = bit_at_not w64 (joined (slice i end bits)) k small (omega arith) in
        ap not (sym (group-bit i end k h)) ∙ not-bit (joined (slice i end bits)) k ∙ ap (λ n. eqb n 1) (sym other)

-- ---- a group byte by byte
module _ (bits : List ℕ) (end : ℕ) (lent : end ≤ length bits) where
  pub joined-from : (i : ℕ) → i < end → joined (slice i end bits) ≡ get_or bits i 0 + 256 * joined (slice (i + 1) end bits)
  joined-from i h = rw (slice-cons i end bits 0 h lent, add-one)

  pub joined-none : joined (slice end end bits) ≡ 0
  joined-none = ap joined (slice_empty end bits)

-- eight bytes as the library joins them
pub joined_eight : (bs : List ℕ) → length bs ≡ 8 → from_le_bytes w64 bs ≡ joined bs
joined_eight bs e =
    let lent : 8 ≤ length bs = omega arith in
    let at_0 = joined-from bs 8 lent 0 (omega arith) in
    let at_1 = joined-from bs 8 lent 1 (omega arith) in
    let at_2 = joined-from bs 8 lent 2 (omega arith) in
    let at_3 = joined-from bs 8 lent 3 (omega arith) in
    let at_4 = joined-from bs 8 lent 4 (omega arith) in
    let at_5 = joined-from bs 8 lent 5 (omega arith) in
    let at_6 = joined-from bs 8 lent 6 (omega arith) in
    let at_7 = joined-from bs 8 lent 7 (omega arith) in
    let none = joined-none bs 8 lent in
    let all : joined (slice 0 8 bs) ≡ joined bs = ap joined (take_all 8 bs (omega arith)) in
    omega arith

-- the eighth part of a record
pub group-there : {X : Type 0} (count : ℕ) (l : List X) (g : ℕ) (d : List X) → g < count → get_or (first_chunks 8 count l) g d ≡ take 8 (drop (g * 8) l)
group-there zero l g d h = absurd (omega arith)
group-there (suc count) l zero d h = refl
group-there (suc count) l (suc g) d h =
    let e : 8 + g * 8 ≡ suc g * 8 = omega arith in
    group-there count (drop 8 l) g d (omega arith) ∙ ap (take 8) (drop-drop (g * 8) 8 l ∙ ap (λ n. drop n l) e)

-- a group of a record as the library joins it
pub group_joined : (bits : List ℕ) (count g : ℕ) {groups : List (List ℕ)} → groups ≡ first_chunks 8 count (take (count * 8) bits)
    → g < count → count * 8 ≤ length bits → from_le_bytes w64 (get_or groups g []) ≡ joined (slice (g * 8) (g * 8 + 8) bits)
group_joined bits count g {groups} e h lent =
    let part : get_or groups g [] ≡ slice (g * 8) (g * 8 + 8) bits =
    ap (λ l. get_or l g []) e
    ∙ group-there count (take (count * 8) bits) g [] h
    ∙ sym (drop-take (g * 8) 8 (take (count * 8) bits))
    ∙ ap (drop (g * 8)) (take-take (g * 8 + 8) (count * 8) bits (omega arith)) in
    ap (from_le_bytes w64) part ∙ joined_eight (slice (g * 8) (g * 8 + 8) bits) (omega (arith, length-slice (g * 8) (g * 8 + 8) bits (omega arith)))

-- bytes that are 0 add nothing
pub joined_zeros : (bs : List ℕ) (n : ℕ) → joined (bs ++ replicate n 0) ≡ joined bs
joined_zeros [] zero = refl
joined_zeros [] (suc n) = let r = joined_zeros [] n in omega arith
joined_zeros (b ∷ bs) n = ap (λ j. b + 256 * j) (joined_zeros bs n)
