-- Numbers in a row that pass a test, where the test is told by the bits of a number: there are as many as it has bits set, and the first is
-- at its lowest.
use mathlib.Core.Path.{◌≡◌, refl, sym, ap, ◌∙◌}
use mathlib.Core.Bool.{Bool}
use mathlib.Core.Logic.{◌≢◌}
use mathlib.Core.List.{List, ◌∷◌, ◌++◌}
use Prim.Native.Nat.{ℕ, zero, suc, ◌+◌, ◌/◌, ◌%◌, ◌^◌, ◌≤◌, ◌<◌}
use native.Mathlib.Omega.{arith}
use borrow.Author.Tests.{eqb-true, eqb-false}
use lib.Count.{ones, ones_step, count_trailing_zeros}
use lib.Dec.{eqb}
use lib.ListN.{length}
use lib.Pow.{shr-shr, shr_lt}
use Rattle.laws.specs.Bits.{has_bit}
use Rattle.laws.specs.Cases.{split}
use Rattle.laws.specs.Lists.{filtered}
use Rattle.in_play.specs.InPlay.{up_from}
use Rattle.in_play.specs.Groups.{first_or}

half : (d v : ℕ) → v < 2 ^ suc d → v / 2 < 2 ^ d
half d v h = let o : suc d ≡ d + 1 = omega arith in shr_lt d 1 (rw o at h)

module _ (f : ℕ → Bool) where
  -- the test of d numbers from the first on is told by the bits of v
  abbrev pub ToldBy : ℕ → ℕ → ℕ → Type 0
  ToldBy d first v = (k : ℕ) → k < d → f (first + k) ≡ has_bit v k

  told-next : (d first v : ℕ) → ToldBy (suc d) first v → ToldBy d (suc first) (v / 2)
  told-next d first v e k h =
      let s : suc first + k ≡ first + suc k = omega arith in
      let o : 1 + k ≡ suc k = omega arith in
      ap f s ∙ e (suc k) (omega arith) ∙ ap (λ m. eqb (m % 2) 1) (ap (λ n. v / 2 ^ n) (sym o) ∙ sym (shr-shr v 1 k))

  told-first : (d first v : ℕ) → ToldBy (suc d) first v → f first ≡ eqb (v % 2) 1
  told-first d first v e =
      let s : first ≡ first + 0 = omega arith in
      let o : v / 2 ^ 0 ≡ v = omega arith in
      ap f s ∙ e 0 (omega arith) ∙ ap (λ m. eqb (m % 2) 1) o

  pub told-count : (d first v : ℕ) → v < 2 ^ d → ToldBy d first v → length (filtered f (up_from first d)) ≡ ones v
  unfolding ones
  told-count zero first v h e = let z : v ≡ 0 = omega arith in rw z refl
  told-count (suc d) first v h e =
      let r = told-count d (suc first) (v / 2) (half d v h) (told-next d first v e) in
      let b = told-first d first v e in
      let s = ones_step v in
      split (eqb (v % 2) 1)
      (λ t. let o = eqb-true (v % 2) 1 t in rw (b ∙ t, filtered) (omega arith))
      (λ t. let o = eqb-false (v % 2) 1 t in let z : v % 2 ≡ 0 = omega arith in rw (b ∙ t, filtered) (omega arith))

  -- among w bits, of which no more than d are in use
  pub told-lowest : (d w first v : ℕ) → d ≤ w → v < 2 ^ d → v ≢ 0 → ToldBy d first v → (rest : List ℕ) (z : ℕ)
      → first_or z (filtered f (up_from first d) ++ rest) ≡ first + count_trailing_zeros w v
  unfolding count_trailing_zeros
  told-lowest zero w first v l h n e rest z = absurd (n (omega arith))
  told-lowest (suc d) zero first v l h n e rest z = absurd (omega arith)
  told-lowest (suc d) (suc w) first v l h n e rest z =
      let b = told-first d first v e in
      split (eqb (v % 2) 1)
      (λ t. let o = eqb-true (v % 2) 1 t in rw (b ∙ t, filtered) (rw o (omega arith)))
      (λ t.
      let o = eqb-false (v % 2) 1 t in
      let y : v % 2 ≡ 0 = omega arith in
      let r = told-lowest d w (suc first) (v / 2) (omega arith) (half d v h) (λ i. n (omega arith)) (told-next d first v e) rest z in
      rw (b ∙ t, filtered) (rw y (omega arith)))

-- the lowest bit set stands below the bits in use
pub lowest-below : (d w v : ℕ) → d ≤ w → v < 2 ^ d → v ≢ 0 → count_trailing_zeros w v < d
unfolding count_trailing_zeros
lowest-below zero w v l h n = absurd (n (omega arith))
lowest-below (suc d) zero v l h n = absurd (omega arith)
lowest-below (suc d) (suc w) v l h n =
    split (eqb (v % 2) 1)
    (λ t. let o = eqb-true (v % 2) 1 t in rw o (omega arith))
    (λ t.
    let o = eqb-false (v % 2) 1 t in
    let y : v % 2 ≡ 0 = omega arith in
    let r = lowest-below d w (v / 2) (omega arith) (half d v h) (λ i. n (omega arith)) in
    rw y (omega arith))

-- ---- rows in parts
pub up_append : (first n m : ℕ) → up_from first (n + m) ≡ up_from first n ++ up_from (first + n) m
up_append first zero m = let a : 0 + m ≡ m = omega arith in let b : first + 0 ≡ first = omega arith in rw (a, b)
up_append first (suc n) m =
    let a : suc n + m ≡ suc (n + m) = omega arith in
    let b : first + suc n ≡ suc first + n = omega arith in
    rw (a, b) (ap (first ∷◌) (up_append (suc first) n m))

pub up-length : (first n : ℕ) → length (up_from first n) ≡ n
up-length first zero = refl
up-length first (suc n) = ap suc (up-length (suc first) n)
