-- Digits written from the right, the last first.
use Rattle.std.proofs.Common.{◌≡◌, List, [], ◌∷◌, ◌++◌, ℕ, zero, suc, ◌+◌, ◌/◌, ◌%◌, ◌<◌, length, set, drop, arith, add-one, append_assoc, append-nil, drop_of_length-le, le_refl}
use Rattle.std.proofs.lemmas.List.{drop-set}
use Rattle.decimal.specs.Decimal.{decimal}
use Rattle.decimal.specs.DecimalLaws.{decimal-one, decimal-more, length-one, length_more, by_tenths}

-- the last k digits of a number, with zeros in front where it has fewer
abbrev pub last_digits : ℕ → ℕ → List ℕ
last_digits zero n = []
last_digits (suc k) n = last_digits k (n / 10) ++ (0x30 + n % 10) ∷ []

-- a number's digits are as many of its last ones
all_digits : (n : ℕ) → last_digits (length (decimal n)) n ≡ decimal n
all_digits =
    by_tenths (λ n. last_digits (length (decimal n)) n ≡ decimal n)
    (λ n h. let e : n % 10 ≡ n = omega arith in rw (length-one n h, decimal-one n h, e))
    (λ n h i. rw (length_more n h, add-one, last_digits, i, decimal-more n h))

-- at first all of them are left
pub none_written : (ds : List ℕ) (n : ℕ) → length ds ≡ length (decimal n) → last_digits (length ds) n ++ drop (length ds) ds ≡ decimal n
none_written ds n e = rw (drop_of_length-le ds (le_refl (length ds)), e, append-nil) (all_digits n)

-- the last of those that are left, written before the others
pub digit-written : (ds : List ℕ) (k n j : ℕ) → j ≡ suc k → k < length ds
    → last_digits k (n / 10) ++ drop k (set ds k (0x30 + n % 10)) ≡ last_digits j n ++ drop j ds
digit-written ds k n j e h = rw (e, last_digits, append_assoc, drop-set ds k (0x30 + n % 10) h, add-one)
