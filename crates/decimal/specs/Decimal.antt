-- Numbers in decimal digits, as bytes of text: digit d is byte 30 hexadecimal + d.
use Rattle.std.specs.Prelude.{true, false, List, [], ◌∷◌, ◌++◌, ℕ, zero, suc, ◌+◌, ◌-◌, ◌*◌, ◌/◌, ◌%◌, ltb}

-- a number in decimal digits, the highest first, where k are enough
unfoldable pub decimal_within : ℕ → ℕ → List ℕ
decimal_within zero n = []
decimal_within (suc k) n = elim (ltb n 10) [ true ↦ (0x30 + n) ∷ [] | false ↦ decimal_within k (n / 10) ++ (0x30 + n % 10) ∷ [] ]

-- more than n digits are always enough (`decimal-one`, `decimal-more`)
unfoldable pub decimal : ℕ → List ℕ
decimal n = decimal_within (suc n) n

-- the number that the digits write, after the number so far
abbrev pub from_decimal : ℕ → List ℕ → ℕ
from_decimal v [] = v
from_decimal v (b ∷ bs) = from_decimal (v * 10 + (b - 0x30)) bs
