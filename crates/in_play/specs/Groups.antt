-- The record in groups of eight bytes, as it is scanned: a group is one number, whose 64 bits stand for 64 words in a row.
use Rattle.std.specs.Prelude.{get_or, ◌<◌, List, [], ◌∷◌, ℕ, ◌+◌, ◌*◌, ◌/◌, ◌%◌, ◌^◌}
use Rattle.std.specs.Int.{w64, bit_not}
use Rattle.std.proofs.Math.Seq.{slice}

abbrev pub Bytes : List ℕ → Type 0
Bytes bs = (i : ℕ) → get_or bs i 0 < 256

-- bytes as one number, the first the lowest
abbrev pub joined : List ℕ → ℕ
joined [] = 0
joined (b ∷ bs) = b + 256 * joined bs

-- the bits that are clear in a group
abbrev pub clear_bits : ℕ → ℕ
clear_bits group = bit_not w64 group

-- of the group in which the count ends, the clear bits below the count
abbrev pub last_clear : List ℕ → ℕ → ℕ
last_clear bits total = clear_bits (joined (slice (total / 64 * 8) ((total + 7) / 8) bits)) % 2 ^ (total % 64)

-- the first of a list's numbers, or another where there is none
abbrev pub first_or : ℕ → List ℕ → ℕ
first_or z [] = z
first_or z (n ∷ ns) = n
