-- Numbers of 32 bits.
use Rattle.std.specs.Prelude.{◌≡◌, refl, Bool, true, false, ℕ, eqb}

-- the largest
abbrev pub most : ℕ
most = 4_294_967_295

-- a flag as a number
abbrev pub flag : Bool → ℕ
flag true = 1
flag false = 0

-- and read back
pub flag-read : (b : Bool) → eqb (flag b) 1 ≡ b
flag-read true = refl
flag-read false = refl
