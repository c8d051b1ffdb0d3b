-- The bytes of a number with the highest first, stored half by half.
use mathlib.Core.Path.{◌≡◌, ap, sym, ◌∙◌}
use mathlib.Core.List.{List, ◌++◌, append-nil, append_assoc}
use Prim.Native.Nat.{ℕ, zero, suc, ◌+◌, ◌*◌, ◌/◌, ◌%◌, ◌^◌, ◌<◌}
use native.Mathlib.Nat.{div-lt_iff_lt-mul, pow-suc, mul_assoc, add-suc, add-zero}
use native.Mathlib.Omega.{arith}
use lib.Dec.{lit<}
use lib.Seq.{sets}
use Rattle.laws.specs.ListWrites.{sets_append}
use Rattle.endian.specs.Bytes.{big_endian}

-- the bytes of a number are those of its high part and then those of its low part
big_append : (m n v w : ℕ) → w < 256 ^ n → big_endian m v ++ big_endian n w ≡ big_endian (m + n) (v * 256 ^ n + w)
big_append m zero v w h = let e : v * 1 + w ≡ v = omega arith in rw (add-zero, e) (append-nil (big_endian m v))
big_append m (suc n) v w h =
    let p : v * 256 ^ suc n ≡ v * 256 ^ n * 256 = rw pow-suc (sym (mul_assoc v (256 ^ n) 256)) in
    let k : w / 256 < 256 ^ n = (div-lt_iff_lt-mul (lit< tt)).1 (rw pow-suc at h) in
    let high : (v * 256 ^ n * 256 + w) / 256 ≡ v * 256 ^ n + w / 256 = omega arith in
    let low : (v * 256 ^ n * 256 + w) % 256 ≡ w % 256 = omega arith in
    rw (p, add-suc, high, low, ← append_assoc, big_append m n v (w / 256) k)

pub stores_halves : (l : List ℕ) (i high low : ℕ) → low < 4294967296
    → sets (sets l i (big_endian 4 high)) (i + 4) (big_endian 4 low) ≡ sets l i (big_endian 8 (high * 4294967296 + low))
stores_halves l i high low h = sym (sets_append l i (big_endian 4 high) (big_endian 4 low)) ∙ ap (sets l i) (big_append 4 4 high low h)
