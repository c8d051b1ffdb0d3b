-- A front part of an array of one number over and over is such a list itself: what a case is lent of the room for it.
use mathlib.Core.Path.{◌≡◌, refl, ap}
use mathlib.Core.List.{◌∷◌}
use Prim.Native.Nat.{ℕ, zero, suc, ◌≤◌}
use native.Mathlib.Omega.{arith}
use lib.ListN.{length, take, replicate, length-replicate}

pub take_same : (k n a : ℕ) → k ≤ n → take k (replicate n a) ≡ replicate k a
take_same zero n a h = refl
take_same (suc k) zero a h = absurd (omega arith)
take_same (suc k) (suc n) a h = ap (a ∷◌) (take_same k n a (omega arith))

pub lent-size : (k n a : ℕ) → k ≤ n → length (take k (replicate n a)) ≡ k
lent-size k n a h = rw (take_same k n a h) (length-replicate k a)
