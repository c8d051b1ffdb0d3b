-- Tests and measures of numbers.
use Rattle.std.specs.Prelude.{◌≡◌, ◌||◌, ℕ, suc, ◌+◌, ◌*◌, ◌≤◌, ◌<◌, max, ltb}
use Rattle.std.proofs.Common.{sym, ◌∙◌, mul-le-mul_right, suc-mul, arith, ltb-true, ltb-false, lt-ltb, le-ltb}
use Rattle.laws.specs.Cases.{split}

pub ltb-max : (k a b : ℕ) → ltb k a || ltb k b ≡ ltb k (max a b)
ltb-max k a b =
    split (ltb k a)
    (λ t. let h = ltb-true k a t in rw t (sym (lt-ltb k (max a b) (omega arith))))
    (λ t. rw t (split (ltb k b)
    (λ u. let h = ltb-true k b u in u ∙ sym (lt-ltb k (max a b) (omega arith)))
    (λ u. let h = ltb-false k a t in let j = ltb-false k b u in u ∙ sym (le-ltb k (max a b) (omega arith)))))

pub ltb-suc : (k a : ℕ) → ltb k a ≡ ltb (suc k) (a + 1)
ltb-suc k a =
    split (ltb k a)
    (λ t. let h = ltb-true k a t in t ∙ sym (lt-ltb (suc k) (a + 1) (omega arith)))
    (λ t. let h = ltb-false k a t in t ∙ sym (le-ltb (suc k) (a + 1) (omega arith)))

-- the measure of a loop in a loop: fewer turns of the outer one are less, whatever is left of the inner one
pub measure_falls : (a b n x y : ℕ) → b < a → x ≤ n → b * suc n + x < a * suc n + y
measure_falls a b n x y l h = let m = mul-le-mul_right {m = suc b} {n = a} (suc n) l in let e = suc-mul b (suc n) in omega arith

-- and where the outer one has no more, fewer of the inner one are less
pub measure_falls_within : (a b n x y : ℕ) → b ≤ a → x < y → b * n + x < a * n + y
measure_falls_within a b n x y h l = let m = mul-le-mul_right {m = b} {n = a} n h in omega arith
