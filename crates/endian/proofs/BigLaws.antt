-- Numbers written with the highest byte first: how long they are, and what is read back.
use Rattle.std.specs.Prelude.{◌≡◌, refl, ℕ, zero, suc, ◌+◌, ◌*◌, ◌/◌, ◌%◌, ◌^◌, ◌<◌, length, take, drop}
use Rattle.std.proofs.Common.{ap, ap₂, sym, ◌∙◌, subst, pow-suc, div-lt_iff_lt-mul, div-add-mod', arith, lit<, length-append, drop_at, take_at}
use mathlib.Core.List.{List, [], ◌∷◌, ◌++◌, append_assoc, Memᴰ}
use Rattle.endian.specs.Bytes.{big_endian, big_endians, from_big, big_numbers}

pub big_length : (n v : ℕ) → length (big_endian n v) ≡ n
big_length zero v = refl
big_length (suc n) v = let h = big_length n (v / 256) in length-append (big_endian n (v / 256)) (v % 256 ∷ []) ∙ omega arith

pub bigs_length : (n : ℕ) (l : List ℕ) → length (big_endians n l) ≡ n * length l
unfolding big_endians
bigs_length n [] = omega arith
bigs_length n (v ∷ l) =
    let a = big_length n v in
    let b = bigs_length n l in
    length-append (big_endian n v) (big_endians n l) ∙ omega arith

pub bigs_append : (n : ℕ) (a b : List ℕ) → big_endians n (a ++ b) ≡ big_endians n a ++ big_endians n b
unfolding big_endians
bigs_append n [] b = refl
bigs_append n (v ∷ a) b = ap (big_endian n v ++◌) (bigs_append n a b) ∙ sym (append_assoc (big_endian n v) (big_endians n a) (big_endians n b))

-- ---- what is read back
from_more : (bs : List ℕ) (v b : ℕ) → from_big v (bs ++ b ∷ []) ≡ from_big v bs * 256 + b
from_more [] v b = refl
from_more (a ∷ bs) v b = from_more bs (v * 256 + a) b

pub big_back : (n v : ℕ) → v < 256 ^ n → from_big 0 (big_endian n v) ≡ v
big_back zero v h = omega arith
big_back (suc n) v h =
    let p = pow-suc 256 n in
    let k : v / 256 < 256 ^ n = (div-lt_iff_lt-mul (lit< tt)).1 (subst (λ x. v < x) p h) in
    let e = big_back n (v / 256) k in
    from_more (big_endian n (v / 256)) 0 (v % 256) ∙ ap (λ x. x * 256 + v % 256) e ∙ div-add-mod' v 256

pub numbers-back : (n : ℕ) (l r : List ℕ) → ((v : ℕ) → Memᴰ v l → v < 256 ^ n) → big_numbers n (length l) (big_endians n l ++ r) ≡ l
unfolding big_endians
numbers-back n [] r h = refl
numbers-back n (v ∷ l) r h =
    let e = append_assoc (big_endian n v) (big_endians n l) r in
    ap₂ ◌∷◌
    (ap (λ b. from_big 0 (take n b)) e ∙ ap (from_big 0) (take_at (big_endian n v) _ n (big_length n v)) ∙ big_back n v (h v (Memᴰ.head refl)))
    (ap (λ b. big_numbers n (length l) (drop n b)) e ∙ ap (big_numbers n (length l)) (drop_at (big_endian n v) _ n (big_length n v))
    ∙ numbers-back n l r (λ u m. h u (Memᴰ.tail m)))
