-- The parts of a line, and how long it can get.
use mathlib.Core.Path.{◌≡◌, refl, ap, ◌∙◌}
use mathlib.Core.List.{[], ◌∷◌, ◌++◌}
use Prim.Native.Nat.{ℕ, zero-le, ◌+◌, ◌-◌, ◌*◌, ◌≤◌, ◌<◌}
use native.Mathlib.Numerals.{add-one}
use native.Mathlib.Omega.{arith}
use lib.ListN.{length, get_or, drop, length-append, drop_of_length-le}
use lib.Seq.{drop-cons}
use Rattle.decimal.specs.Decimal.{decimal}
use Rattle.decimal.specs.DecimalLaws.{decimal-length}
use Rattle.graph.specs.Words.{Word}
use Rattle.lookup.specs.WalkedLaws.{Tiles}
use Rattle.listing.specs.Lines.{spaced, parted, line, refusal_line}

-- ---- the parts of a line
pub parted-none : (w : Word) → length w ≡ 0 → parted w ≡ []
unfolding parted
parted-none [] h = refl
parted-none (t ∷ w) h = absurd (omega arith)

pub spaced-next : (w : Word) (i : ℕ) → i < length w → spaced (drop i w) ≡ (0x20 ∷ decimal (get_or w i 0)) ++ spaced (drop (i + 1) w)
unfolding spaced
spaced-next w i h = rw (add-one, drop-cons w i 0 h)

pub next-parts : (w : Word) (i t : ℕ) → i < length w → t ≡ get_or w i 0
    → length (spaced (drop i w)) ≡ 1 + length (decimal t) + length (spaced (drop (i + 1) w))
next-parts w i t h e =
    ap length (spaced-next w i h) ∙ length-append (0x20 ∷ decimal (get_or w i 0)) (spaced (drop (i + 1) w)) ∙ rw e (omega arith)

pub spaced-done : (w : Word) (i : ℕ) → length w ≤ i → spaced (drop i w) ≡ []
unfolding spaced
spaced-done w i h = rw (drop_of_length-le w h)

pub line-parts : (n : ℕ) (w : Word) → length (line n w) ≡ length (decimal n) + 1 + length (parted w) + 1
unfolding line
line-parts n w = simp length-append (omega arith)

pub refusal-parts : (n : ℕ) → length (refusal_line n) ≡ 8 + length (decimal n) + 1
unfolding refusal_line
refusal-parts n = simp length-append (omega arith)

-- ---- how long it can get
pub spaced-length : (w : Word) → Tiles w → length (spaced w) ≤ 3 * length w
unfolding spaced
spaced-length [] a = zero-le
spaced-length (t ∷ w) a =
    let d = decimal-length 1 t (omega (arith, a.0)) in
    let r = spaced-length w a.1 in
    rw length-append (omega arith)

pub parted-length : (w : Word) → Tiles w → length (parted w) ≤ 3 * length w - 1
unfolding parted
parted-length [] a = zero-le
parted-length (t ∷ w) a =
    let d = decimal-length 1 t (omega (arith, a.0)) in
    let r = spaced-length w a.1 in
    rw length-append (omega arith)

number-length : (n : ℕ) → n < 4_294_967_296 → length (decimal n) ≤ 10
number-length n h = decimal-length 9 n (omega arith)

pub line-length : (n : ℕ) (w : Word) → n < 4_294_967_296 → length w ≤ 256 → Tiles w → length (line n w) ≤ 779
line-length n w h l a = omega (arith, line-parts n w, number-length n h, parted-length w a)

pub refusal-length : (n : ℕ) → n < 4_294_967_296 → length (refusal_line n) ≤ 19
refusal-length n h = omega (arith, refusal-parts n, number-length n h)
