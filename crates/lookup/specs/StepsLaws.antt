-- A step goes on where what it asks is lent, and where its sum or difference is a number.
use Rattle.std.specs.Prelude.{ℕ, ◌+◌, ◌-◌, ◌≤◌, ◌<◌, ◌≡◌, refl, List, [], length, get_or}
use Rattle.std.proofs.Common.{arith, lt-ltb, le-ltb, le-leb, length-take}
use Rattle.answers.specs.Answers.{Answer, refused}
use Rattle.lookup.specs.Steps.{Try, on, stop, ◌>>=◌, lent_part, lent, difference, sum}

-- a step that goes on gives one value, and none where it stops
pub on_eq : {A : Type 0} {a b : A} → on a ≡ on b → a ≡ b
on_eq {A} {a} {b} e = cc

pub stop-on : {A C : Type 0} {r : Answer} {a : A} → stop r ≡ on a → C
stop-on {A} {C} {r} {a} e = let z : ◌≡◌ {A = ℕ} 0 1 = cc in absurd (omega arith)

-- what a step comes to: the value that it goes on with has a property, or the answer that it stops with has one
abbrev pub Comes : {A : Type 0} → (A → Type 0) → (Answer → Type 0) → Try A → Type 0
Comes P Q (on a) = P a
Comes P Q (stop r) = Q r

pub then-Comes : {A B : Type 0} (P : A → Type 0) (R : B → Type 0) (Q : Answer → Type 0) (x : Try A) (f : A → Try B) → Comes P Q x
    → ((a : A) → x ≡ on a → P a → Comes R Q (f a)) → Comes R Q (x >>= f)
then-Comes P R Q (on a) f h k = k a refl h
then-Comes P R Q (stop r) f h k = h

pub lent-on : (l : List ℕ) (i : ℕ) → i < length l → lent l i ≡ on (get_or l i 0)
unfolding lent
lent-on l i h = rw (lt-ltb i (length l) h, lent)

pub lent_out : (l : List ℕ) (i : ℕ) → length l ≤ i → lent l i ≡ stop (refused 14 [])
unfolding lent
lent_out l i h = rw (le-ltb i (length l) h, lent)

pub lent-part-length : (l : List ℕ) → length (lent_part l) ≤ 4_294_967_296
lent-part-length l = simp length-take (omega arith)

pub difference-on : (a b : ℕ) → b ≤ a → difference a b ≡ on (a - b)
unfolding difference
difference-on a b h = rw (le-leb b a h, difference)

pub sum-on : (m a b : ℕ) → a + b ≤ m → sum m a b ≡ on (a + b)
unfolding sum
sum-on m a b h = rw (le-leb (a + b) m h, sum)
