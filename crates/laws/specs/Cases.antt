-- Cases on a computed value, each with the equation that says which case it is.
use Rattle.std.specs.Prelude.{◌≡◌, refl, Bool, true, false, ◌&&◌, ◌||◌, ◌≢◌, ◌⊎◌, ℕ, ◌≤◌, ◌<◌, ltb}
use Rattle.std.proofs.Common.{sym, subst, true≢false, inl, inr, ltb-true, ltb-false}
use Rattle.std.proofs.Math.Option.{Option, none, some, IsSome}
use Rattle.std.proofs.Math.Decide.{ℕ_discrete}

pub split {ℓ} : {C : Type ℓ} (t : Bool) → (t ≡ true → C) → (t ≡ false → C) → C
split true yes-case no-case = yes-case refl
split false yes-case no-case = no-case refl

pub split_option {ℓ} : {A : Type 0} {C : Type ℓ} (o : Option A) → (o ≡ none → C) → ((a : A) → o ≡ some a → C) → C
split_option none none-case some-case = none-case refl
split_option (some a) none-case some-case = some-case a refl

abbrev pub is_some : {A : Type 0} → Option A → Bool
is_some none = false
is_some (some a) = true

pub is_none : {A : Type 0} (o : Option A) → is_some o ≡ false → o ≡ none
is_none none e = refl
is_none (some a) e = absurd (true≢false e)

pub some≢none {ℓ} : {A : Type 0} {a : A} {C : Type ℓ} → some a ≡ none → C
some≢none e = absurd (subst IsSome e tt)

pub and_left : (a b : Bool) → a && b ≡ true → a ≡ true
and_left true b e = refl
and_left false b e = e

pub and_right : (a b : Bool) → a && b ≡ true → b ≡ true
and_right true b e = e
and_right false b e = absurd (true≢false (sym e))

pub or_false-left : (a b : Bool) → a || b ≡ false → a ≡ false
or_false-left true b e = e
or_false-left false b e = refl

pub or_false-right : (a b : Bool) → a || b ≡ false → b ≡ false
or_false-right true b e = absurd (true≢false e)
or_false-right false b e = e

-- two numbers are the same, or not; one is below the other, or not
pub same? : (a b : ℕ) → (a ≡ b) ⊎ (a ≢ b)
same? a b = elim (ℕ_discrete a b) [ yes e ↦ inl e | no n ↦ inr n ]

pub below? : (a b : ℕ) → (a < b) ⊎ (b ≤ a)
below? a b = split (ltb a b) (λ t. inl (ltb-true a b t)) (λ f. inr (ltb-false a b f))
