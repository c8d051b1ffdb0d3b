-- An answer as document 01 writes it: its values, none, or a refusal's number with the values that it carries.
use Rattle.std.specs.Prelude.{Bool, true, false, List, [], ◌∷◌, ℕ, get_or, Result, Ok, Err, Option as Maybe, None, Some}
use Rattle.std.proofs.Math.Option.{Option, none, some}

pub data Answer : Type 0 where
  gives : List ℕ → Answer
  nothing : Answer
  refused : ℕ → List ℕ → Answer

abbrev pub IsRefusal : Answer → Type 0
IsRefusal (gives vs) = ⊥
IsRefusal nothing = ⊥
IsRefusal (refused n vs) = Unit

-- an answer as one number: that of its refusal, or 0
abbrev pub refusal_in : Answer → ℕ
refusal_in (gives vs) = 0
refusal_in nothing = 0
refusal_in (refused n vs) = n

-- a value of an answer, or 0 where it has none
abbrev pub value_at : ℕ → Answer → ℕ
value_at i (gives vs) = get_or vs i 0
value_at i nothing = 0
value_at i (refused n vs) = 0

-- A refusal by itself: its number and the values that it carries.
pub record Refusal : Type 0 where
  pub number : ℕ
  pub carries : List ℕ

abbrev pub refusing : ℕ → List ℕ → Refusal
refusing n vs = record { number = n; carries = vs }

abbrev pub as_answer : Refusal → Answer
as_answer r = refused r.number r.carries

-- A row of the table "Where each check stands": conditions, each with what it refuses by.
abbrev pub Row : Type 0
Row = List (Bool × Refusal)

-- "In each place the order is that of the row": the first condition that holds refuses.
unfoldable pub first_of : Row → Option Answer
first_of [] = none
first_of (c ∷ cs) = elim c.0 [ true ↦ some (as_answer c.1) | false ↦ first_of cs ]

-- A refusal where there is one, or else the answer given.
abbrev pub or_else : Option Answer → Answer → Answer
or_else none a = a
or_else (some r) a = r

-- A result as an answer: what its value says, or why it is refused.
abbrev pub said_result : {A E : Type 0} → (A → Answer) → (E → Refusal) → Result A E → Answer
said_result value why (Ok a) = value a
said_result value why (Err e) = as_answer (why e)

-- what a check refuses by
abbrev pub refusal_of : {A E : Type 0} → (E → Refusal) → Result A E → Option Answer
refusal_of why (Ok a) = none
refusal_of why (Err e) = some (as_answer (why e))

-- A value that may be none, as an answer.
abbrev pub said_option : {A : Type 0} → (A → Answer) → Maybe A → Answer
said_option value None = nothing
said_option value (Some a) = value a
