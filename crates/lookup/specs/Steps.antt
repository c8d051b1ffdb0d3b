-- A walk that goes on with a value or ends the call with an answer, and the steps that can be refused; from document 01, the row
-- "lookups, run cursor, alpha sets, numbers": "On a walk (14 to 16) the refusal met first is given."
use Rattle.std.specs.Prelude.{Bool, true, false, List, [], ℕ, ◌+◌, ◌-◌, ltb, leb, length, get_or, take}
use Rattle.answers.specs.Answers.{Answer, refused}

pub data Try (A : Type 0) : Type 0 where
  on : A → Try A
  stop : Answer → Try A

infixl 10 ◌>>=◌
abbrev pub ◌>>=◌ : {A B : Type 0} → Try A → (A → Try B) → Try B
on a >>= f = f a
stop r >>= f = stop r

-- the answer of a walk whose every end is an answer
abbrev pub answer : Try Answer → Answer
answer (on a) = a
answer (stop a) = a

-- goes on where the test holds
abbrev pub require : Bool → Answer → Try Bool
require true r = on true
require false r = stop r

-- "Starts, places, counts and work-list entries are unsigned 32-bit numbers": no step leads to what stands from place 2^32 on
abbrev pub lent_part : List ℕ → List ℕ
lent_part l = take 4_294_967_296 l

-- "14+ a step to a node or count not lent"
unfoldable pub lent : List ℕ → ℕ → Try ℕ
lent l i = elim (ltb i (length l)) [ true ↦ on (get_or l i 0) | false ↦ stop (refused 14 []) ]

-- "15+ a difference below 0 or sum above 4,294,967,295" (the limit is a parameter)
unfoldable pub difference : ℕ → ℕ → Try ℕ
difference a b = elim (leb b a) [ true ↦ on (a - b) | false ↦ stop (refused 15 []) ]

unfoldable pub sum : ℕ → ℕ → ℕ → Try ℕ
sum limit a b = elim (leb (a + b) limit) [ true ↦ on (a + b) | false ↦ stop (refused 15 []) ]
