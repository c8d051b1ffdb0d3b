-- What a count says of the list that was read: that there is none, or how long it is.
use Rattle.std.specs.Prelude.{◌≡◌, refl, List, ℕ, length, Some, None}
use Rattle.std.proofs.Math.Option.{Option, none, some}
use Rattle.stored.specs.Inputs.{count_of}

pub not-counted : (o : Option (List ℕ)) → count_of o ≡ None → o ≡ none
not-counted none e = refl
not-counted (some l) e = cc

pub list_counted : (o : Option (List ℕ)) (n : ℕ) → count_of o ≡ Some n → (l : List ℕ) × (o ≡ some l) × (length l ≡ n)
list_counted none n e = cc
list_counted (some l) n e = (l, refl, cc)
