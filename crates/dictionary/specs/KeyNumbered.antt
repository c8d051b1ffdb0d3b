-- What numbering a key does: a new key follows those that are there, and a key's number is its place among them.
use Rattle.std.specs.Prelude.{◌≡◌, List, [], ◌∷◌, ℕ, length}
use Rattle.laws.specs.Firsts.{place_in, firsts}
use Rattle.dictionary.specs.Keys.{keys_in}
use Rattle.dictionary.specs.Tree.{Tree}
use Rattle.dictionary.specs.declared.KeyNumber.{KeyNumber}

pub record KeyNumbered (n : ℕ) (before : List ℕ) (k key : ℕ) (after : List ℕ) (r : KeyNumber) : Type 0 where
  pub keys_are : keys_in n after r.count ≡ firsts (keys_in n before k) (key ∷ [])
  pub count-is : r.count ≡ length (firsts (keys_in n before k) (key ∷ []))
  pub number_is : r.number ≡ place_in (firsts (keys_in n before k) (key ∷ [])) key
  pub tree : Tree n after r.count
