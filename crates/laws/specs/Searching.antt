-- A search along a list, from a place on, one element after the other. The idea: what is left of the list answers for all of it.
use Rattle.std.specs.Prelude.{◌≡◌, refl, Bool, true, false, List, ℕ, ◌+◌, ◌<◌, ◌≤◌, length, get_or, drop}
use Rattle.std.proofs.Common.{sym, ◌∙◌, add-one, drop_of_length-le, drop-cons}
use Rattle.laws.specs.Lists.{some_of}

pub record Searching (f : ℕ → Bool) (l : List ℕ) (from i : ℕ) : Type 0 where
  pub whole : some_of f (drop i l) ≡ some_of f (drop from l)

-- the element at a place is tested
pub record Tested (f : ℕ → Bool) (l : List ℕ) (from i : ℕ) (r : Bool) : Type 0 where
  pub left : Searching f l from i
  pub there : i < length l
  pub test : r ≡ f (get_or l i 0)

module _ {f : ℕ → Bool} {l : List ℕ} {from : ℕ} where
  pub search-begins : Searching f l from from
  search-begins = record { whole = refl }

  module _ {i : ℕ} {r : Bool} (t : Tested f l from i r) where
    pub search_finds : r ≡ true → true ≡ some_of f (drop from l)
    search_finds e =
        let here : some_of f (drop i l) ≡ true = rw (drop-cons l i 0 t.there) (rw (sym t.test ∙ e)) in
        sym here ∙ t.left.whole

    pub search-passes : r ≡ false → Searching f l from (i + 1)
    search-passes e =
        let next : some_of f (drop i l) ≡ some_of f (drop (i + 1) l) = rw (drop-cons l i 0 t.there) (rw (sym t.test ∙ e, add-one)) in
        record { whole = sym next ∙ t.left.whole }

  pub search-ends : {i : ℕ} → Searching f l from i → length l ≤ i → false ≡ some_of f (drop from l)
  search-ends {i} s h = let past : some_of f (drop i l) ≡ false = rw (drop_of_length-le l h) in sym past ∙ s.whole
