-- A word list put on a shelf, from the last word to the first. Of the word at hand, the open one, there is for each of its tiles the
-- number of what follows that tile's branch in its run, and at last the number of the run after the whole word.
-- A reader need not believe any of it: `shelf-built` says what it comes to.
use Rattle.std.specs.Prelude.{Bool, true, false, ◌&&◌, List, [], ◌∷◌, ℕ, suc, eqb, length}
use Rattle.laws.specs.Lists.{is_empty}
use Rattle.base.specs.Numbers.{flag}
use Rattle.graph.specs.Words.{Word}
use Rattle.shelf.specs.Shelf.{ShelfEntry, Shelf}

abbrev pub shelf_entry : ℕ → Bool → ℕ → ℕ → ShelfEntry
shelf_entry t a c n = record { tile = t; accepts = a; child = c; next = n }

abbrev pub same_entry : ShelfEntry → ShelfEntry → Bool
same_entry e f = eqb e.tile f.tile && eqb (flag e.accepts) (flag f.accepts) && eqb e.child f.child && eqb e.next f.next

-- an entry's number, 0 where it is not on the shelf
unfoldable pub entry_number : Shelf → ShelfEntry → ℕ
entry_number [] e = 0
entry_number (f ∷ d) e = elim (same_entry e f) [ true ↦ suc (length d) | false ↦ entry_number d e ]

pub record Put : Type 0 where
  pub shelf : Shelf
  pub number : ℕ

-- an entry is kept once
unfoldable pub put_on : Shelf → ShelfEntry → Put
put_on d e =
    elim (eqb (entry_number d e) 0) [
      | true ↦ record { shelf = e ∷ d; number = suc (length d) }
      | false ↦ record { shelf = d; number = entry_number d e }
    ]

-- the branches of the open word, the deepest first, put on the shelf
unfoldable pub close : Shelf → Word → List ℕ → Put
close d w [] = record { shelf = d; number = 0 }
close d [] (x ∷ xs) = record { shelf = d; number = x }
close d (t ∷ u) (x ∷ xs) =
    let below = close d u xs in
    put_on below.shelf (shelf_entry t (is_empty u) below.number x)

-- nothing follows yet
abbrev pub fresh : Word → List ℕ
fresh [] = 0 ∷ []
fresh (t ∷ u) = 0 ∷ fresh u

pub record Moved : Type 0 where
  pub shelf : Shelf
  pub numbers : List ℕ

-- the open word gives way to the word before it: what they do not share is closed
unfoldable pub advance : Shelf → Word → List ℕ → Word → Moved
advance d w xs [] = let c = close d w xs in record { shelf = c.shelf; numbers = c.number ∷ [] }
advance d [] xs (s ∷ v) = record { shelf = d; numbers = 0 ∷ fresh v }
advance d (t ∷ u) [] (s ∷ v) = record { shelf = d; numbers = 0 ∷ fresh v }
advance d (t ∷ u) (x ∷ xs) (s ∷ v) =
    elim (eqb s t) [
      | true ↦ let r = advance d u xs v in record { shelf = r.shelf; numbers = x ∷ r.numbers }
      | false ↦ let c = close d (t ∷ u) (x ∷ xs) in record { shelf = c.shelf; numbers = c.number ∷ fresh v }
    ]

abbrev pub first_word : List Word → Word
first_word [] = []
first_word (w ∷ ws) = w

unfoldable pub opened : List Word → Moved
opened [] = record { shelf = []; numbers = 0 ∷ [] }
opened (w ∷ ws) = let r = opened ws in advance r.shelf (first_word ws) r.numbers w

unfoldable pub shelved : List Word → Put
shelved ws = let r = opened ws in close r.shelf (first_word ws) r.numbers
