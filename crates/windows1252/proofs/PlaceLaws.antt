-- Where a code point stands by the remainder that it leaves by 79. The idea: a test that is computed over the whole table says that no two of
-- its code points leave the same.
use mathlib.Core.Path.{◌≡◌, refl, sym, ap, ◌∙◌}
use mathlib.Core.Bool.{true, false}
use mathlib.Core.List.{List, map}
use mathlib.Core.Logic.{◌≢◌}
use mathlib.Core.Option.{none}
use Prim.Native.Nat.{ℕ, ◌%◌}
use native.Mathlib.Omega.{arith}
use lib.Dec.{eqb}
use lib.ListN.{get_or}
use borrow.Author.Tests.{eqb-true}
use Rattle.laws.specs.Firsts.{place_in}
use Rattle.laws.specs.Lists.{some_of}
use Rattle.laws.specs.Tables.{table, table_at}
use Rattle.windows1252.specs.Windows1252.{entries, is_itself, byte_of}
use Rattle.windows1252.proofs.Windows1252Laws.{Rule, breaks, Rule-at, stands_or_none}
use Rattle.windows1252.specs.Encoded.{OnlyPlace}

-- what an entry leaves; one without a character leaves no remainder
abbrev remainder_of : ℕ → ℕ
remainder_of c = elim (eqb c 0) [ true ↦ 79 | false ↦ c % 79 ]

-- for each remainder the place of the entry that leaves it, 0 where none does
unfoldable pub places_by_remainder : List ℕ
places_by_remainder = table 79 (λ r. place_in (map remainder_of entries) r % 32)

-- the place of a code point is the one that its remainder tells
abbrev found_at : Rule
found_at i c = eqb (get_or places_by_remainder (c % 79) 0) i

all_found : some_of (breaks found_at) (table 32 (λ i. i)) ≡ false
unfolding table entries places_by_remainder
all_found = refl

pub only-place : (c : ℕ) → OnlyPlace c (get_or places_by_remainder (c % 79) 0)
unfolding places_by_remainder
only-place c =
    record {
      below = let e = table_at 79 (λ r. place_in (map remainder_of entries) r % 32) (c % 79) (omega arith) in omega arith;
      only = λ i s. eqb-true (get_or places_by_remainder (c % 79) 0) i (Rule-at found_at all_found i c s);
    }

-- what does not stand in its place has no byte
pub not_there : (c place : ℕ) → is_itself c ≡ false → OnlyPlace c place → get_or entries place 0 ≢ c → none ≡ byte_of c
not_there c place other p n =
    stands_or_none c other (λ i s. absurd (n (ap (λ j. get_or entries j 0) (p.only i s) ∙ s.is))) sym
