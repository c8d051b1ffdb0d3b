-- "Letters, title and date are to follow the Unicode Consortium's published CP1252 table: its 32 entries from 80 to 9F, five of them without
-- a character, and ISO/IEC 8859-1 elsewhere" (document 02, C-15).
use Rattle.std.specs.Prelude.{◌≡◌, Bool, true, false, not, ◌&&◌, ◌||◌, ◌≢◌, List, [], ◌∷◌, ℕ, ◌+◌, ◌-◌, ◌<◌, eqb, ltb, leb, get_or}
use Rattle.std.proofs.Math.Option.{Option, none, some}
use Rattle.laws.specs.Cases.{is_some}
use Rattle.laws.specs.Firsts.{place_in}
use Rattle.laws.specs.Lists.{member}

-- "its 32 entries from 80 to 9F, five of them without a character", which are 0 here
unfoldable pub entries : List ℕ
entries =
    0x20AC ∷ 0x0000 ∷ 0x201A ∷ 0x0192 ∷ 0x201E ∷ 0x2026 ∷ 0x2020 ∷ 0x2021
    ∷ 0x02C6 ∷ 0x2030 ∷ 0x0160 ∷ 0x2039 ∷ 0x0152 ∷ 0x0000 ∷ 0x017D ∷ 0x0000
    ∷ 0x0000 ∷ 0x2018 ∷ 0x2019 ∷ 0x201C ∷ 0x201D ∷ 0x2022 ∷ 0x2013 ∷ 0x2014
    ∷ 0x02DC ∷ 0x2122 ∷ 0x0161 ∷ 0x203A ∷ 0x0153 ∷ 0x0000 ∷ 0x017E ∷ 0x0178
    ∷ []

-- a code point stands at a place of the table
pub record StandsAt (i c : ℕ) : Type 0 where
  pub below : i < 32
  pub is : get_or entries i 0 ≡ c
  pub character : c ≢ 0

-- "and ISO/IEC 8859-1 elsewhere": outside 80 to 9F a byte is its own code point
abbrev pub is_itself : ℕ → Bool
is_itself n = ltb n 0x80 || (leb 0xA0 n && leb n 0xFF)

abbrev pub unless_zero : ℕ → Option ℕ
unless_zero c = elim (eqb c 0) [ true ↦ none | false ↦ some c ]

-- the code point of a byte, where it has one; a number over FF is no byte
unfoldable pub code_point_of : ℕ → Option ℕ
code_point_of b = elim (is_itself b) [ true ↦ some b | false ↦ unless_zero (get_or entries (b - 0x80) 0) ]

abbrev pub byte_of_entry : ℕ → Option ℕ
byte_of_entry c = elim (member c entries) [ true ↦ some (0x80 + place_in entries c) | false ↦ none ]

-- the byte of a code point, where it has one
unfoldable pub byte_of : ℕ → Option ℕ
byte_of c = elim (is_itself c) [ true ↦ some c | false ↦ byte_of_entry c ]

-- "a code point without a byte in this table"
abbrev pub no_byte : ℕ → Bool
no_byte c = not (is_some (byte_of c))

abbrev or_zero : Option ℕ → ℕ
or_zero none = 0
or_zero (some b) = b

-- the byte written: of a code point that has none, no file is
abbrev pub byte_written : ℕ → ℕ
byte_written c = or_zero (byte_of c)
