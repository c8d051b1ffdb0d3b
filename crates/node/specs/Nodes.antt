-- A node's fields, the layouts that keep them in 32 bits, and packing; from document 01, "Nodes and words".
use Rattle.std.specs.Prelude.{Bool, ◌&&◌, List, [], ◌∷◌, ℕ, suc, ◌+◌, ◌-◌, ◌*◌, ◌/◌, ◌%◌, ◌^◌, eqb, ltb}
use Rattle.base.specs.Numbers.{flag}

pub data Field : Type 0 where
  Tile Accepts End Arc : Field

-- "Bits are counted from 0, the lowest": the bits from `first` to `last`.
pub record Bits : Type 0 where
  pub first : ℕ
  pub last : ℕ

abbrev pub bits : ℕ → ℕ → Bits
bits first last = record { first = first; last = last }

abbrev pub width : Bits → ℕ
width b = suc b.last - b.first

-- Where a layout keeps each field, and its fields from the lowest bit up.
pub record BitLayout : Type 0 where
  pub tile : Bits
  pub accepts : Bits
  pub end : Bits
  pub arc : Bits
  pub upward : List Field

-- "KWG (`Node22`): tile bits 24–31, accepts 23, end 22, arc 0–21."
abbrev pub kwg : BitLayout
kwg =
    record {
      tile = bits 24 31;
      accepts = bits 23 23;
      end = bits 22 22;
      arc = bits 0 21;
      upward = Arc ∷ End ∷ Accepts ∷ Tile ∷ [];
    }

-- "KBWG (`Node24`): arc bits 8–31, accepts 7, end 6, tile 0–5."
abbrev pub kbwg : BitLayout
kbwg =
    record {
      arc = bits 8 31;
      accepts = bits 7 7;
      end = bits 6 6;
      tile = bits 0 5;
      upward = Tile ∷ End ∷ Accepts ∷ Arc ∷ [];
    }

-- the bits of a field
abbrev pub field_bits : BitLayout → Field → Bits
field_bits y Tile = y.tile
field_bits y Accepts = y.accepts
field_bits y End = y.end
field_bits y Arc = y.arc

-- A value for each field.
abbrev pub Values : Type 0
Values = Field → ℕ

-- ---- reading a node in the layout y
module _ (y : BitLayout) where
  abbrev pub fields : ℕ → Values
  fields v f = v / 2 ^ (field_bits y f).first % 2 ^ width (field_bits y f)

  abbrev pub tile : ℕ → ℕ
  tile v = fields v Tile

  abbrev pub arc : ℕ → ℕ
  arc v = fields v Arc

  -- the flags, as the numbers 0 and 1, and as tests
  abbrev pub accepts_bit : ℕ → ℕ
  accepts_bit v = fields v Accepts

  abbrev pub end_bit : ℕ → ℕ
  end_bit v = fields v End

  abbrev pub accepts : ℕ → Bool
  accepts v = eqb (accepts_bit v) 1

  abbrev pub is_end : ℕ → Bool
  is_end v = eqb (end_bit v) 1

-- ---- making a node in the layout y
abbrev pub values : ℕ → Bool → Bool → ℕ → Values
values t a e r Tile = t
values t a e r Accepts = flag a
values t a e r End = flag e
values t a e r Arc = r

module _ (y : BitLayout) where
  -- each value at its field's place
  abbrev pub field_sum : List Field → Values → ℕ
  field_sum [] x = 0
  field_sum (f ∷ fs) x = x f * 2 ^ (field_bits y f).first + field_sum fs x

  abbrev pub packed : Values → ℕ
  packed x = field_sum y.upward x

  -- "node doesn't fit": a flag always does
  unfoldable pub fits : Values → Bool
  fits x = ltb (x Tile) (2 ^ width y.tile) && ltb (x Arc) (2 ^ width y.arc)
