-- The fields of a packed node are the values packed, over every layout that fills a node with flags of one bit, and the node is a 32-bit number.
use Rattle.std.specs.Prelude.{◌≡◌, Bool, true, false, ℕ, ◌^◌, ◌<◌, eqb}
use Rattle.std.proofs.Common.{sym, ap, ◌∙◌, subst, arith}
use Rattle.base.specs.Numbers.{flag, flag-read}
use Rattle.node.specs.Nodes.{Field, Tile, Accepts, End, Arc, BitLayout, field_bits, width, fields, tile, arc, accepts, is_end, values, packed}
use Rattle.node.specs.PackingLaws.{FillsNode, unpack_pack, packed-below}

flag-below : (b : Bool) → flag b < 2
flag-below true = omega arith
flag-below false = omega arith

module _ (y : BitLayout) where
  -- a node with such fields
  pub record Fields (v t : ℕ) (a e : Bool) (r : ℕ) : Type 0 where
    pub tile-is : tile y v ≡ t
    pub accepts-is : accepts y v ≡ a
    pub end_is : is_end y v ≡ e
    pub arc-is : arc y v ≡ r
    pub below : v < 2 ^ 32

  module _ (whole : FillsNode y) (one : (width y.accepts ≡ 1) × (width y.end ≡ 1))
      (t : ℕ) (a e : Bool) (r : ℕ) (small-tile : t < 2 ^ width y.tile) (small-arc : r < 2 ^ width y.arc) where
    small : (f : Field) → values t a e r f < 2 ^ width (field_bits y f)
    small Tile = small-tile
    small Accepts = subst (λ w. flag a < 2 ^ w) (sym one.0) (flag-below a)
    small End = subst (λ w. flag e < 2 ^ w) (sym one.1) (flag-below e)
    small Arc = small-arc

    read : (f : Field) → fields y (packed y (values t a e r)) f ≡ values t a e r f
    read = unpack_pack y (values t a e r) small whole

    pub packed-fields : Fields (packed y (values t a e r)) t a e r
    packed-fields =
        record {
          tile-is = read Tile;
          accepts-is = ap (λ k. eqb k 1) (read Accepts) ∙ flag-read a;
          end_is = ap (λ k. eqb k 1) (read End) ∙ flag-read e;
          arc-is = read Arc;
          below = packed-below y (values t a e r) small whole;
        }
