-- Unpacking after packing and packing after unpacking give back what there was, over any layout that keeps its fields one above
-- the other in 32 bits. The idea: what the fields from some bit up make is a multiple of that bit's power of two.
use Rattle.std.specs.Prelude.{◌≡◌, refl, Bool, true, ◌&&◌, ℕ, suc, ◌+◌, ◌*◌, ◌/◌, ◌%◌, ◌^◌, ◌<◌, ◌≤◌, eqb, leb}
use Rattle.std.proofs.Common.{sym, ap, ◌∙◌, subst, ⊎_elim, zero-add, add_assoc, add-mul, mul_assoc, mul_comm, mul-le-mul_right, suc-mul, zero-mul, mul-one, mod-eq_of_lt, mod-lt, div-one, arith, pow-add, pow_pos, shr-shr}
use mathlib.Core.List.Memᴰ
use mathlib.Core.List.{List, [], ◌∷◌, Memᴰ}
use Rattle.std.proofs.Math.Nat.{add-mul-div_right, add-mul-mod_self_right, div-eq_of_lt, mod-add-div'}
use borrow.Author.Tests.{eqb-true, leb-true, lt-ltb}
use Rattle.laws.specs.Cases.{and_left, and_right}
use Rattle.node.specs.Nodes.{Field, Tile, Accepts, End, Arc, width, BitLayout, kwg, kbwg, field_bits}
use Rattle.node.specs.Nodes.{Values, fields, field_sum, packed, fits}

-- the fields stand one above the other, from the bit `from` to the top of 32
abbrev pub chained : BitLayout → ℕ → List Field → Bool
chained y from [] = eqb from 32
chained y from (f ∷ fs) = eqb (field_bits y f).first from && leb from (field_bits y f).last && chained y (suc (field_bits y f).last) fs

pub record FillsNode (y : BitLayout) : Type 0 where
  pub chain : chained y 0 y.upward ≡ true
  pub each : (f : Field) → Memᴰ f y.upward

pub whole-kwg : FillsNode kwg
whole-kwg = record { chain = refl; each = present }
  where
    present : (f : Field) → Memᴰ f kwg.upward
    present Arc = Memᴰ.head refl
    present End = Memᴰ.tail (Memᴰ.head refl)
    present Accepts = Memᴰ.tail (Memᴰ.tail (Memᴰ.head refl))
    present Tile = Memᴰ.tail (Memᴰ.tail (Memᴰ.tail (Memᴰ.head refl)))

pub whole-kbwg : FillsNode kbwg
whole-kbwg = record { chain = refl; each = present }
  where
    present : (f : Field) → Memᴰ f kbwg.upward
    present Tile = Memᴰ.head refl
    present End = Memᴰ.tail (Memᴰ.head refl)
    present Accepts = Memᴰ.tail (Memᴰ.tail (Memᴰ.head refl))
    present Arc = Memᴰ.tail (Memᴰ.tail (Memᴰ.tail (Memᴰ.head refl)))

-- ---- the bits of v from bit a up, w of them, and those above
field-split : (v a w : ℕ) → v / 2 ^ a % 2 ^ w * 2 ^ a + v / 2 ^ (a + w) * 2 ^ (a + w) ≡ v / 2 ^ a * 2 ^ a
field-split v a w =
    let q = v / 2 ^ a in
    rw (← shr-shr v a w, pow-add 2 a w, mul_comm (2 ^ a) (2 ^ w), ← mul_assoc (q / 2 ^ w) (2 ^ w) (2 ^ a), ← add-mul (q % 2 ^ w) (q / 2 ^ w * 2 ^ w) (2 ^ a))
    (ap (λ n. n * 2 ^ a) (mod-add-div' q (2 ^ w)))

field_join : (d k a w : ℕ) → d * 2 ^ a + k * 2 ^ (a + w) ≡ (d + k * 2 ^ w) * 2 ^ a
field_join d k a w = rw (pow-add 2 a w, mul_comm (2 ^ a) (2 ^ w), ← mul_assoc k (2 ^ w) (2 ^ a), add-mul d (k * 2 ^ w) (2 ^ a))

field-read : (r d k a w : ℕ) → r < 2 ^ a → d < 2 ^ w → (r + (d + k * 2 ^ w) * 2 ^ a) / 2 ^ a % 2 ^ w ≡ d
field-read r d k a w hr hd =
    rw (add-mul-div_right r (d + k * 2 ^ w) (pow_pos a), div-eq_of_lt hr, zero-add, add-mul-mod_self_right d k (2 ^ w))
    (mod-eq_of_lt hd)

field_below : (r d a w : ℕ) → r < 2 ^ a → d < 2 ^ w → r + d * 2 ^ a < 2 ^ (a + w)
field_below r d a w hr hd =
    let m : suc d * 2 ^ a ≤ 2 ^ w * 2 ^ a = mul-le-mul_right (2 ^ a) hd in
    rw (pow-add 2 a w, mul_comm (2 ^ a) (2 ^ w)) (omega (arith, suc-mul d (2 ^ a)))

module _ (y : BitLayout) where
  -- the first field of a chain, and the chain above it
  record Above (from : ℕ) (f : Field) (fs : List Field) : Type 0 where
    first : (field_bits y f).first ≡ from
    rest : chained y ((field_bits y f).first + width (field_bits y f)) fs ≡ true

  above : (from : ℕ) (f : Field) (fs : List Field) → chained y from (f ∷ fs) ≡ true → Above from f fs
  above from f fs c =
      let l = eqb (field_bits y f).first from in
      let m = leb from (field_bits y f).last in
      let lm = and_left (l && m) (chained y (suc (field_bits y f).last) fs) c in
      let a = eqb-true (field_bits y f).first from (and_left l m lm) in
      let b = leb-true from (field_bits y f).last (and_right l m lm) in
      let n : suc (field_bits y f).last ≡ (field_bits y f).first + width (field_bits y f) = omega arith in
      record { first = a; rest = rw n at (and_right (l && m) (chained y (suc (field_bits y f).last) fs) c) }

  -- ---- packing after unpacking
  unpacked_from : (v from : ℕ) (fs : List Field) → chained y from fs ≡ true → v < 2 ^ 32 → field_sum y fs (fields y v) ≡ v / 2 ^ from * 2 ^ from
  unpacked_from v from [] c h = rw (eqb-true from 32 c) (rw (div-eq_of_lt h) refl)
  unpacked_from v from (f ∷ fs) c h =
      let a = above from f fs c in
      let p = (field_bits y f).first in
      let w = width (field_bits y f) in
      ap (λ n. fields y v f * 2 ^ p + n) (unpacked_from v (p + w) fs a.rest h)
      ∙ field-split v p w
      ∙ ap (λ b. v / 2 ^ b * 2 ^ b) a.first

  pub pack_unpack : FillsNode y → (v : ℕ) → v < 2 ^ 32 → packed y (fields y v) ≡ v
  pack_unpack s v h = unpacked_from v 0 y.upward s.chain h ∙ mul-one (v / 1) ∙ div-one v

  -- so a layout repacked to itself changes nothing
  pub fields_fit : (v : ℕ) → fits y (fields y v) ≡ true
  unfolding fits
  fields_fit v =
      let t = lt-ltb _ _ (mod-lt (v / 2 ^ y.tile.first) (pow_pos (width y.tile))) in
      let r = lt-ltb _ _ (mod-lt (v / 2 ^ y.arc.first) (pow_pos (width y.arc))) in
      rw (t, r, fits)

  -- ---- unpacking after packing
  module _ (x : Values) (small : (f : Field) → x f < 2 ^ width (field_bits y f)) where
    multiple : (from : ℕ) (fs : List Field) → chained y from fs ≡ true → (k : ℕ) × (field_sum y fs x ≡ k * 2 ^ from)
    multiple from [] c = (0, sym (zero-mul (2 ^ from)))
    multiple from (f ∷ fs) c =
        let a = above from f fs c in
        let p = (field_bits y f).first in
        let w = width (field_bits y f) in
        let m = multiple (p + w) fs a.rest in
        let k = x f + m.0 * 2 ^ w in
        (k, ap (λ n. x f * 2 ^ p + n) m.1 ∙ field_join (x f) m.0 p w ∙ ap (λ b. k * 2 ^ b) a.first)

    -- below the fields lies some r, made of the fields further down
    packed_above : (from : ℕ) (fs : List Field) → chained y from fs ≡ true → (r : ℕ) → r < 2 ^ from
        → (f : Field) → Memᴰ f fs → fields y (r + field_sum y fs x) f ≡ x f
    packed_above from [] c r h f m = absurd (Memᴰ.not-nil m)
    packed_above from (g ∷ fs) c r h f m =
        let a = above from g fs c in
        let p = (field_bits y g).first in
        let w = width (field_bits y g) in
        let k = multiple (p + w) fs a.rest in
        let hr : r < 2 ^ p = rw a.first h in
        ⊎_elim
        (λ i. rw i (ap (λ n. fields y (r + n) g) (ap (λ n. x g * 2 ^ p + n) k.1 ∙ field_join (x g) k.0 p w)
        ∙ field-read r (x g) k.0 p w hr (small g)))
        (λ t. ap (λ n. fields y n f) (sym (add_assoc r (x g * 2 ^ p) (field_sum y fs x)))
        ∙ packed_above (p + w) fs a.rest (r + x g * 2 ^ p) (field_below r (x g) p w hr (small g)) f t)
        (Memᴰ.cases_cons m)

    pub unpack_pack : FillsNode y → (f : Field) → fields y (packed y x) f ≡ x f
    unpack_pack s f = ap (λ n. fields y n f) (sym (zero-add (packed y x))) ∙ packed_above 0 y.upward s.chain 0 (omega arith) f (s.each f)

    -- ---- and a packed node is a 32-bit number
    packed-under : (from : ℕ) (fs : List Field) → chained y from fs ≡ true → (r : ℕ) → r < 2 ^ from → r + field_sum y fs x < 2 ^ 32
    packed-under from [] c r h = let l : r < 2 ^ 32 = rw (eqb-true from 32 c) at h in omega arith
    packed-under from (g ∷ fs) c r h =
        let a = above from g fs c in
        let p = (field_bits y g).first in
        let w = width (field_bits y g) in
        let hr : r < 2 ^ p = rw a.first h in
        subst (λ n. n < 2 ^ 32) (add_assoc r (x g * 2 ^ p) (field_sum y fs x))
        (packed-under (p + w) fs a.rest (r + x g * 2 ^ p) (field_below r (x g) p w hr (small g)))

    pub packed-below : FillsNode y → packed y x < 2 ^ 32
    packed-below s = subst (λ n. n < 2 ^ 32) (zero-add (packed y x)) (packed-under 0 y.upward s.chain 0 (omega arith))
