-- The header as it is written, field by field, and a field byte by byte.
use mathlib.Core.Path.{◌≡◌, refl, sym, ap, ◌∙◌}
use mathlib.Core.List.{List, [], ◌∷◌, ◌++◌, map}
use Prim.Native.Nat.{ℕ, zero, suc, ◌+◌, ◌<◌}
use native.Mathlib.Omega.{arith}
use lib.ListN.{length, get_or, set, drop, replicate}
use lib.Seq.{sets, get_or-take}
use Rattle.laws.specs.ListWrites.{sets_append, sets-next}
use Rattle.endian.specs.Bytes.{to_bytes}
use Rattle.windows1252.specs.Windows1252.{byte_written}
use Rattle.lxd_file.specs.File.{field, header}
use Rattle.lxd_file.proofs.FileLaws.{length-field}

-- ---- a text, byte by byte
zeros : (n i : ℕ) → get_or {A = ℕ} (replicate n 0) i 0 ≡ 0
zeros zero i = refl
zeros (suc n) zero = refl
zeros (suc n) (suc i) = zeros n i

zeros-after : (l : List ℕ) (n i : ℕ) → get_or (l ++ replicate n 0) i 0 ≡ get_or l i 0
zeros-after [] n i = zeros n i
zeros-after (x ∷ l) n zero = refl
zeros-after (x ∷ l) n (suc i) = zeros-after l n i

field_at : (size : ℕ) (text : List ℕ) (i : ℕ) → i < size → get_or (field size text) i 0 ≡ get_or (map byte_written text) i 0
field_at size text i h = get_or-take size (map byte_written text ++ replicate size 0) i 0 h ∙ zeros-after (map byte_written text) size i

-- one byte more: what is left then gives the whole field
pub text-next : (file before : List ℕ) (from size : ℕ) (text : List ℕ) (i b : ℕ) → i < size → b ≡ get_or (map byte_written text) i 0
    → sets file (from + i) (drop i (field size text)) ≡ sets before from (field size text)
    → sets (set file (from + i) b) (from + (i + 1)) (drop (i + 1) (field size text)) ≡ sets before from (field size text)
text-next file before from size text i b h e rest =
    let n = length-field size text in
    ap (λ x. sets (set file (from + i) x) (from + (i + 1)) (drop (i + 1) (field size text))) (e ∙ sym (field_at size text i h))
    ∙ sym (sets-next file (field size text) from i (omega arith)) ∙ rest

-- ---- field after field
pub written_after : (l a b : List ℕ) (i j : ℕ) → i + length a ≡ j → sets (sets l i a) j b ≡ sets l i (a ++ b)
written_after l a b i j e = ap (λ k. sets (sets l i a) k b) (sym e) ∙ sym (sets_append l i a b)

module _ (l : List ℕ) (nodes : ℕ) (title date : List ℕ) (words : ℕ) where
  abbrev counted : List ℕ
  counted = sets (sets l 0 (to_bytes 64)) 4 (to_bytes nodes)

  fields-written : sets (sets (sets counted 8 (field 32 title)) 40 (field 20 date)) 60 (to_bytes words) ≡ sets l 0 (header nodes title date words)
  fields-written =
      written_after (sets counted 8 (field 32 title)) (field 20 date) (to_bytes words) 40 60 (ap (40 +◌) (length-field 20 date))
      ∙ written_after counted (field 32 title) (field 20 date ++ to_bytes words) 8 40 (ap (8 +◌) (length-field 32 title))

  pub header-written : {a b c d e : List ℕ} → a ≡ sets l 0 (to_bytes 64) → b ≡ sets a 4 (to_bytes nodes) → c ≡ sets b 8 (field 32 title)
      → d ≡ sets c 40 (field 20 date) → e ≡ sets d 60 (to_bytes words) → e ≡ sets l 0 (header nodes title date words)
  header-written h i j k m =
      let counts = i ∙ ap (λ x. sets x 4 (to_bytes nodes)) h in
      let texts = k ∙ ap (λ x. sets x 40 (field 20 date)) (j ∙ ap (λ x. sets x 8 (field 32 title)) counts) in
      m ∙ ap (λ x. sets x 60 (to_bytes words)) texts ∙ fields-written
