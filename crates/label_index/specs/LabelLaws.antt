-- The record of a line: by what stands in it, one test after the other, and by what it is (`record-written`, `written-record`).
use Rattle.std.specs.Prelude.{◌≡◌, refl, ◌&&◌, ◌≢◌, ℕ, suc, ◌+◌, ◌-◌, ◌≤◌, ◌<◌, eqb, leb, get_or, drop}
use Rattle.std.proofs.Common.{sym, ap₂, ◌∙◌, subst, ⊎_elim, le-leb, leb-true, eqb-true, eq-eqb, ne_eqb, drop_of_length-le, length-append, drop-cons, drop_at}
use Rattle.std.proofs.Math.Path.{ap}
use mathlib.Core.List.Memᴰ
use mathlib.Core.List.{List, [], ◌∷◌, ◌++◌, Memᴰ}
use Rattle.std.proofs.Math.Option.{none, some, some-injective}
use native.Mathlib.Omega.{arith}
use Rattle.std.proofs.Math.Numerals.{add-one}
use Rattle.std.proofs.lemmas.Bool.{lt-leb}
use Rattle.std.proofs.Math.ListN.{length, length-drop}
use Rattle.std.proofs.Math.Seq.{append_snoc}
use Rattle.laws.specs.Cases.{split, split_option, some≢none, and_left, and_right}
use Rattle.decimal.specs.Decimal.{decimal}
use Rattle.text.specs.Lines.{lines}
use Rattle.text.specs.Tiles.{leading_tile}
use Rattle.text.specs.TileLaws.{leading_written, written-leads}
use Rattle.label_index.specs.Labels.{Label, GoodLabel, label_where, after_digits, after_tile, record_of, records_of, labels_in}

-- ---- what follows a tile's digits
module _ (t d : ℕ) (line : List ℕ) where
  pub digits-past : length line ≤ d → after_digits t (drop d line) ≡ none
  unfolding after_digits
  digits-past h = rw (drop_of_length-le line h)

  module _ (h : d < length line) where
    pub digits-no_tab : get_or line d 0 ≢ 0x09 → after_digits t (drop d line) ≡ none
    unfolding after_digits
    digits-no_tab n = rw (drop-cons line d 0 h) (rw (ne_eqb (get_or line d 0) 0x09 n))

    tabbed : get_or line d 0 ≡ 0x09 → after_digits t (drop d line)
        ≡ label_where (leb 1 (length line - (d + 1)) && leb (length line - (d + 1)) 15) (t, drop (d + 1) line)
    unfolding after_digits
    tabbed e =
        let l : length (drop (suc d) line) ≡ length line - (d + 1) = let q = length-drop (suc d) line in omega arith in
        rw (drop-cons line d 0 h) (rw (eq-eqb (get_or line d 0) 0x09 e, l, add-one d))

    pub digits-empty : get_or line d 0 ≡ 0x09 → length line ≤ d + 1 → after_digits t (drop d line) ≡ none
    digits-empty e k = tabbed e ∙ rw (lt-leb 1 (length line - (d + 1)) (omega arith))

    pub digits_long : get_or line d 0 ≡ 0x09 → 15 < length line - (d + 1) → after_digits t (drop d line) ≡ none
    digits_long e k =
        tabbed e ∙ rw (le-leb 1 (length line - (d + 1)) (omega arith)) (rw (lt-leb (length line - (d + 1)) 15 k))

    pub digits-label : get_or line d 0 ≡ 0x09 → d + 1 < length line → length line - (d + 1) ≤ 15
        → after_digits t (drop d line) ≡ some (t, drop (d + 1) line)
    digits-label e k m =
        tabbed e ∙ rw (le-leb 1 (length line - (d + 1)) (omega arith)) (rw (le-leb (length line - (d + 1)) 15 m))

-- ---- by its tile
module _ (line : List ℕ) where
  pub label-no-tile : leading_tile line ≡ none → record_of line ≡ none
  unfolding record_of
  label-no-tile e = ap (after_tile line) e

  pub label-tile : (p : ℕ × ℕ) → leading_tile line ≡ some p → record_of line ≡ after_digits p.0 (drop p.1 line)
  unfolding record_of
  label-tile p e = ap (after_tile line) e

-- ---- a line is a record just where it is 02's "tile 1 to 63 (decimal, no leading zero), tab, label of 1 to 15 bytes"
pub record RecordWritten (line : List ℕ) (l : Label) : Type 0 where
  pub good : GoodLabel l
  pub is : line ≡ decimal l.0 ++ 0x09 ∷ l.1

digits-written : (t : ℕ) (s : List ℕ) (l : Label) → 1 ≤ t → t ≤ 63 → after_digits t s ≡ some l
    → GoodLabel l × (decimal t ++ s ≡ decimal l.0 ++ 0x09 ∷ l.1)
unfolding after_digits
digits-written t [] l h k e = some≢none (sym e)
digits-written t (b ∷ label) l h k e =
    split (eqb b 0x09 && (leb 1 (length label) && leb (length label) 15))
    (λ y.
    let i : (t, label) ≡ l = some-injective _ _ (rw y at e) in
    let tab = eqb-true b 0x09 (and_left (eqb b 0x09) (leb 1 (length label) && leb (length label) 15) y) in
    let sizes = and_right (eqb b 0x09) (leb 1 (length label) && leb (length label) 15) y in
    let low = leb-true 1 (length label) (and_left (leb 1 (length label)) (leb (length label) 15) sizes) in
    let high = leb-true (length label) 15 (and_right (leb 1 (length label)) (leb (length label) 15) sizes) in
    subst (λ (m : Label). GoodLabel m × (decimal t ++ b ∷ label ≡ decimal m.0 ++ 0x09 ∷ m.1)) i
    (record { tile_low = h; tile_high = k; some_bytes = low; few_bytes = high }, ap (λ z. decimal t ++ z ∷ label) tab))
    (λ y. some≢none (sym (rw y at e)))

pub record-written : (line : List ℕ) (l : Label) → record_of line ≡ some l → RecordWritten line l
record-written line l e =
    split_option (leading_tile line)
    (λ n. some≢none (sym e ∙ label-no-tile line n))
    (λ p q.
    let w = leading_written line p.0 p.1 q in
    let d = digits-written p.0 (drop p.1 line) l w.low w.high (sym (label-tile line p q) ∙ e) in
    record { good = d.0; is = w.begins ∙ d.1 })

digits-good : (l : Label) → GoodLabel l → after_digits l.0 (0x09 ∷ l.1) ≡ some l
unfolding after_digits
digits-good l g = rw (le-leb 1 (length l.1) g.some_bytes, le-leb (length l.1) 15 g.few_bytes)

pub written-record : (l : Label) → GoodLabel l → record_of (decimal l.0 ++ 0x09 ∷ l.1) ≡ some l
written-record l g =
    let line = decimal l.0 ++ 0x09 ∷ l.1 in
    let size = length (decimal l.0) in
    label-tile line (l.0, size) (written-leads l.0 (0x09 ∷ l.1) g.tile_low g.tile_high refl)
    ∙ ap (after_digits l.0) (drop_at (decimal l.0) (0x09 ∷ l.1) size refl) ∙ digits-good l g

-- ---- where the label stands
-- as the code finds it: from a place of the line on
module _ (line : List ℕ) (t from : ℕ) (e : record_of line ≡ some (t, drop from line)) where
  pub label-begins : from < length line
  label-begins = let g = (record-written line (t, drop from line) e).good.some_bytes in let d = length-drop from line in omega arith

  pub label-size : length line - from ≤ 15
  label-size = let g = (record-written line (t, drop from line) e).good.few_bytes in let d = length-drop from line in omega arith

  pub label-only : (l : Label) → record_of line ≡ some l → l ≡ (t, drop from line)
  label-only l q = some-injective l (t, drop from line) (sym q ∙ e)

  pub label-from : (l : Label) → record_of line ≡ some l → length line - length l.1 ≡ from
  label-from l q =
      let n = ap (λ (m : Label). length m.1) (label-only l q) in
      let d = length-drop from line in
      let b = label-begins in omega arith

-- the label is the end of its line
module _ (line : List ℕ) (l : Label) (e : record_of line ≡ some l) where
  abbrev before : List ℕ
  before = decimal l.0 ++ 0x09 ∷ []

  line-is : line ≡ before ++ l.1
  line-is = (record-written line l e).is ∙ sym (append_snoc (decimal l.0) 0x09 l.1)

  line-length : length line ≡ length before + length l.1
  line-length = ap length line-is ∙ length-append before l.1

  pub label-fits : length l.1 ≤ length line
  label-fits = omega (arith, line-length)

  pub label-ends : drop (length line - length l.1) line ≡ l.1
  label-ends =
      let n : length line - length l.1 ≡ length before = omega (arith, line-length) in
      ap₂ (λ k m. drop k m) n line-is ∙ drop_at before l.1 (length before) refl

-- ---- the records of a file
records_good : (ls : List (List ℕ)) (l : Label) → Memᴰ l (records_of ls) → GoodLabel l
unfolding records_of
records_good [] l m = absurd (Memᴰ.not-nil m)
records_good (line ∷ ls) l m =
    split_option (record_of line)
    (λ n. records_good ls l (rw n at m))
    (λ k e. ⊎_elim
    (λ i. (record-written line l (e ∙ ap some (sym i))).good)
    (λ j. records_good ls l j)
    (Memᴰ.cases_cons (rw e at m)))

pub labels-good : (file : List ℕ) (l : Label) → Memᴰ l (labels_in file) → GoodLabel l
labels-good file l m = records_good (lines file) l m
