-- No column breaks. The idea: a page that is written has passed its checks, so each word shown has room in its row and each byte can be
-- shown; rows of one length then stand where they are looked for.
use Rattle.std.specs.Prelude.{◌≡◌, refl, Bool, true, ◌⊎◌, List, [], ◌∷◌, ◌++◌, map, ℕ, zero, suc, ◌+◌, ◌-◌, ◌^◌, ◌≤◌, ◌<◌, ltb, get_or, drop}
use Rattle.std.proofs.Common.{sym, ap, ◌∙◌, inl, inr, add-zero, arith, lit<, ltb-false, take_at}
use Rattle.std.proofs.Math.Path.{subst}
use Rattle.std.proofs.Math.Bool.{false}
use Rattle.std.proofs.Math.ListN.{length, replicate}
use Rattle.std.proofs.lemmas.List.{length-map}
use Rattle.laws.specs.Cases.{or_false-left, or_false-right}
use Rattle.laws.specs.Lists.{All, all_append, all_weaken, all_members, some_of}
use Rattle.laws.specs.Members.{none_of}
use Rattle.answers.specs.Answers.{gives}
use Rattle.decimal.specs.Decimal.{decimal}
use Rattle.decimal.specs.DecimalLaws.{decimal-length, decimal-digits, decimal-value}
use Rattle.lookup.specs.Steps.{on}
use Rattle.page.specs.Rows.{Widths, ShownWord, page_widths, word_rows, blank, blanks, left_aligned, right_aligned, more_mark, label_of, row_length, page_length}
use Rattle.page.specs.Rows.{number_column, word_column, row_of, blank_row, page_rows, page_text}
use Rattle.page.specs.Page.{shown_tiles, outside, page_written, page_words, write_page}
use Rattle.page.specs.RowsLaws.{all_replicate, all-joined, HasRoom, row-length, word_row, blank-row, page-length, page-row}
use Rattle.page.specs.ShownLaws.{OfNumber, Numbered, PagePassed, page-passed}
use Rattle.page.specs.Columns.{page_in, row_at, WideEnough, Printable, InColumns, Columns}

-- ---- a word has room in its row
digits-within : (k n : ℕ) → 0 < k → n < 10 ^ k → length (decimal n) ≤ k
digits-within zero n z h = absurd (omega arith)
digits-within (suc k) n z h = decimal-length k n h

-- the page's own columns hold every number
pub page_wide : WideEnough page_widths
page_wide = (lit< tt, lit< tt)

module _ (w : Widths) (wide : WideEnough w) where
  pub digits-fit : (n : ℕ) → n ≤ w.greatest → length (decimal n) ≤ w.number
  digits-fit n h = digits-within w.number n wide.0 (omega (arith, wide.1))

  has_room : (n : ℕ) (e : ShownWord) → OfNumber w n e → HasRoom w e
  has_room n e h =
      record {
        digits = rw h.number (digits-fit n h.narrow);
        tiles = h.tiles;
      }

  pub have-room : (n : ℕ) (es : List ShownWord) → Numbered w n es → All (HasRoom w) es
  have-room n [] h = tt
  have-room n (e ∷ es) h = (has_room n e h.0, have-room (suc n) es h.1)

  -- ---- and stands in its columns
  last-mark : (more : Bool) (after : ℕ) → (more ≡ true → after ≡ 0) → ((more_mark more ≡ 0x2B) × (after ≡ 0)) ⊎ (more_mark more ≡ blank)
  last-mark true after h = inl (refl, h refl)
  last-mark false after h = inr refl

  in_columns : (labels : List ℕ) (n : ℕ) (e : ShownWord) → OfNumber w n e → InColumns w n (row_of w labels e)
  in_columns labels n e h =
      let room = has_room n e h in
      let text = map (label_of labels) e.tiles in
      let same = length-map e.tiles (label_of labels) in
      record {
        number = number_column w e.number;
        word = word_column w labels e.tiles;
        mark = more_mark e.more;
        are = refl;
        number-column = record {
          before = w.number - length (decimal e.number);
          digits = decimal e.number;
          are = refl;
          size = omega (arith, room.digits);
          each = decimal-digits e.number;
          value = decimal-value e.number ∙ h.number;
          shortest = ap decimal h.number;
        };
        word-column = record { labels = text; after = w.word - length text; are = refl; size = omega (arith, same, h.tiles) };
        last-column = last-mark e.more (w.word - length text) (λ m. omega (arith, same, h.full m));
        size = row-length w labels e room;
      }

-- ---- the r-th word has the r-th number
pub numbered-at : (w : Widths) (n : ℕ) (es : List ShownWord) → Numbered w n es → (r : ℕ) (z : ShownWord) → r < length es
    → OfNumber w (n + r) (get_or es r z)
numbered-at w n [] h r z k = absurd (omega arith)
numbered-at w n (e ∷ es) h zero z k = rw (add-zero n) h.0
numbered-at w n (e ∷ es) h (suc r) z k =
    let at : suc n + r ≡ n + suc r = omega arith in
    subst (λ i. OfNumber w i (get_or es r z)) at (numbered-at w (suc n) es h.1 r z (omega arith))

-- ---- bytes that can be shown
pub inside : (b : ℕ) → outside b ≡ false → Printable b
inside b e = (
  ltb-false b 0x20 (or_false-left (ltb b 0x20) (ltb 0x7E b) e),
  ltb-false 0x7E b (or_false-right (ltb b 0x20) (ltb 0x7E b) e),
)

all-inside : (f : ℕ → ℕ) (ts : List ℕ) → some_of (λ t. outside (f t)) ts ≡ false → All (λ t. Printable (f t)) ts
all-inside f ts e = all_members _ ts (λ t m. inside (f t) (none_of (λ u. outside (f u)) ts e t m))

all_map : (f : ℕ → ℕ) (ts : List ℕ) → All (λ t. Printable (f t)) ts → All Printable (map f ts)
all_map f [] h = tt
all_map f (t ∷ ts) h = (h.0, all_map f ts h.1)

append_parts : (P : ℕ → Type 0) (xs ys : List ℕ) → All P (xs ++ ys) → All P xs × All P ys
append_parts P [] ys h = (tt, h)
append_parts P (x ∷ xs) ys h = let r = append_parts P xs ys h.1 in ((h.0, r.0), r.1)

blanks-shown : (n : ℕ) → All Printable (blanks n)
blanks-shown n = all_replicate Printable n blank (omega arith)

left-shown : (n : ℕ) (text : List ℕ) → All Printable text → All Printable (left_aligned n text)
left-shown n text h = let k = n - length text in all_append Printable text (blanks k) h (blanks-shown k)

right-shown : (n : ℕ) (text : List ℕ) → All Printable text → All Printable (right_aligned n text)
right-shown n text h = let k = n - length text in all_append Printable (blanks k) text (blanks-shown k) h

digits-shown : (n : ℕ) → All Printable (decimal n)
digits-shown n = all_weaken (λ b. (0x30 ≤ b) × (b ≤ 0x39)) Printable (λ b d. omega (arith, d)) (decimal n) (decimal-digits n)

mark-shown : (more : Bool) → Printable (more_mark more)
mark-shown true = omega arith
mark-shown false = omega arith

module _ (w : Widths) (labels : List ℕ) where
  row-shown : (e : ShownWord) → All (λ t. Printable (label_of labels t)) e.tiles → All Printable (row_of w labels e)
  row-shown e h =
      let number = right-shown w.number (decimal e.number) (digits-shown e.number) in
      let word = left-shown w.word (map (label_of labels) e.tiles) (all_map (label_of labels) e.tiles h) in
      all_append Printable (number_column w e.number) _ number
      (omega arith, all_append Printable (word_column w labels e.tiles) _ word (mark-shown e.more, tt))

  rows-shown : (es : List ShownWord) → All (λ t. Printable (label_of labels t)) (shown_tiles es) → All (All Printable) (map (row_of w labels) es)
  rows-shown [] h = tt
  rows-shown (e ∷ es) h =
      let parts = append_parts _ e.tiles (shown_tiles es) h in (row-shown e parts.0, rows-shown es parts.1)

  page-shown : (title : List ℕ) (es : List ShownWord) → All Printable title → All (λ t. Printable (label_of labels t)) (shown_tiles es)
      → All Printable (page_text w labels title es)
  unfolding page_rows
  page-shown title es t h =
      let free = replicate (word_rows - length es) (blank_row w) in
      all-joined Printable (page_rows w labels title es) (
        left-shown (row_length w) title t,
        all_append (All Printable) (map (row_of w labels) es) free (rows-shown es h)
            (all_replicate (All Printable) (word_rows - length es) (blank_row w) (blanks-shown (row_length w))),
      )

-- ---- the page
module _ (w : Widths) (wide : WideEnough w) (nodes counts labels title : List ℕ) (p first : ℕ) where
  module _ (es : List ShownWord) (ok : PagePassed w nodes counts labels title p first es) where
    room : All (HasRoom w) es
    room = have-room w wide first es ok.numbered

    abbrev page : List ℕ
    page = page_text w labels title es

    -- a row of the page, by its place
    pub row_is : (r : ℕ) → r ≤ word_rows → row_at w page r ≡ get_or (page_rows w labels title es) r []
    row_is = page-row w labels title es ok.most ok.short room

    text-columns : Columns w title first page
    unfolding page_rows
    text-columns =
        let z : ShownWord = record { number = 0; tiles = []; more = false } in
        record {
          size = page-length w labels title es ok.most ok.short room;
          bytes = page-shown w labels title es (all-inside (λ b. b) title ok.title-inside) (all-inside (label_of labels) (shown_tiles es) ok.labels-inside);
          title-fits = ok.short;
          title-row = row_is 0 (omega arith);
          shown = length es;
          most = ok.most;
          words = λ r h.
              subst (InColumns w (first + r)) (sym (row_is (suc r) (omega (arith, ok.most)) ∙ word_row w labels title es r z h))
              (in_columns w wide labels (first + r) (get_or es r z) (numbered-at w first es ok.numbered r z h));
          rest = λ r h k. row_is (suc r) k ∙ blank-row w labels title es r h k;
        }

    pub page-is : (lent : List ℕ) → page_words w nodes counts labels title p first (length lent) ≡ on es
        → page_in w (write_page w nodes counts labels title p first lent) ≡ page
    page-is lent e =
        ap (λ x. page_in w (page_written w labels title lent x)) e
        ∙ take_at page (drop (page_length w) lent) (page_length w) (page-length w labels title es ok.most ok.short room)

  pub columns : (lent : List ℕ) → (write_page w nodes counts labels title p first lent).answer ≡ gives []
      → Columns w title first (page_in w (write_page w nodes counts labels title p first lent))
  columns lent e =
      let r = page-passed w nodes counts labels title p first lent e in
      subst (Columns w title first) (sym (page-is r.0 r.2 lent r.1)) (text-columns r.0 r.2)
