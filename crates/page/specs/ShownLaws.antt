-- What a page shows, whatever it is lent: the words of the numbers from the first on, none too wide, none with more tiles than columns;
-- and what a page that is written has passed. The idea: along walks and checks, what goes on has a property, and what stops is a refusal.
use Rattle.std.specs.Prelude.{◌≡◌, refl, true, false, List, [], ◌∷◌, eqb, ltb, length}
use Rattle.std.proofs.Common.{sym, ap, true≢false, arith}
use Rattle.std.proofs.Math.Option.{Option, none, some}
use Prim.Native.Nat.{ℕ, zero, suc, zero-le, ◌≤◌}
use borrow.Author.Tests.{ltb-false, eqb-true}
use Rattle.laws.specs.Cases.{split, or_false-left, or_false-right}
use Rattle.laws.specs.Lists.{some_of}
use Rattle.answers.specs.Answers.{Answer, gives, nothing, refused, IsRefusal, Row, first_of}
use Rattle.answers.specs.RowLaws.{row-passed, row-refusal, gives≢refused}
use Rattle.graph.specs.Words.{Word}
use Rattle.lookup.specs.Steps.{Try, on, stop, ◌>>=◌}
use Rattle.lookup.specs.StepsLaws.{Comes, then-Comes}
use Rattle.lookup.specs.Walks.{word_by_index}
use Rattle.lookup.specs.WalkedLaws.{WalkLeaves, by-index-walked}
use Rattle.page.specs.Rows.{Widths, ShownWord, word_rows, row_length, label_of}
use Rattle.page.specs.Shown.{shown_by, shown_at, shown_from}
use Rattle.page.specs.Page.{shown_tiles, outside, checking, lent_row, label_row, page_written, page_words, write_page}

-- ---- what goes on has the property, and what stops is a refusal
abbrev OnOrRefused : {A : Type 0} → (A → Type 0) → Try A → Type 0
OnOrRefused P x = Comes P IsRefusal x

then-on : {A B : Type 0} (P : A → Type 0) (R : B → Type 0) (x : Try A) (f : A → Try B) → OnOrRefused P x
    → ((a : A) → x ≡ on a → P a → OnOrRefused R (f a)) → OnOrRefused R (x >>= f)
then-on P R = then-Comes P R IsRefusal

checking-on : (row : Row) (o : Option Answer) → first_of row ≡ o → OnOrRefused (λ _. first_of row ≡ none) (checking o)
checking-on row none e = e
checking-on row (some a) e = rw (row-refusal row e).1 tt

-- ---- the walks
-- a word with its number, as a row can show it; full where it has more
pub record OfNumber (w : Widths) (n : ℕ) (e : ShownWord) : Type 0 where
  pub number : e.number ≡ n
  pub narrow : n ≤ w.greatest
  pub tiles : length e.tiles ≤ w.word
  pub full : e.more ≡ true → length e.tiles ≡ w.word

-- the words of the numbers from n on
abbrev pub Numbered : Widths → ℕ → List ShownWord → Type 0
Numbered w n [] = Unit
Numbered w n (e ∷ es) = OfNumber w n e × Numbered w (suc n) es

abbrev IfSome : {A : Type 0} → (A → Type 0) → Option A → Type 0
IfSome P none = Unit
IfSome P (some a) = P a

module _ (w : Widths) where
  abbrev AtMost : ℕ → ℕ → List ShownWord → Type 0
  AtMost rows n es = (length es ≤ rows) × Numbered w n es

  shown_by_lem : (n : ℕ) (x : Word × Answer) → n ≤ w.greatest → WalkLeaves w.word 0 x → OnOrRefused (IfSome (OfNumber w n)) (shown_by n x)
  shown_by_lem n (tiles, gives vs) h l =
      record { number = refl; narrow = h; tiles = l.fits; full = λ e. absurd (true≢false (sym e)) }
  shown_by_lem n (tiles, nothing) h l = tt
  shown_by_lem n (tiles, refused r vs) h l =
      split (eqb r 16)
      (λ t. rw (t, shown_by) (record { number = refl; narrow = h; tiles = l.fits; full = λ e. l.full (ap (λ k. refused k vs) (eqb-true r 16 t)) }))
      (λ t. rw (t, shown_by) tt)

  module _ (nodes counts : List ℕ) (p : ℕ) where
    shown-at : (n : ℕ) → OnOrRefused (IfSome (OfNumber w n)) (shown_at w nodes counts p n)
    shown-at n =
        split (ltb w.greatest n)
        (λ t. rw (t, shown_at) tt)
        (λ t. rw (t, shown_at) (shown_by_lem n (word_by_index counts nodes w.word p n) (ltb-false w.greatest n t) (by-index-walked counts nodes w.word p n)))

    shown-next : (rows n : ℕ) → OnOrRefused (AtMost rows (suc n)) (shown_from w nodes counts p rows (suc n))
        → (o : Option ShownWord) → IfSome (OfNumber w n) o
        → OnOrRefused (AtMost (suc rows) n) (elim o [ none ↦ on [] | some e ↦ shown_from w nodes counts p rows (suc n) >>= λ es. on (e ∷ es) ])
    shown-next rows n ih none h = (zero-le, tt)
    shown-next rows n ih (some e) h =
        then-on (AtMost rows (suc n)) (AtMost (suc rows) n) (shown_from w nodes counts p rows (suc n)) _ ih
        (λ es _ k. (omega (arith, k.0), (h, k.1)))

    shown-from : (rows n : ℕ) → OnOrRefused (AtMost rows n) (shown_from w nodes counts p rows n)
    unfolding shown_from
    shown-from zero n = (zero-le, tt)
    shown-from (suc rows) n =
        then-on (IfSome (OfNumber w n)) (AtMost (suc rows) n) (shown_at w nodes counts p n) _ (shown-at n)
        (λ o _ h. shown-next rows n (shown-from rows (suc n)) o h)

-- ---- a page that is written
module _ (w : Widths) (nodes counts labels title : List ℕ) (p first : ℕ) where
  -- what it shows passed every check
  pub record PagePassed (es : List ShownWord) : Type 0 where
    pub shown : shown_from w nodes counts p word_rows first ≡ on es
    pub most : length es ≤ word_rows
    pub numbered : Numbered w first es
    pub short : length title ≤ row_length w
    pub title-inside : some_of outside title ≡ false
    pub labels-inside : some_of (λ t. outside (label_of labels t)) (shown_tiles es) ≡ false

  all-passed : (lent : ℕ) → OnOrRefused PagePassed (page_words w nodes counts labels title p first lent)
  unfolding page_words
  all-passed lent =
      let lent_checks = lent_row w title lent in
      then-on (λ _. first_of lent_checks ≡ none) PagePassed (checking (first_of lent_checks)) _ (checking-on lent_checks (first_of lent_checks) refl)
      (λ _ _ a. then-on (AtMost w word_rows first) PagePassed (shown_from w nodes counts p word_rows first) _ (shown-from w nodes counts p word_rows first)
      (λ es s m.
      let label_checks = label_row labels title (shown_tiles es) in
      then-on (λ _. first_of label_checks ≡ none) PagePassed (checking (first_of label_checks)) _ (checking-on label_checks (first_of label_checks) refl)
      (λ _ _ b.
      let title-row = row-passed _ _ _ a in
      let inside = (row-passed _ _ _ (row-passed _ _ _ b).1).0 in
      record {
        shown = s;
        most = m.0;
        numbered = m.1;
        short = ltb-false (row_length w) (length title) title-row.0;
        title-inside = or_false-left (some_of outside title) _ inside;
        labels-inside = or_false-right (some_of outside title) _ inside;
      })))

  written_on : (x : Try (List ShownWord)) (lent : List ℕ) → OnOrRefused PagePassed x → (page_written w labels title lent x).answer ≡ gives []
      → (es : List ShownWord) × (x ≡ on es) × PagePassed es
  written_on (on es) lent h e = (es, refl, h)
  written_on (stop (gives vs)) lent h e = absurd h
  written_on (stop nothing) lent h e = absurd h
  written_on (stop (refused n vs)) lent h e = gives≢refused (sym e)

  pub page-passed : (lent : List ℕ) → (write_page w nodes counts labels title p first lent).answer ≡ gives []
      → (es : List ShownWord) × (page_words w nodes counts labels title p first (length lent) ≡ on es) × PagePassed es
  page-passed lent e = written_on (page_words w nodes counts labels title p first (length lent)) lent (all-passed (length lent)) e
