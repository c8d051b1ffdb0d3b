-- The rows are the words of their numbers. The idea: on a graph that counts, the walk of a number below the count gives the whole word or,
-- where the columns are too few, what has room and 16; the walk of any other gives none.
use Rattle.std.specs.Prelude.{◌≡◌, false, List, [], ltb, length, get_or}
use Rattle.std.proofs.Math.Path.{refl, ap}
use Rattle.std.proofs.Common.{sym, ◌∙◌, add-zero, ltb-true, ltb-false, lt-ltb, le-ltb, take_all}
use Rattle.std.proofs.Math.Option.{none, some}
use Prim.Native.Nat.{ℕ, zero, suc, zero-le, ◌+◌, ◌≤◌, ◌<◌}
use native.Mathlib.Omega.{arith}
use Rattle.laws.specs.Cases.{split}
use Rattle.answers.specs.Answers.{gives}
use Rattle.node.specs.Nodes.{kbwg}
use Rattle.graph.specs.Runs.{Graph}
use Rattle.graph.specs.Words.{count}
use Rattle.graph.specs.Counting.{Counts}
use Rattle.export.specs.Written.{Written}
use Rattle.lookup.specs.Steps.{on}
use Rattle.lookup.specs.StepsLaws.{on_eq}
use Rattle.lookup.specs.GraphLent.{GraphLent}
use Rattle.numbers.specs.WordNumbers.{word_at}
use Rattle.numbers.proofs.LentNumbers.{named-lent, cut-lent, none_lent}
use Rattle.page.specs.Rows.{Widths, ShownWord, word_rows, row_of, page_rows}
use Rattle.page.specs.Shown.{shown_at, shown_from}
use Rattle.page.specs.Page.{write_page}
use Rattle.page.specs.RowsLaws.{word_row, blank-row}
use Rattle.page.specs.ShownLaws.{page-passed}
use Rattle.page.specs.Columns.{page_in, row_at, WideEnough}
use Rattle.page.proofs.ColumnsLaws.{row_is, page-is}
use Rattle.page.specs.Shows.{shown_of, words_shown, PageShows}

-- ---- what the walks find
module _ (w : Widths) (g : Graph) (c : Counts w.greatest g) (nodes counted : List ℕ) (is : GraphLent g nodes counted) (p : ℕ) (h : p < length g) where
  walk-shows : (n : ℕ) → n < count kbwg g p → shown_at w nodes counted p n ≡ on (some (shown_of w n (word_at g p n)))
  walk-shows n k =
      let u = word_at g p n in
      let narrow = le-ltb w.greatest n (omega (arith, c.few p h)) in
      rw (narrow, shown_at)
      (split (ltb w.word (length u))
      (λ t. rw (cut-lent w.greatest g c nodes counted is p n w.word h k (ltb-true w.word (length u) t)) (rw t))
      (λ t. let s = ltb-false w.word (length u) t in
      rw (named-lent w.greatest g c nodes counted is p n w.word h k s) (rw (t, take_all w.word u s))))

  walk_ends : (n : ℕ) → count kbwg g p ≤ n → shown_at w nodes counted p n ≡ on none
  walk_ends n k =
      split (ltb w.greatest n)
      (λ t. rw (t, shown_at))
      (λ t. rw (t, shown_at) (rw (none_lent w.greatest g c nodes counted is p n w.word h k)))

  walks_show : (rows n : ℕ) → shown_from w nodes counted p rows n ≡ on (words_shown w g p rows n)
  unfolding shown_from words_shown
  walks_show zero n = refl
  walks_show (suc rows) n =
      split (ltb n (count kbwg g p))
      (λ t. rw (walk-shows n (ltb-true n (count kbwg g p) t)) (rw (walks_show rows (suc n)) (rw (t, words_shown))))
      (λ t. rw (walk_ends n (ltb-false n (count kbwg g p) t)) (rw (t, words_shown)))

-- ---- the r-th of them
module _ (w : Widths) (g : Graph) (p : ℕ) where
  abbrev of_number : ℕ → ShownWord
  of_number n = shown_of w n (word_at g p n)

  words-at : (rows n r : ℕ) (z : ShownWord) → r < rows → n + r < count kbwg g p
      → (r < length (words_shown w g p rows n)) × (get_or (words_shown w g p rows n) r z ≡ of_number (n + r))
  unfolding words_shown
  words-at zero n r z h k = absurd (omega arith)
  words-at (suc rows) n zero z h k =
      rw (lt-ltb n (count kbwg g p) (omega arith), words_shown) (omega arith, ap of_number (sym (add-zero n)))
  words-at (suc rows) n (suc r) z h k =
      let at : suc n + r ≡ n + suc r = omega arith in
      let later = words-at rows (suc n) r z (omega arith) (omega arith) in
      rw (lt-ltb n (count kbwg g p) (omega arith), words_shown) (omega (arith, later.0), later.1 ∙ ap of_number at)

  words-end : (rows n r : ℕ) → count kbwg g p ≤ n + r → length (words_shown w g p rows n) ≤ r
  unfolding words_shown
  words-end zero n r h = zero-le
  words-end (suc rows) n zero h = rw (le-ltb n (count kbwg g p) (omega arith), words_shown) zero-le
  words-end (suc rows) n (suc r) h =
      split (ltb n (count kbwg g p))
      (λ t. rw (t, words_shown) (omega (arith, words-end rows (suc n) r (omega arith))))
      (λ t. rw (t, words_shown) zero-le)

-- ---- the page
module _ (w : Widths) (wide : WideEnough w) (g : Graph) (c : Counts w.greatest g) (nodes counted : List ℕ) (is : GraphLent g nodes counted)
    (p : ℕ) (h : p < length g) (labels title : List ℕ) (first : ℕ) (lent : List ℕ) where
  abbrev left : Written
  left = write_page w nodes counted labels title p first lent

  abbrev expected : List ShownWord
  expected = words_shown w g p word_rows first

  -- a row of a written page is that of the words expected
  row-expected : left.answer ≡ gives [] → (r : ℕ) → r ≤ word_rows → row_at w (page_in w left) r ≡ get_or (page_rows w labels title expected) r []
  row-expected e r k =
      let found = page-passed w nodes counted labels title p first lent e in
      let es = found.0 in
      let ok = found.2 in
      ap (λ page. row_at w page r) (page-is w wide nodes counted labels title p first es ok lent found.1)
      ∙ row_is w wide nodes counted labels title p first es ok r k
      ∙ ap (λ l. get_or (page_rows w labels title l) r []) (on_eq (sym ok.shown ∙ walks_show w g c nodes counted is p h word_rows first))

  pub page-shows : PageShows w g nodes counted p labels title first lent
  page-shows =
      let z : ShownWord = record { number = 0; tiles = []; more = false } in
      record {
        walks = walks_show w g c nodes counted is p h word_rows first;
        rows = λ e. record {
          words = λ r k b.
              let found = words-at w g p word_rows first r z k b in
              row-expected e (suc r) k ∙ word_row w labels title expected r z found.0 ∙ ap (row_of w labels) found.1;
          rest = λ r k b. row-expected e (suc r) k ∙ blank-row w labels title expected r (words-end w g p word_rows first r b) k;
        };
      }
