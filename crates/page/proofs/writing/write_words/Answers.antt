-- `writing::write_words` meets its contract: a page is its title, the blanks after it, the rows of the words and blanks, one after the other.
use native.Mathlib.Omega.{arith}
use mathlib.Core.Path.{◌≡◌, refl, sym, ap, ◌∙◌}
use mathlib.Core.List.{List, [], ◌++◌, append-nil}
use Prim.Native.Nat.{ℕ, ◌+◌, ◌-◌, ◌*◌, ◌≤◌}
use lib.ListN.{length, drop, length-replicate}
use Rattle.laws.specs.ListWrites.{sets-front}
use Rattle.endian.specs.Putting.{Putting, put-start, put_next, put-room, put-done}
use Rattle.endian.specs.Puts.{next-put}
use Rattle.page.specs.Rows.{page_widths, ShownWord, blank, blanks, page_text, word_rows, row_length, page_length}
use Rattle.page.specs.RowsLaws.{page-length}
use Rattle.page.proofs.ColumnsLaws.{page_wide}
use Rattle.page.specs.Held.{held, held_rows}
use Rattle.page.proofs.HeldLaws.{held-length, held-room}
use Rattle.page.proofs.PutLaws.{after_title, after_rows, page-parts}
use Rattle.page.proofs.writing.write_words.Goals as goal
use Rattle.page.proofs.writing.write_words.Goals.{After-put_blanks-rows, After-put_rows-end, Start}

module _ (s : Start) where
  abbrev labels : List ℕ
  labels = s.args.labels.now

  abbrev title : List ℕ
  title = s.args.title.now

  abbrev tiles : List ℕ
  tiles = s.args.words.tiles.now

  abbrev sizes : List ℕ
  sizes = s.args.words.sizes.now

  abbrev first : ℕ
  first = s.args.words.first

  abbrev es : List ShownWord
  es = held page_widths.word first tiles sizes

  abbrev text : List ℕ
  text = page_text page_widths labels title es

  -- the page has room
  long : length text ≡ page_length page_widths
  long =
      page-length page_widths labels title es
      (omega (arith, held-length page_widths.word first tiles sizes, s.args.words.fit.rows))
      s.requires.lengths.0
      (held-room page_widths page_wide first tiles sizes s.args.words.fit.narrow)

  room : 0 + length text ≤ length s.args.page.now
  room = omega (arith, long, s.requires.lengths.1)

  abbrev PageLeft : List ℕ → List ℕ → ℕ → Type 0
  PageLeft rest page at = Putting text s.args.page.now 0 rest page at

  abbrev after-title : List ℕ
  after-title = after_title page_widths labels title es

  abbrev after-rows : List ℕ
  after-rows = after_rows page_widths labels title es

-- the page after the title's row
module _ (s : After-put_blanks-rows) where
  abbrev begun : Start
  begun = (goal.at.After-put_blanks-rows s).Start

  title-put : PageLeft begun (after-title begun) s.put_blanks-rows.new.out s.put_blanks-rows.result
  title-put =
      let b = begun in
      let from : length (title b) ≡ 0 + length (title b) = omega arith in
      let parts = page-parts page_widths (labels b) (title b) (es b) in
      let wrote = s.write_bytes.ensures in
      let begin = put_next (put-start (text b) b.args.page.now 0) (title b) _ parts from wrote in
      next-put (after-title b) begin refl s.put_blanks-rows.ensures

-- the page after the words: blanks are left, to its end
module _ (s : After-put_rows-end) where
  abbrev titled : After-put_blanks-rows
  titled = (goal.at.After-put_rows-end s).After-put_blanks-rows

  abbrev start : Start
  start = (goal.at.After-put_rows-end s).Start

  abbrev end : ℕ
  end = s.put_rows-end.result

  rows-put : PageLeft start (after-rows start) s.put_rows-end.new.out end
  rows-put = next-put (after-rows start) (title-put titled) refl s.put_rows-end.ensures

  end-left : page_length page_widths - end ≡ (word_rows - length (es start)) * row_length page_widths
  end-left = omega (arith, rows-put.place, long start, length-replicate ((word_rows - length (es start)) * row_length page_widths) blank)

  within : end ≤ page_length page_widths
  within = omega (arith, rows-put.place, long start)

  splits : after-rows start ≡ blanks (page_length page_widths - end) ++ []
  splits = ap blanks (sym end-left) ∙ sym (append-nil (blanks (page_length page_widths - end)))

pub put_rows-end-requires : goal.put_rows-end-requires
put_rows-end-requires c = let s = (goal.at.put_rows-end-requires c).After-put_blanks-rows in
    let b = begun s in
    let rows = held_rows page_widths (labels b) (first b) (tiles b) (sizes b) in
    record { room = put-room (title-put s) rows (after-rows b) refl (room b); labelled = b.requires.labelled }

pub overflow_sub-end : goal.overflow_sub-end
overflow_sub-end c = within (goal.at.overflow_sub-end c).After-put_rows-end

pub put_blanks-requires : goal.put_blanks-requires
put_blanks-requires c = let s = (goal.at.put_blanks-requires c).After-put_rows-end in
    omega (arith, within s, (rows-put s).size, room (start s), long (start s))

pub returns : goal.returns
returns c = let s = (goal.at.returns c).After-put_rows-end in
    let b = start s in
    let page = b.args.page.now in
    put-done (next-put [] (rows-put s) (splits s) c.put_blanks.ensures) refl
    ∙ sets-front page (text b) (omega (arith, room b))
    ∙ ap (λ n. text b ++ drop n page) (long b)
