-- `walking::walk_rows` meets its contract: what the walks that are left find, after what is held, is what all walks find.
use native.Mathlib.Omega.{arith}
use mathlib.Core.Path.{◌≡◌, sym, ap, ◌∙◌}
use mathlib.Core.List.{List}
use Prim.Native.Nat.{ℕ, ◌+◌, ◌-◌, ◌≤◌, ◌<◌}
use lib.Dec.{ltb}
use borrow.Author.Tests.{ltb-true, ltb-false}
use lib.ListN.{length, drop, length-take, length-drop}
use lib.Seq.{length-take-le}
use Rattle.std.proofs.lemmas.Result.{err_from_is_err_and}
use Rattle.laws.specs.Cases.{split}
use Rattle.page.specs.Rows.{page_widths, word_rows}
use Rattle.page.specs.Said.{found_try}
use Rattle.std.specs.Prelude.{Result, Ok, Option as Maybe, None}
use Rattle.lookup.specs.declared.refusals.LookupRefusal.{LookupRefusal}
use Rattle.page.proofs.RowByRow as laws
use Rattle.page.proofs.walking.walk_rows.Goals as goal
use Rattle.page.proofs.walking.walk_rows.Goals.{After-find_row, After-loop-row, After-numbered_rows-rows, In-loop-row, In_default}

-- what is asked
abbrev walks : After-numbered_rows-rows → laws.Walks
walks s = let a = s.args in laws.page_walks a.nodes.now a.counts.now a.p a.first

-- a turn of the loop
module _ (s : In-loop-row) where
  abbrev asked : laws.Walks
  asked = walks (goal.at.In-loop-row s).After-numbered_rows-rows

  abbrev tiles : List ℕ
  tiles = s.loop-row.tiles

  abbrev sizes : List ℕ
  sizes = s.loop-row.sizes

  abbrev row : ℕ
  row = s.loop-row.row

  abbrev count : ℕ
  count = s.loop-row.count

  so : laws.SoFar asked tiles sizes row count
  so = s.loop-row.invariant

  here : row < word_rows
  here = omega (arith, s.loop-row-test.true, s.numbered_rows-rows.ensures)

  narrow : asked.first + row ≤ page_widths.greatest
  narrow = omega (arith, s.loop-row-test.true, s.numbered_rows-rows.ensures)

-- once the next number is walked
module _ (s : After-find_row) where
  abbrev turn : In-loop-row
  turn = (goal.at.After-find_row s).In-loop-row

  abbrev after : List ℕ
  after = s.find_row.new.word

  long : length after ≡ page_widths.word
  long =
      omega (
        arith,
        s.find_row.ensures.size,
        length-take (count turn + page_widths.word - count turn) (drop (count turn) (tiles turn)),
        length-drop (count turn) (tiles turn),
        laws.next_fits (so turn) (here turn),
        (so turn).sizes-are.0,
      )

  found : {r : Result (Maybe ℕ) LookupRefusal} → s.find_row.result ≡ r → laws.Found (asked turn) (tiles turn) (sizes turn) (row turn) (count turn) after r
  found e =
      record {
        so = so turn;
        here = here turn;
        narrow = narrow turn;
        long = long;
        found = ap (λ r. found_try ((asked turn).first + row turn) r after) (sym e) ∙ s.find_row.ensures.found;
      }

pub loop-row-init : goal.loop-row-init
loop-row-init c = laws.none_yet (walks c) c.requires

pub overflow_add-word : goal.overflow_add-word
overflow_add-word c = omega (arith, laws.next_fits (so c) (here c))

pub slice_bounds-word-end : goal.slice_bounds-word-end
slice_bounds-word-end c = omega (arith, laws.next_fits (so c) (here c), (so c).sizes-are.0)

-- no word there
module _ (c : In_default) where
  blank : laws.Found (asked (turn (goal.at.In_default c).After-find_row)) c.loop-row.tiles c.loop-row.sizes c.loop-row.row c.loop-row.count c.find_row.new.word (Ok None)
  blank = found (goal.at.In_default c).After-find_row (c.in_ok-size.was ∙ ap Ok c.in_default.is)

pub returns-in_err-size : goal.returns-in_err-size
returns-in_err-size c =
    let p = err_from_is_err_and c.from_residual.result c.from_residual.ensures.1 in
    rw (p.1, p.2) (laws.refused-found (found (goal.at.returns-in_err-size c).After-find_row c.in_err-size.was))

pub slice_bounds-result-end : goal.slice_bounds-result-end
slice_bounds-result-end c = sym (laws.front-long (blank c))

pub invariant_of-result : goal.invariant_of-result
invariant_of-result c = record { fit = laws.blank-fit (blank c) }

pub returns-in_default : goal.returns-in_default
returns-in_default c = laws.blank-found (blank (goal.at.returns-in_default c).In_default)

pub overflow_add-count : goal.overflow_add-count
overflow_add-count c = let t = turn (goal.at.overflow_add-count c).After-find_row in
    omega (arith, laws.next_fits (so t) (here t), c.shown_tiles-count.ensures)

pub loop-row-preserved : goal.loop-row-preserved
loop-row-preserved c =
    let f = found (goal.at.loop-row-preserved c).After-find_row (c.in_ok-size.was ∙ ap Ok c.in-Some.is) in
    laws.one_more f c.shown_tiles-count.ensures

-- the loop ends where no row is left, or where no number is
module _ (c : After-loop-row) where
  abbrev rows : ℕ
  rows = c.numbered_rows-rows.result

  all : laws.SoFar (walks (goal.at.After-loop-row c).After-numbered_rows-rows) c.loop-row.tiles c.loop-row.sizes rows c.loop-row.count
  all = let e : c.loop-row.row ≡ rows = omega arith in rw (← e) c.loop-row.invariant

  narrow-all : c.args.first + rows ≤ page_widths.greatest + 1
  narrow-all = omega (arith, c.numbered_rows-rows.ensures)

pub slice_bounds-result-end-2 : goal.slice_bounds-result-end-2
slice_bounds-result-end-2 c = sym (length-take-le c.loop-row.count c.loop-row.tiles (laws.room (all c)))

pub invariant_of-result-2 : goal.invariant_of-result-2
invariant_of-result-2 c = record { fit = laws.fit (all c) (narrow-all c) }

pub returns : goal.returns
returns c =
    let s = (goal.at.returns c).After-loop-row in
    let k = c.numbered_rows-rows.ensures in
    split (ltb (rows s) word_rows)
    (λ t. laws.numbers-end (all s) (omega (arith, k, ltb-true (rows s) word_rows t)))
    (λ t. laws.rows_end (all s) (omega (arith, ltb-false (rows s) word_rows t)))
