-- `lines::put_tiles` meets its contract: the first tile, and then each other after a space; what is left to put, put where it goes, gives
-- the whole.
use Rattle.std.proofs.Common.{ℕ, List, ◌++◌, ◌≡◌, ◌∙◌, refl, ap, arith, ◌+◌, length, get_or, drop, length-append}
use Rattle.decimal.specs.Decimal.{decimal}
use Rattle.endian.specs.Putting.{put-start}
use Rattle.endian.specs.Puts.{put-none, put-size, put_both, next-put, all-put}
use Rattle.listing.specs.Lines.{spaced, parted}
use Rattle.listing.proofs.LinesLaws.{parted-none, next-parts, spaced-next, spaced-done}
use Rattle.listing.proofs.PutLaws.{put-spaced}
use Rattle.listing.proofs.lines.put_tiles.Goals as goal
use Rattle.listing.proofs.lines.put_tiles.Goals.{After-from, In-Some}

pub returns-in_default : goal.returns-in_default
returns-in_default c = rw (parted-none c.args.word.now c.in_default.ensures.cases) put-none

-- the word's first tile and the others
module _ (s : In-Some) where
  abbrev rest : List ℕ
  rest = s.in-Some.rest.now

  abbrev first : ℕ
  first = s.in-Some.field-0-0.now

  parts : parted s.args.word.now ≡ decimal first ++ spaced rest
  unfolding parted
  parts = ap parted s.in-Some.ensures.cases.0

-- the first has room, and the others after it
size : (c : After-from) → let s = (goal.at.After-from c).In-Some in
    length (parted s.args.word.now) ≡ length (decimal c.from.result) + length (spaced (rest s))
size c =
    let s = (goal.at.After-from c).In-Some in
    ap length (parts s) ∙ length-append (decimal (first s)) (spaced (rest s)) ∙ rw (← c.from.ensures)

pub put_number-end-requires : goal.put_number-end-requires
put_number-end-requires c = omega (arith, c.requires, size (goal.at.put_number-end-requires c).After-from)

pub loop-tile-init : goal.loop-tile-init
loop-tile-init c =
    let p = c.put_number-end.ensures in
    record { room = omega (arith, c.requires, size (goal.at.loop-tile-init c).After-from, p.place, put-size p); left = put-start _ _ _ }

pub put_byte-after-requires : goal.put_byte-after-requires
put_byte-after-requires c =
    let l = c.loop-tile in
    let others = c.in-Some.rest.now in
    let n = next-parts others l.tile-index (get_or others l.tile-index 0) c.loop-tile-test.true refl in
    omega (arith, l.invariant.room, l.invariant.left.size, l.invariant.left.place, n)

pub put_number-end-requires-in-loop-tile : goal.put_number-end-requires-in-loop-tile
put_number-end-requires-in-loop-tile c =
    let l = c.loop-tile in
    let t = c.from-in-loop-tile in
    let p = c.put_byte-after.ensures in
    let n = next-parts c.in-Some.rest.now l.tile-index t.result c.loop-tile-test.true t.ensures in
    omega (arith, l.invariant.room, l.invariant.left.size, l.invariant.left.place, p.place, put-size p, n)

pub loop-tile-preserved : goal.loop-tile-preserved
loop-tile-preserved c =
    let l = c.loop-tile in
    let others = c.in-Some.rest.now in
    let i = l.tile-index in
    let t = c.from-in-loop-tile in
    let p = put-spaced others t.result i t.ensures c.put_byte-after.ensures c.put_number-end-in-loop-tile.ensures in
    record { room = l.invariant.room; left = next-put (spaced (drop (i + 1) others)) l.invariant.left (spaced-next others i c.loop-tile-test.true) p }

pub returns : goal.returns
returns c =
    let l = c.loop-tile in
    let s = (goal.at.returns c).In-Some in
    rw (parts s, ← c.from.ensures) (put_both c.put_number-end.ensures (all-put l.invariant.left (spaced-done (rest s) l.tile-index c.loop-tile-test.false)))
