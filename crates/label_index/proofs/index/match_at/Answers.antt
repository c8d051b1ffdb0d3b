-- `index::match_at` meets its contract: no line before the place reached matches, and the first that does is the one taken.
use Rattle.std.proofs.Common.{◌≡◌, ℕ, List, ◌+◌, ◌-◌, ◌≤◌, ◌<◌, sym, ◌∙◌, arith, length, get_or, drop}
use Rattle.std.proofs.lemmas.List.{take_rest}
use Rattle.label_index.specs.Labels.{labels_in}
use Rattle.label_index.specs.Index.{IndexReady, FirstByteRange}
use Rattle.label_index.specs.Matches.{starts_with}
use Rattle.label_index.proofs.RangeLaws.{first_of, range_of}
use Rattle.label_index.proofs.SearchLaws.{start_at, size_at, bytes_at, IndexEntry, entry, none_more, search-found, search_absent}
use Rattle.label_index.proofs.index.match_at.Goals as goal
use Rattle.label_index.proofs.index.match_at.Goals.{After-label_matches, In-loop-k, Start}

-- the index, and what is left of the line
module _ (s : Start) where
  abbrev file : List ℕ
  file = s.args.file.now

  abbrev starts : List ℕ
  starts = s.args.starts.now

  abbrev order : List ℕ
  order = s.args.order.now

  abbrev text : List ℕ
  text = drop s.args.i s.args.line.now

  abbrev byte : ℕ
  byte = get_or s.args.line.now s.args.i 0

  abbrev ready : IndexReady file (labels_in file) starts order s.args.begin.now s.args.end.now
  ready = s.requires.0

  range : FirstByteRange (length (labels_in file)) order (get_or text 0 0) (get_or s.args.begin.now byte 0) (get_or s.args.end.now byte 0)
  range = rw (first_of s.args.line.now s.args.i) (range_of ready byte)

-- the line at the place reached
module _ (c : In-loop-k) where
  abbrev start : Start
  start = (goal.at.In-loop-k c).Start

  there : c.loop-k.k < length (labels_in (file start))
  there = omega (arith, c.loop-k-test.true, c.from-b.ensures, (range start).fits)

  here : IndexEntry (file start) (labels_in (file start)) (starts start) (order start) c.loop-k.k
  here = entry (ready start).index c.loop-k.k there

-- the label there is compared
module _ (c : After-label_matches) where
  abbrev turn : In-loop-k
  turn = (goal.at.After-label_matches c).In-loop-k

  compared : c.label_matches.result ≡ starts_with (bytes_at (file (start turn)) (starts (start turn)) (order (start turn)) turn.loop-k.k) (text (start turn))
  compared =
      let s = start turn in
      let from = start_at (starts s) (order s) turn.loop-k.k in
      let size = size_at (order s) turn.loop-k.k in
      let e : from + size - from ≡ size = omega arith in
      rw (e, take_rest) at c.label_matches.ensures

pub bounds-starts-key : goal.bounds-starts-key
bounds-starts-key c =
    let t = (goal.at.bounds-starts-key c).In-loop-k in
    let e = here t in
    omega (arith, e.place, e.lent, (ready (start t)).starts-lent)

pub overflow_add-start : goal.overflow_add-start
overflow_add-start c = omega (arith, (here (goal.at.overflow_add-start c).In-loop-k).inside)

pub slice_bounds-label_matches-end : goal.slice_bounds-label_matches-end
slice_bounds-label_matches-end c = omega (arith, (here (goal.at.slice_bounds-label_matches-end c).In-loop-k).inside)

pub returns-then-label_matches : goal.returns-then-label_matches
returns-then-label_matches c =
    let s = (goal.at.returns-then-label_matches c).After-label_matches in
    let t = turn s in
    sym (search-found (ready (start t)).index (text (start t)) (range (start t)) t.loop-k.k (there t) t.loop-k.invariant (sym (compared s) ∙ c.if-label_matches.true))

pub loop-k-preserved : goal.loop-k-preserved
loop-k-preserved c =
    let s = (goal.at.loop-k-preserved c).After-label_matches in
    let t = turn s in
    none_more (file (start t)) (starts (start t)) (order (start t)) (text (start t)) _ t.loop-k.k t.loop-k.invariant (sym (compared s) ∙ c.if-label_matches.false)

pub returns : goal.returns
returns c =
    let s = (goal.at.returns c).Start in
    let past : get_or s.args.end.now (byte s) 0 ≤ c.loop-k.k = rw c.from-b.ensures at c.loop-k-test.false in
    sym (search_absent (ready s).index (text s) (range s) (λ j h k. c.loop-k.invariant j h (omega arith)))
