-- `batch::batch_from` meets its contract: each line's tiles go into what is left of the buffer, and the batch from the place after it answers
-- for the whole.
use Rattle.std.proofs.Common.{◌≡◌, ℕ, List, [], ◌++◌, ◌-◌, ◌<◌, refl, ap, ◌∙◌, subst, arith, length, take, drop, Ok}
use Rattle.answers.specs.Answers.{Answer, nothing, refused}
use Rattle.label_index.specs.Labels.{Label, labels_in}
use Rattle.typed.specs.Said.{said_next, word_given}
use Rattle.typed.proofs.BatchLaws.{PartRead, part-read, batch-is, batch-end, batch-full, batch-done, batch-puts, batch-stops, untouched}
use Rattle.typed.proofs.batch.batch_from.Goals as goal
use Rattle.typed.proofs.batch.batch_from.Goals.{After-word_from_place, Start}

module _ (s : Start) where
  abbrev ls : List Label
  ls = labels_in s.args.index.now.file.now

  abbrev text : List ℕ
  text = s.args.text.now

-- the next word is read into what is left of the tiles
module _ (r : After-word_from_place) where
  abbrev given : Start
  given = (goal.at.After-word_from_place r).Start

  abbrev tiles : List ℕ
  tiles = r.loop-words.tiles

  abbrev put : ℕ
  put = r.loop-words.read.tiles

  abbrev tiles' : List ℕ
  tiles' = take put tiles ++ (r.word_from_place.new.word ++ drop (length tiles - put) (drop put tiles))

  into-part : {a : Answer} → said_next r.word_from_place.result ≡ a → PartRead (ls given) (text given) r.loop-words.read.after tiles put tiles' a
  into-part e =
      subst (PartRead (ls given) (text given) r.loop-words.read.after tiles put tiles') e
      (part-read (ls given) (text given) r.loop-words.read.after tiles put r.loop-words.invariant.1.in_tiles.room r.word_from_place.ensures r.word_from_place.auto.word)

  slot-there : r.loop-words.words < length r.loop-words.sizes
  slot-there = omega (arith, r.loop-words-test.true, r.loop-words.auto.sizes)

pub returns-in-Ok-None : goal.returns-in-Ok-None
returns-in-Ok-None c =
    let r = (goal.at.returns-in-Ok-None c).After-word_from_place in
    let e = ap said_next (c.in-Ok-None.is ∙ ap Ok c.in-Ok-None.field-0-is) in
    batch-stops (into-part r e) (slot-there r) c.loop-words.invariant.1 (λ _. refl) _ (rw c.loop-words.invariant.0 at c.words_or.ensures)

pub returns-in-Err : goal.returns-in-Err
returns-in-Err c =
    let r = (goal.at.returns-in-Err c).After-word_from_place in
    let e = ap said_next c.in-Err.is in
    batch-stops (into-part r e) (slot-there r) c.loop-words.invariant.1 (λ _. refl) _ (rw c.loop-words.invariant.0 at c.words_or-in-Err.ensures)

pub overflow_add-read-in-loop-words : goal.overflow_add-read-in-loop-words
overflow_add-read-in-loop-words c =
    let r = (goal.at.overflow_add-read-in-loop-words c).After-word_from_place in
    let w = c.in-Ok-Some.word in
    let e : said_next r.word_from_place.result ≡ word_given w = ap said_next (c.in-Ok-Some.is ∙ ap Ok c.in-Ok-Some.field-0-is) in
    let more = batch-puts (into-part r e) (slot-there r) c.loop-words.invariant.1 w.start w.end w.after w.tiles refl in
    omega (arith, more.in_tiles.room, more.in_tiles.size)

pub loop-words-preserved : goal.loop-words-preserved
loop-words-preserved c =
    let r = (goal.at.loop-words-preserved c).After-word_from_place in
    let w = c.in-Ok-Some.word in
    let e : said_next r.word_from_place.result ≡ word_given w = ap said_next (c.in-Ok-Some.is ∙ ap Ok c.in-Ok-Some.field-0-is) in
    (refl, batch-puts (into-part r e) (slot-there r) c.loop-words.invariant.1 w.start w.end w.after w.tiles refl)

pub returns-then-line_start-text : goal.returns-then-line_start-text
returns-then-line_start-text c =
    let s = (goal.at.returns-then-line_start-text c).Start in
    let l = c.loop-words in
    let left = l.invariant.1 in
    let full : length l.sizes - l.words ≡ 0 = omega arith in
    let stop = batch-full (ls s) (text s) (length l.sizes - l.words) (length l.tiles - l.read.tiles) l.read.after c.line_start.ensures c.if-line_start-text.true full in
    batch-done [] (untouched l.tiles l.read.tiles) (omega (arith, left.in_tiles.room)) l.read.after (refused 16 []) _
    (rw l.invariant.0 at c.words_or-then-line_start-text.ensures) (batch-is stop left)

pub returns-else-line_start-text : goal.returns-else-line_start-text
returns-else-line_start-text c =
    let s = (goal.at.returns-else-line_start-text c).Start in
    let l = c.loop-words in
    let left = l.invariant.1 in
    let stop = batch-end (ls s) (text s) (length l.sizes - l.words) (length l.tiles - l.read.tiles) l.read.after c.line_start.ensures c.if-line_start-text.false in
    batch-done [] (untouched l.tiles l.read.tiles) (omega (arith, left.in_tiles.room)) l.read.after nothing _
    (rw l.invariant.0 at c.words_or-else-line_start-text.ensures) (batch-is stop left)
