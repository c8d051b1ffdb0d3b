-- `blocks::put_word` meets its contract: each answer of the walk puts its line, and the longest has room.
use native.Mathlib.Omega.{arith}
use mathlib.Core.Path.{sym, ap}
use mathlib.Core.List.{List}
use Prim.Native.Nat.{ℕ}
use lib.Seq.{length-take-le}
use Rattle.answers.specs.Answers.{Answer}
use Rattle.graph.specs.Words.{Word}
use Rattle.lookup.specs.Said.{said_word}
use Rattle.lookup.specs.Refusals.{word_refusal}
use Rattle.lookup.specs.WalkedLaws.{WalkLeaves, by-index-walked}
use Rattle.listing.specs.Wordlist.{most_tiles}
use Rattle.listing.specs.Printing.{walk_from}
use Rattle.listing.proofs.LinesLaws.{refusal-length}
use Rattle.listing.proofs.WordLaws.{Tiled, tiled, WordIn, word_in, line-room, word_line, word_refused}
use Rattle.listing.proofs.blocks.Listed.put_word.Goals as goal
use Rattle.listing.proofs.blocks.Listed.put_word.Goals.{After-get_word_by_index, In-Ok-Some, Start}

-- the walk, and what it left
module _ (c : After-get_word_by_index) where
  abbrev from : Start
  from = (goal.at.After-get_word_by_index c).Start

  abbrev number : ℕ
  number = from.args.number

  abbrev walk : Word × Answer
  walk = walk_from from.args.self.nodes.now from.args.self.counts.now from.args.self.start number

  abbrev buffer : List ℕ
  buffer = c.get_word_by_index.new.word

  in_buffer : Tiled walk c.get_word_by_index.result buffer
  in_buffer = tiled from.args.self.nodes.now from.args.self.counts.now from.args.self.start number _ c.get_word_by_index.ensures (omega arith)

  walked : WalkLeaves most_tiles 0 walk
  walked = by-index-walked from.args.self.counts.now from.args.self.nodes.now most_tiles from.args.self.start number

-- the word, where it has one
abbrev asked : In-Ok-Some → After-get_word_by_index
asked s = (goal.at.In-Ok-Some s).After-get_word_by_index

word_at : (s : In-Ok-Some) → WordIn (walk (asked s)) s.in-Ok-Some.tiles (buffer (asked s))
word_at s = word_in (walked (asked s)) (in_buffer (asked s)) (cc)

pub slice_bounds-word-end : goal.slice_bounds-word-end
slice_bounds-word-end c = omega (arith, (word_at c).few)

pub slice_bounds-put_line-end : goal.slice_bounds-put_line-end
slice_bounds-put_line-end c = sym (length-take-le _ _ (omega (arith, (word_at (goal.at.slice_bounds-put_line-end c).In-Ok-Some).few)))

pub put_line-requires : goal.put_line-requires
put_line-requires c =
    let s = (goal.at.put_line-requires c).In-Ok-Some in
    let w = asked s in
    omega (arith, (from w).requires, line-room (number w) (walk w) (omega arith) (walked w) (word_at s))

pub put_refusal-requires : goal.put_refusal-requires
put_refusal-requires c = omega (arith, c.requires, refusal-length c.number.result (omega arith))

pub returns-in-Ok-Some : goal.returns-in-Ok-Some
returns-in-Ok-Some c =
    let s = (goal.at.returns-in-Ok-Some c).In-Ok-Some in
    let w = asked s in
    word_line (number w) (walk w) (omega arith) (walked w) (word_at s) c.put_line.ensures

pub returns-in-Err : goal.returns-in-Err
returns-in-Err c =
    let w = (goal.at.returns-in-Err c).After-get_word_by_index in
    let n = c.number.ensures in
    word_refused (number w) (walk w) (word_refusal c.in-Err.why).number (omega arith) (in_buffer w) (ap said_word c.in-Err.is) (rw (← n) c.put_refusal.ensures)
