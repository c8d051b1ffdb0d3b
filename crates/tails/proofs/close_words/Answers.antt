-- `close_words` meets its contract. The loop's invariant: whatever lexicon the list is that of, the pass has come to one of its words, and the
-- dictionary has the tails of the words after it.
use Rattle.std.proofs.Common.{◌≡◌, refl, List, ℕ, ◌+◌, ◌≤◌, length, get_or, take, arith, length-take-le}
use Rattle.graph.specs.Words.{Word}
use Rattle.word_list.specs.Words.{IsLexicon}
use Rattle.built.specs.Lexicon.{Lexicon}
use Rattle.built.specs.Listed.{list_bytes}
use Rattle.tails.specs.Tails.{WordsClose}
use Rattle.tails.proofs.WorkLaws.{roots_clear, tails-joined}
use Rattle.tails.proofs.TurnLaws.{AtWord, at_last, word-within, step-within, step-more, can_close, Turned, turned}
use Rattle.tails.proofs.close_words.Goals as goal
use Rattle.tails.proofs.close_words.Goals.{At-loop-tails, Start, After-close_word}

-- at a word
module _ (c : At-loop-tails) where
  abbrev start : Start
  start = (goal.at.At-loop-tails c).Start

  abbrev list : List ℕ
  list = start.args.list.now

  pub lexicon : IsLexicon list
  lexicon = start.requires.lexicon

  pub here : AtWord start.args.n lexicon.0 c.mark_words-at.new.marks c.loop-tails.dict c.loop-tails.at c.loop-tails.behind c.loop-tails.tails
  here = c.loop-tails.invariant.reached lexicon.0 lexicon.1 lexicon.2

  pub within : c.loop-tails.at + 1 + get_or list c.loop-tails.at 0 ≤ length list
  within = word-within lexicon.1 lexicon.2 here

  pub back-within : get_or c.mark_words-at.new.marks c.loop-tails.at 0 ≤ c.loop-tails.at
  back-within = step-within lexicon.1 lexicon.2 here

pub loop-tails-init : goal.loop-tails-init
loop-tails-init c =
    let s = c.requires.n_value in
    let p = c.requires.list_nonzero in
    let tables = c.split_at_mut-tables.result.0.now in
    let r = roots_clear c.args.n tables c.fill.new.self c.split_at_mut-tables.ensures.front_len (c.fill.ensures.after (λ y e. e)) in
    record { long = refl; reached = λ ws lex bytes. at_last (omega arith) (omega arith) r.0 r.1 (c.mark_words-at.ensures ws lex bytes) }

pub overflow_add-from : goal.overflow_add-from
overflow_add-from c = let h = within c in omega arith

pub bounds-list-at : goal.bounds-list-at
bounds-list-at c = let h = within (goal.at.bounds-list-at c).At-loop-tails in omega arith

pub overflow_add-word : goal.overflow_add-word
overflow_add-word c =
    let p = (goal.at.overflow_add-word c).At-loop-tails in
    let h = within p in
    let g = (start p).well_formed in
    omega arith

pub slice_bounds-word-end : goal.slice_bounds-word-end
slice_bounds-word-end c = rw c.from.ensures (within (goal.at.slice_bounds-word-end c).At-loop-tails)

pub offset_bounds-marks-at : goal.offset_bounds-marks-at
offset_bounds-marks-at c =
    let p = (goal.at.offset_bounds-marks-at c).At-loop-tails in
    let h = within p in
    let g = (start p).well_formed in
    let r = (start p).requires.list_in_bounds in
    omega arith

pub bounds-marks-at : goal.bounds-marks-at
bounds-marks-at c =
    let p = (goal.at.bounds-marks-at c).At-loop-tails in
    let h = within p in
    let r = (start p).requires.list_in_bounds in
    let l = p.mark_words-at.auto.marks in
    let b = p.split_at_mut-tables.ensures.back_len in
    omega arith

pub overflow_sub-before : goal.overflow_sub-before
overflow_sub-before c = back-within (goal.at.overflow_sub-before c).At-loop-tails

pub slice_bounds-shared-end : goal.slice_bounds-shared-end
slice_bounds-shared-end c = let h = within (goal.at.slice_bounds-shared-end c).At-loop-tails in omega arith

pub close_word-requires : goal.close_word-requires
close_word-requires c =
    let p = (goal.at.close_word-requires c).At-loop-tails in
    let w = lexicon p in
    rw c.from.ensures (can_close w.1 w.2 (here p) (start p).requires.n_value p.loop-tails.invariant.long (rw c.from.ensures at c.shared-kept.ensures))

-- the word closed
module _ (c : After-close_word) where
  abbrev turn : At-loop-tails
  turn = (goal.at.After-close_word c).At-loop-tails

  pub leaves : (ws : List Word) → Lexicon 64 ws → list turn ≡ list_bytes ws
      → Turned (start turn).args.n ws turn.mark_words-at.new.marks turn.loop-tails.at c.close_word.new.behind c.close_word.new.dict c.close_word.result
  leaves ws lex bytes =
      turned lex bytes (turn.loop-tails.invariant.reached ws lex bytes) (start turn).requires.n_value turn.loop-tails.invariant.long (rw c.from.ensures at c.shared-kept.ensures)
      c.close_word.new.behind c.close_word.new.dict c.close_word.result (rw c.from.ensures at c.close_word.ensures)

pub returns-in_err-tails : goal.returns-in_err-tails
unfolding WordsClose
returns-in_err-tails c =
    let k = (goal.at.returns-in_err-tails c).After-close_word in
    rw c.from_residual.ensures (λ ws lex bytes. rw c.in_err-tails.was at (leaves k ws lex bytes))

pub returns-then-before-at : goal.returns-then-before-at
unfolding WordsClose
returns-then-before-at c = λ ws lex bytes.
    let k = (goal.at.returns-then-before-at c).After-close_word in
    let done = (rw c.in_ok-tails.was at (leaves k ws lex bytes)).2 c.if-before-at.true in
    let front : length (take c.args.n c.split_at_mut-tables.result.0.now) ≡ c.args.n = length-take-le c.args.n c.split_at_mut-tables.result.0.now (omega (arith, c.split_at_mut-tables.ensures.front_len)) in
    (tails-joined (take c.args.n c.split_at_mut-tables.result.0.now) c.close_word.new.dict _ c.mark_words-at.new.marks front done.0, done.1)

pub overflow_sub-at : goal.overflow_sub-at
overflow_sub-at c =
    let p = (goal.at.overflow_sub-at c).At-loop-tails in
    step-more (lexicon p).1 (lexicon p).2 (here p) c.if-before-at.false

pub loop-tails-smaller : goal.loop-tails-smaller
loop-tails-smaller c =
    let p = (goal.at.loop-tails-smaller c).At-loop-tails in
    let m = step-more (lexicon p).1 (lexicon p).2 (here p) c.if-before-at.false in
    omega arith

pub loop-tails-preserved : goal.loop-tails-preserved
loop-tails-preserved c =
    let k = (goal.at.loop-tails-preserved c).After-close_word in
    let w = lexicon (turn k) in
    record {
      long = (rw c.in_ok-tails.was at (leaves k w.0 w.1 w.2)).0;
      reached = λ ws lex bytes. (rw c.in_ok-tails.was at (leaves k ws lex bytes)).1 c.if-before-at.false;
    }
