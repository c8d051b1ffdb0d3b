-- The next word: where its line begins, what its tiles make of the answer, and that a bad label file comes before it.
use mathlib.Core.Path.{◌≡◌, refl, sym, ap, ◌∙◌, subst}
use mathlib.Core.List.{List, [], ◌∷◌, ◌++◌}
use mathlib.Core.Option.{Option, none, some}
use Prim.Native.Nat.{ℕ, ◌+◌, ◌≤◌, ◌<◌}
use borrow.Author.Tests.{lt-ltb, le-ltb}
use lib.ListN.{length, drop}
use Rattle.laws.specs.Buffers.{Filled}
use Rattle.answers.specs.Answers.{Answer, nothing, refused}
use Rattle.text.specs.Lines.{lines, first_line, line_width}
use Rattle.text.specs.Said.{LineRead}
use Rattle.label_index.specs.Labels.{Label, bad_line, labels_in}
use Rattle.typed.specs.Words.{typed_word}
use Rattle.typed.specs.Texts.{line_start, on_line, word_of_line, word_from_place, unless_bad, next_word}

pub filled_none : (w : List ℕ) (r : Answer) → Filled ([], r) w w r
filled_none w r = record { answer = refl; front = refl }

-- ---- the line at place p
module _ {text : List ℕ} {p after : ℕ} {line : List ℕ} (l : LineRead text p after line) (ls : List Label) (room : ℕ) where
  -- the answer for its tiles, with its line
  pub line_word : {r : Answer} → (typed_word ls line p room).1 ≡ r
      → word_of_line ls text room p ≡ ((typed_word ls line p room).0, on_line p (p + length line) after r)
  unfolding word_of_line
  line_word {r} e =
      let s = drop p text in
      rw l.cursor
      (subst (λ (k : List ℕ). (typed_word ls k p room).1 ≡ r
      → word_of_line ls text room p ≡ ((typed_word ls k p room).0, on_line p (p + length k) (p + line_width s) r)) (sym l.part)
      (λ q. ap (λ (a : Answer). ((typed_word ls (first_line s) p room).0, on_line p (p + length (first_line s)) (p + line_width s) a)) q)
      e)

  pub word-on-line : {w w' : List ℕ} {r : Answer} → Filled (typed_word ls line p room) w w' r
      → Filled (word_of_line ls text room p) w w' (on_line p (p + length line) after r)
  word-on-line {w} {w'} {r} f =
      let is = line_word (sym f.answer) in
      record {
        answer = sym (ap (λ (v : List ℕ × Answer). v.1) is);
        front = f.front ∙ ap (λ (v : List ℕ × Answer). v.0 ++ drop (length v.0) w) (sym is);
      }

-- ---- from a place on
module _ (ls : List Label) (text : List ℕ) (room at : ℕ) {p : ℕ} (e : p ≡ line_start text at) where
  pub place_end : length text ≤ p → word_from_place ls text room at ≡ ([], nothing)
  unfolding word_from_place
  place_end h = rw (← e) (rw (le-ltb p (length text) h))

  pub place-line : p < length text → word_from_place ls text room at ≡ word_of_line ls text room p
  unfolding word_from_place
  place-line h = rw (← e) (rw (lt-ltb p (length text) h))

pub filled-by : {v u : List ℕ × Answer} {w w' : List ℕ} {r : Answer} → v ≡ u → Filled u w w' r → Filled v w w' r
filled-by {v} {u} {w} {w'} {r} e f = subst (λ (x : List ℕ × Answer). Filled x w w' r) (sym e) f

-- ---- the label file first
module _ (file text : List ℕ) (room at : ℕ) where
  pub call-bad : (k : ℕ) → bad_line 1 (lines file) ≡ some k → next_word file text room at ≡ ([], refused 27 (k ∷ []))
  unfolding next_word
  call-bad k e = ap (λ (o : Option ℕ). unless_bad o (λ r. ([], r)) (word_from_place (labels_in file) text room at)) e

  pub call-good : bad_line 1 (lines file) ≡ none → next_word file text room at ≡ word_from_place (labels_in file) text room at
  unfolding next_word
  call-good e = ap (λ (o : Option ℕ). unless_bad o (λ r. ([], r)) (word_from_place (labels_in file) text room at)) e
