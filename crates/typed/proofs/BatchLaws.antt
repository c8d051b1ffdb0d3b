-- Several words, line by line: the words read and the batch that is left are the whole's.
use mathlib.Core.Path.{◌≡◌, refl, sym, ap, ap₂, ◌∙◌, subst}
use mathlib.Core.List.{List, [], ◌∷◌, ◌++◌, append-nil, append_assoc}
use mathlib.Core.Option.{Option, none, some}
use Prim.Native.Nat.{ℕ, zero, suc, ◌+◌, ◌-◌, ◌≤◌, ◌<◌}
use native.Mathlib.Omega.{arith}
use borrow.Author.Tests.{lt-ltb, le-ltb}
use lib.Dec.{eqb, ltb}
use lib.ListN.{length, take, drop, set, length-append, length-set, length-drop, take-append-drop}
use lib.Seq.{length-take-le}
use Rattle.laws.specs.Cases.{split}
use Rattle.laws.specs.Buffers.{Left, Filled, left-begins, left_is, left-put, left-fill, left-done, part_filled, part-fits}
use Rattle.answers.specs.Answers.{Answer, gives, nothing, refused}
use Rattle.text.specs.Lines.{lines, first_line}
use Rattle.label_index.specs.Labels.{Label, bad_line, labels_in}
use Rattle.typed.specs.Words.{typed_word}
use Rattle.typed.specs.Texts.{line_start, line_end, line_after, on_line, word_of_line, word_from_place, unless_bad}
use Rattle.typed.specs.Batches.{Batch, stopping, with_word, batch_by, batch_from, or_stop, batch_answer, read_words}
use Rattle.typed.specs.Said.{BatchPut}
use Rattle.typed.specs.WordLaws.{word_count}
use Rattle.typed.proofs.NextLaws.{place_end}

-- ---- one line more
module _ (ls : List Label) (text : List ℕ) (slots room at : ℕ) {p : ℕ} (e : p ≡ line_start text at) where
  pub batch-end : length text ≤ p → batch_from ls text slots room at ≡ stopping at ([], nothing)
  unfolding batch_from
  batch-end h = by_slots slots
    where
      by_slots : (k : ℕ) → batch_from ls text k room at ≡ stopping at ([], nothing)
      by_slots zero = rw (← e) (rw (le-ltb p (length text) h))
      by_slots (suc k) = rw (place_end ls text room at e h)

  pub batch-full : p < length text → slots ≡ 0 → batch_from ls text slots room at ≡ stopping at ([], refused 16 [])
  unfolding batch_from
  batch-full h z = rw z (rw (← e) (rw (lt-ltb p (length text) h)))

module _ (ls : List Label) (text : List ℕ) (slots room at : ℕ) (some-slot : 0 < slots) where
  one-slot : batch_from ls text slots room at
      ≡ batch_by at (word_from_place ls text room at).0 (word_from_place ls text room at).1 (λ tiles after. batch_from ls text (slots - 1) (room - tiles) after)
  unfolding batch_from
  one-slot = by_slots slots some-slot
    where
      by_slots : (k : ℕ) → 0 < k → batch_from ls text k room at
          ≡ batch_by at (word_from_place ls text room at).0 (word_from_place ls text room at).1 (λ tiles after. batch_from ls text (k - 1) (room - tiles) after)
      by_slots zero h = absurd (omega arith)
      by_slots (suc k) h = let z : suc k - 1 ≡ k = omega arith in rw z

  pub batch-word : (ts : List ℕ) (start end after n : ℕ) → word_from_place ls text room at ≡ (ts, gives (start ∷ end ∷ after ∷ n ∷ []))
      → batch_from ls text slots room at ≡ with_word n ts (batch_from ls text (slots - 1) (room - n) after)
  batch-word ts start end after n e =
      one-slot ∙ ap (λ (w : List ℕ × Answer). batch_by at w.0 w.1 (λ tiles after. batch_from ls text (slots - 1) (room - tiles) after)) e

  pub batch_stop : (ts : List ℕ) (r : Answer) → ((next : ℕ → ℕ → Batch) → batch_by at ts r next ≡ stopping at (ts, r))
      → word_from_place ls text room at ≡ (ts, r) → batch_from ls text slots room at ≡ stopping at (ts, r)
  batch_stop ts r stops e =
      one-slot ∙ ap (λ (w : List ℕ × Answer). batch_by at w.0 w.1 (λ tiles after. batch_from ls text (slots - 1) (room - tiles) after)) e
      ∙ stops (λ tiles after. batch_from ls text (slots - 1) (room - tiles) after)

-- ---- the lists
-- so many words are read, with so many tiles; `left` is the batch from there, and `whole` that from the start
pub record BatchLeft (whole : Batch) (tiles₀ sizes₀ : List ℕ) (words put : ℕ) (tiles sizes : List ℕ) (left : Batch) : Type 0 where
  pub in_sizes : Left (whole.sizes, whole.after) sizes₀ words sizes (left.sizes, left.after)
  pub in_tiles : Left (whole.tiles ++ whole.begun, whole.stop) tiles₀ put tiles (left.tiles ++ left.begun, left.stop)
  pub count : length whole.tiles ≡ put + length left.tiles

pub batch-begins : (whole : Batch) (tiles sizes : List ℕ) → BatchLeft whole tiles sizes 0 0 tiles sizes whole
batch-begins whole tiles sizes = record {
  in_sizes = left-begins (whole.sizes, whole.after) sizes;
  in_tiles = left-begins (whole.tiles ++ whole.begun, whole.stop) tiles;
  count = omega arith;
}

module _ {whole : Batch} {tiles₀ sizes₀ : List ℕ} {words put : ℕ} {tiles sizes : List ℕ} where
  pub batch-is : {a b : Batch} → a ≡ b → BatchLeft whole tiles₀ sizes₀ words put tiles sizes a
      → BatchLeft whole tiles₀ sizes₀ words put tiles sizes b
  batch-is {a} {b} e l = subst (BatchLeft whole tiles₀ sizes₀ words put tiles sizes) e l

  module _ (ts : List ℕ) {tiles' : List ℕ} (e : tiles' ≡ take put tiles ++ (ts ++ drop (length ts) (drop put tiles)))
      (fits : put + length ts ≤ length tiles) where
    -- a word is put
    pub batch-more : (n : ℕ) → n ≡ length ts → words < length sizes → (next : Batch)
        → BatchLeft whole tiles₀ sizes₀ words put tiles sizes (with_word n ts next)
        → BatchLeft whole tiles₀ sizes₀ (words + 1) (put + n) tiles' (set sizes words n) next
    batch-more n i h next l = record {
      in_sizes = left-put n next.sizes next.after h l.in_sizes;
      in_tiles = rw i (left-fill ts (next.tiles ++ next.begun) next.stop e fits
          (left_is (ap (λ (x : List ℕ). (x, next.stop)) (append_assoc ts next.tiles next.begun)) l.in_tiles));
      count = let k = l.count in let m = length-append ts next.tiles in omega arith;
    }

    -- or the reading stops, after tiles of a refused line
    pub batch-done : (place : ℕ) (r said : Answer) → said ≡ or_stop (eqb words 0) r (gives (words ∷ put ∷ place ∷ []))
        → BatchLeft whole tiles₀ sizes₀ words put tiles sizes (stopping place (ts, r)) → BatchPut whole tiles₀ tiles' sizes₀ sizes said
    batch-done place r said a l =
        let s = left-done place l.in_sizes in
        let t = left-done r (left-fill ts [] r e fits (left_is (ap (λ (x : List ℕ). (x, r)) (sym (append-nil ts))) l.in_tiles)) in
        let n : length whole.sizes ≡ words
        = ap length (l.in_sizes.put ∙ append-nil (take words sizes)) ∙ length-take-le words sizes l.in_sizes.room in
        let m : length whole.tiles ≡ put = l.count ∙ omega arith in
        let same : or_stop (eqb words 0) r (gives (words ∷ put ∷ place ∷ [])) ≡ batch_answer whole = rw (n, m, ← s.answer, ← t.answer) refl in
        record { answer = a ∙ same; tiles = t.front; sizes = s.front }

-- ---- a line read into the part of the tiles from place `put` on
-- a word's answer says how many tiles it has
word-answer : (p q t start end after n : ℕ) (r : Answer) → on_line p q t r ≡ gives (start ∷ end ∷ after ∷ n ∷ []) → r ≡ gives (n ∷ [])
word-answer p q t start end after n (gives ns) e = cc
word-answer p q t start end after n nothing e = cc
word-answer p q t start end after n (refused k ns) e = cc

module _ (ls : List Label) (text : List ℕ) (room at start end after n : ℕ) (ts : List ℕ) where
  line-count : (p : ℕ) → word_of_line ls text room p ≡ (ts, gives (start ∷ end ∷ after ∷ n ∷ [])) → n ≡ length ts
  unfolding word_of_line
  line-count p e =
      let line = first_line (drop p text) in
      let is = ap (λ (w : List ℕ × Answer). w.1) e in
      word_count ls line p room n (word-answer p (line_end text p) (line_after text p) start end after n (typed_word ls line p room).1 is)
      ∙ ap (λ (w : List ℕ × Answer). length w.0) e

  place-count : word_from_place ls text room at ≡ (ts, gives (start ∷ end ∷ after ∷ n ∷ [])) → n ≡ length ts
  unfolding word_from_place
  place-count e =
      split (ltb (line_start text at) (length text))
      (λ t. line-count (line_start text at) (rw t at e))
      (λ f. let z = ap (λ (w : List ℕ × Answer). w.1) (rw f at e) in cc)

pub record PartRead (ls : List Label) (text : List ℕ) (at : ℕ) (tiles : List ℕ) (put : ℕ) (tiles' : List ℕ) (said : Answer) : Type 0 where
  pub ts : List ℕ
  pub fits : put + length ts ≤ length tiles
  pub back : tiles' ≡ take put tiles ++ (ts ++ drop (length ts) (drop put tiles))
  pub word : word_from_place ls text (length tiles - put) at ≡ (ts, said)

module _ (ls : List Label) (text : List ℕ) (at : ℕ) (tiles : List ℕ) (put : ℕ) (room : put ≤ length tiles) where
  abbrev lent : List ℕ
  lent = take (length tiles - put) (drop put tiles)

  lent_length : length lent ≡ length tiles - put
  lent_length = let d = length-drop put tiles in length-take-le (length tiles - put) (drop put tiles) (omega arith)

  pub part-read : {ys : List ℕ} {said : Answer} → Filled (word_from_place ls text (length lent) at) lent ys said → length ys ≡ length lent
      → PartRead ls text at tiles put (take put tiles ++ (ys ++ drop (length tiles - put) (drop put tiles))) said
  part-read {ys} {said} f k =
      let n = part-fits tiles put f k in
      record {
        ts = (word_from_place ls text (length lent) at).0;
        fits = omega arith;
        back = part_filled tiles put f;
        word = ap (λ m. word_from_place ls text m at) (sym lent_length)
            ∙ ap (λ r. ((word_from_place ls text (length lent) at).0, r)) (sym f.answer);
      }

module _ {whole : Batch} {tiles₀ sizes₀ : List ℕ} {words put : ℕ} {tiles sizes : List ℕ} {ls : List Label} {text : List ℕ} {at : ℕ}
    {tiles' : List ℕ} {said : Answer} (r : PartRead ls text at tiles put tiles' said) (h : words < length sizes)
    (l : BatchLeft whole tiles₀ sizes₀ words put tiles sizes (batch_from ls text (length sizes - words) (length tiles - put) at)) where
  -- a word
  pub batch-puts : (start end after n : ℕ) → said ≡ gives (start ∷ end ∷ after ∷ n ∷ [])
      → BatchLeft whole tiles₀ sizes₀ (words + 1) (put + n) tiles' (set sizes words n)
      (batch_from ls text (length (set sizes words n) - (words + 1)) (length tiles' - (put + n)) after)
  batch-puts start end after n i =
      let next = batch_from ls text (length sizes - words - 1) (length tiles - put - n) after in
      let word = r.word ∙ ap (λ x. (r.ts, x)) i in
      let is = batch-word ls text (length sizes - words) (length tiles - put) at (omega arith) r.ts start end after n word in
      let more = batch-more r.ts r.back r.fits n (place-count ls text (length tiles - put) at start end after n r.ts word) h next (batch-is is l) in
      let size = more.in_tiles.size ∙ sym l.in_tiles.size in
      let a : length sizes - words - 1 ≡ length (set sizes words n) - (words + 1) = rw length-set (omega arith) in
      let b : length tiles - put - n ≡ length tiles' - (put + n) = omega arith in
      batch-is (ap₂ (λ s t. batch_from ls text s t after) a b) more

  -- the end, or a refusal
  pub batch-stops : ((next : ℕ → ℕ → Batch) → batch_by at r.ts said next ≡ stopping at (r.ts, said)) → (answer : Answer)
      → answer ≡ or_stop (eqb words 0) said (gives (words ∷ put ∷ at ∷ [])) → BatchPut whole tiles₀ tiles' sizes₀ sizes answer
  batch-stops stops answer a =
      let is = batch_stop ls text (length sizes - words) (length tiles - put) at (omega arith) r.ts said stops r.word in
      batch-done r.ts r.back r.fits at said answer a (batch-is is l)

-- no line is begun
pub untouched : (w : List ℕ) (n : ℕ) → w ≡ take n w ++ ([] ++ drop (length {A = ℕ} []) (drop n w))
untouched w n = sym (take-append-drop n w)

-- ---- the label file first
module _ (file text : List ℕ) (slots room at : ℕ) where
  pub read-bad : (k : ℕ) → bad_line 1 (lines file) ≡ some k → read_words file text slots room at ≡ stopping at ([], refused 27 (k ∷ []))
  unfolding read_words
  read-bad k e = ap (λ (o : Option ℕ). unless_bad o (λ r. stopping at ([], r)) (batch_from (labels_in file) text slots room at)) e

  pub read-good : bad_line 1 (lines file) ≡ none → read_words file text slots room at ≡ batch_from (labels_in file) text slots room at
  unfolding read_words
  read-good e = ap (λ (o : Option ℕ). unless_bad o (λ r. stopping at ([], r)) (batch_from (labels_in file) text slots room at)) e
