-- Several words at once: their tiles are those of the next lines that are not empty, in order, however much room there was. Calls one after the other, each
-- from the place that the one before answered, hand out the words of these lines, up to a call that reads none; where that answers the end, they are all
-- the lines there are (`batches-hand-out`).
use Rattle.std.specs.Prelude.{◌≡◌, refl, List, [], ◌∷◌, ◌++◌, map, ◌≢◌, eqb, ltb, length, drop}
use Rattle.std.proofs.Common.{sym, ap₂, ◌∙◌, subst, append_assoc, ltb-true, ltb-false, eqb-true}
use Rattle.std.proofs.Math.Path.{ap}
use Rattle.std.proofs.lemmas.List.{map-append, length-map}
use Prim.Native.Nat.{ℕ, zero, suc, ◌-◌, ◌≤◌, ◌<◌}
use native.Mathlib.Omega.{arith}
use Rattle.std.proofs.lemmas.Bool.{eqb-false}
use Rattle.laws.specs.Cases.{split, split_option}
use Rattle.laws.specs.Lists.{All, all_append, join_all, join_append, none_left}
use Rattle.answers.specs.Answers.{Answer, gives, nothing, refused, value_at}
use Rattle.text.specs.Lines.{lines, first_line}
use Rattle.text.specs.FilledLines.{filled_lines}
use Rattle.label_index.specs.Labels.{bad_line, labels_in}
use Rattle.typed.specs.Words.{typed_word}
use Rattle.typed.specs.WordLaws.{kind_of, WordSaid, given, unread, word-said}
use Rattle.typed.specs.Texts.{on_line, word_of_line, word_from_place}
use Rattle.typed.specs.Batches.{Batch, stopping, with_word, batch_by, batch_from, batch_answer, read_words}
use Rattle.typed.specs.Reading.{next_start, next_end, next_after, no-next, next-then-rest, next-moves, line-is, tiles_in, Readable, word-tiles, word-readable, NoWord}

-- ---- one call
pub record BatchLines (file text : List ℕ) (at : ℕ) (b : Batch) : Type 0 where
  pub handed : List (List ℕ)
  pub next : filled_lines (drop at text) ≡ handed ++ filled_lines (drop b.after text)
  pub tiles : b.tiles ≡ join_all (map (tiles_in file) handed)
  pub sizes : b.sizes ≡ map (λ l. length (tiles_in file l)) handed
  pub readable : All (Readable file) handed
  -- where a word is read the place moves on
  pub moves : 0 < length b.sizes → at < b.after
  pub stop : NoWord b.stop
  -- where nothing else stopped the reading, no line is left
  pub all : b.stop ≡ nothing → filled_lines (drop b.after text) ≡ []

module _ (file text : List ℕ) where
  none-handed : (at : ℕ) (r : List ℕ × Answer) → NoWord r.1 → (r.1 ≡ nothing → filled_lines (drop at text) ≡ []) → BatchLines file text at (stopping at r)
  none-handed at r n e = record { handed = []; next = refl; tiles = refl; sizes = refl; readable = tt; moves = λ h. absurd (omega arith); stop = n; all = e }

  -- the next line, of which the walk put `ts`, before the lines of a batch
  one-handed : (at : ℕ) (ts : List ℕ) (b : Batch) → next_start text at < length text → next_after text at ≤ b.after
      → ts ≡ tiles_in file (first_line (drop (next_start text at) text)) → Readable file (first_line (drop (next_start text at) text))
      → BatchLines file text (next_after text at) b
      → BatchLines file text at (with_word (length ts) ts b)
  one-handed at ts b h k e w l =
      let line = first_line (drop (next_start text at) text) in
      let m = next-moves text at h in
      record {
        handed = line ∷ l.handed;
        next = next-then-rest text at h ∙ ap₂ ◌∷◌ (line-is text at) l.next;
        tiles = ap₂ ◌++◌ e l.tiles;
        sizes = ap₂ ◌∷◌ (ap length e) l.sizes;
        readable = (w, l.readable);
        moves = λ _. let p = m.begins in let q = m.some_bytes in let r = m.ends in omega arith;
        stop = l.stop;
        all = l.all;
      }

  -- no batch goes back
  abbrev Forward : ℕ → Batch → Type 0
  Forward at b = (at ≤ b.after) × BatchLines file text at b

  by_word : (slots room at : ℕ) → ((room at : ℕ) → Forward at (batch_from (labels_in file) text slots room at)) → next_start text at < length text
      → (ts : List ℕ) {a : Answer} → WordSaid (length ts) a
      → typed_word (labels_in file) (first_line (drop (next_start text at) text)) (next_start text at) room ≡ (ts, a)
      → Forward at (batch_by at ts (on_line (next_start text at) (next_end text at) (next_after text at) a)
      (λ tiles after. batch_from (labels_in file) text slots (room - tiles) after))
  by_word slots room at ih h ts given e =
      let line = first_line (drop (next_start text at) text) in
      let more = ih (room - length ts) (next_after text at) in
      let said = ap (λ (w : List ℕ × Answer). w.1) e in
      let tiles = sym (ap (λ (w : List ℕ × Answer). w.0) e) ∙ word-tiles file line (next_start text at) room (length ts) said in
      let readable = word-readable file line (next_start text at) room (length ts) said in
      let m = next-moves text at h in
      let p = m.begins in let q = m.some_bytes in let r = m.ends in let s = more.0 in
      (omega arith, one-handed at ts _ h more.0 tiles readable more.1)
  by_word slots room at ih h ts (unread k vs) e =
      (omega arith, none-handed at (ts, refused k vs) tt (λ q. let z = ap kind_of q in absurd (omega arith)))

  forward : (slots room at : ℕ) → Forward at (batch_from (labels_in file) text slots room at)
  unfolding batch_from word_from_place word_of_line
  forward zero room at =
      split (ltb (next_start text at) (length text))
      (λ t. rw t (omega arith, none-handed at ([], refused 16 []) tt (λ q. let z = ap kind_of q in absurd (omega arith))))
      (λ t. rw t (omega arith, none-handed at ([], nothing) tt (λ _. no-next text at (ltb-false (next_start text at) (length text) t))))
  forward (suc slots) room at =
      split (ltb (next_start text at) (length text))
      (λ t. rw t (by_word slots room at (forward slots) (ltb-true (next_start text at) (length text) t) _
      (word-said (labels_in file) (first_line (drop (next_start text at) text)) (next_start text at) room) refl))
      (λ t. rw t (omega arith, none-handed at ([], nothing) tt (λ _. no-next text at (ltb-false (next_start text at) (length text) t))))

  pub read-lines : (slots room at : ℕ) → BatchLines file text at (read_words file text slots room at)
  unfolding read_words
  read-lines slots room at =
      split_option (bad_line 1 (lines file))
      (λ e. rw e (forward slots room at).1)
      (λ k e. rw e (none-handed at ([], refused 27 (k ∷ [])) tt (λ q. let z = ap kind_of q in absurd (omega arith))))

  -- ---- calls one after the other, each with room of its own, up to the first that reads no word: all tiles, all sizes, and what is answered last
  pub data BatchesFrom : ℕ → List ℕ → List ℕ → Answer → Type 0 where
    stops : {at : ℕ} (slots room : ℕ) {r : Answer} → batch_answer (read_words file text slots room at) ≡ r → NoWord r → BatchesFrom at [] [] r
    reads : {at : ℕ} (slots room : ℕ) {words tiles after : ℕ} {ts ns : List ℕ} {r : Answer}
        → batch_answer (read_words file text slots room at) ≡ gives (words ∷ tiles ∷ after ∷ []) → BatchesFrom after ts ns r
        → BatchesFrom at ((read_words file text slots room at).tiles ++ ts) ((read_words file text slots room at).sizes ++ ns) r

  -- the answer of one call: its words, or where there are none what stopped it
  answer-words : {at : ℕ} (b : Batch) → BatchLines file text at b → (words tiles after : ℕ) → batch_answer b ≡ gives (words ∷ tiles ∷ after ∷ [])
      → (0 < length b.sizes) × (b.after ≡ after)
  answer-words b l words tiles after e =
      split (eqb (length b.sizes) 0)
      (λ t. absurd (subst NoWord (rw t at e) l.stop))
      (λ t. let n = eqb-false (length b.sizes) 0 t in let q = ap (value_at 2) (rw t at e) in (nonzero (length b.sizes) n, q))
    where
      nonzero : (n : ℕ) → n ≢ 0 → 0 < n
      nonzero zero h = absurd (h refl)
      nonzero (suc n) h = omega arith

  no_lines : {at : ℕ} (b : Batch) (l : BatchLines file text at b) → length b.sizes ≡ 0 → l.handed ≡ []
  no_lines b l e = none_left l.handed (sym (length-map l.handed (λ k. length (tiles_in file k))) ∙ ap length (sym l.sizes) ∙ e)

  pub no-tiles : {at : ℕ} (b : Batch) → BatchLines file text at b → length b.sizes ≡ 0 → b.tiles ≡ []
  no-tiles b l e = l.tiles ∙ ap (λ (ls : List (List ℕ)). join_all (map (tiles_in file) ls)) (no_lines b l e)

  answer-stop : {at : ℕ} (b : Batch) → BatchLines file text at b → batch_answer b ≡ nothing → filled_lines (drop at text) ≡ []
  answer-stop b l e =
      split (eqb (length b.sizes) 0)
      (λ t. l.next ∙ ap₂ ◌++◌ (no_lines b l (eqb-true (length b.sizes) 0 t)) (l.all (rw t at e)))
      (λ t. let z = ap kind_of (rw t at e) in absurd (omega arith))

  pub record BatchesHanded (at : ℕ) (ts ns : List ℕ) (r : Answer) : Type 0 where
    pub handed : List (List ℕ)
    pub rest : List (List ℕ)
    pub lines_are : filled_lines (drop at text) ≡ handed ++ rest
    pub tiles : ts ≡ join_all (map (tiles_in file) handed)
    pub sizes : ns ≡ map (λ l. length (tiles_in file l)) handed
    pub readable : All (Readable file) handed
    pub all : r ≡ nothing → rest ≡ []

  pub batches_hand_out : {at : ℕ} {ts ns : List ℕ} {r : Answer} → BatchesFrom at ts ns r → BatchesHanded at ts ns r
  batches_hand_out {at} (stops slots room {r} e w) = record {
    handed = [];
    rest = filled_lines (drop at text);
    lines_are = refl;
    tiles = refl;
    sizes = refl;
    readable = tt;
    all = λ q. answer-stop (read_words file text slots room at) (read-lines slots room at) (e ∙ q);
  }
  batches_hand_out {at} (reads slots room {words} {tiles} {after} e more) =
      let b = read_words file text slots room at in
      let l = read-lines slots room at in
      let m = batches_hand_out more in
      let from = (answer-words b l words tiles after e).1 in
      record {
        handed = l.handed ++ m.handed;
        rest = m.rest;
        lines_are = l.next ∙ ap (l.handed ++◌) (ap (λ k. filled_lines (drop k text)) from ∙ m.lines_are) ∙ sym (append_assoc l.handed m.handed m.rest);
        tiles = ap₂ ◌++◌ l.tiles m.tiles
            ∙ sym (ap join_all (map-append (tiles_in file) l.handed m.handed) ∙ join_append (map (tiles_in file) l.handed) (map (tiles_in file) m.handed));
        sizes = ap₂ ◌++◌ l.sizes m.sizes ∙ sym (map-append (λ k. length (tiles_in file k)) l.handed m.handed);
        readable = all_append (Readable file) l.handed m.handed l.readable m.readable;
        all = m.all;
      }
