-- A text cut at a line's end reads as its parts. A call from a place of the second part answers as on that part alone, its places moved (`from-there`); so does
-- one from a place of the first part after which no line is left there (`from_end`), as if from the second part's front; where one is left, the call reads the same
-- line, tile for tile, or is refused at the same place (`from-here`). Two parts that are read to their ends make a text that is (`reads-cut`).
use Rattle.std.specs.Prelude.{◌≡◌, Bool, true, false, ◌||◌, ℕ, zero, suc, ◌+◌, ◌-◌, ◌≤◌, ◌<◌, eqb, leb, ltb}
use Rattle.std.proofs.Math.Path.{refl, sym, ap}
use Rattle.std.proofs.Common.{ap₂, ◌∙◌, subst, add_assoc}
use mathlib.Core.List.{List, [], ◌∷◌, ◌++◌, map, append-nil, map-append}
use Rattle.std.proofs.Math.Option.{Option, none, some}
use native.Mathlib.Omega.{arith}
use borrow.Author.Tests.{ltb-true, ltb-false, lt-ltb, le-ltb}
use Rattle.std.proofs.Math.ListN.{length, drop, length-append, length-drop}
use Rattle.std.proofs.Math.Seq.{drop-append-add}
use Rattle.std.proofs.lemmas.List.{drop-append-le}
use Rattle.laws.specs.Cases.{split, split_option}
use Rattle.laws.specs.Lists.{All, all_append}
use Rattle.answers.specs.Answers.{Answer, gives, nothing, refused}
use Rattle.text.specs.Lines.{is_ending, lines, first_line, line_width}
use Rattle.text.specs.FilledLines.{filled_lines, closed_after, closed_before, filled-cut}
use Rattle.label_index.specs.Labels.{Label, bad_line, labels_in}
use Rattle.label_index.specs.Matches.{Match, match_in}
use Rattle.typed.specs.Words.{TypedStep, tile_there, end_there, unmatched, or_unmatched, typed_step_in, typed_step, typed_from, typed_word}
use Rattle.typed.specs.WordLaws.{split_step, word-ends, word-full, word-puts, WordSaid, given, unread, word-said}
use Rattle.typed.specs.Reading.{width-more, width-none, tiles_in, Readable, ReadLine, with_tiles, ReadingFrom, HandedOut, hands_out, reads_all}
use Rattle.typed.specs.Texts.{empty_width, line_start, line_after, on_line, word_of_line, or_end, word_from_place, next_word}

-- ---- an answer whose places are moved by d
abbrev pub moved_word : ℕ → Answer → Answer
moved_word d (gives vs) = gives vs
moved_word d nothing = nothing
moved_word d (refused k vs) = refused k (map (λ p. d + p) vs)

abbrev pub moved_line : ℕ → Answer → Answer
moved_line d (gives (start ∷ end ∷ after ∷ ns)) = gives ((d + start) ∷ (d + end) ∷ (d + after) ∷ ns)
moved_line d (gives (start ∷ end ∷ [])) = gives (start ∷ end ∷ [])
moved_line d (gives (start ∷ [])) = gives (start ∷ [])
moved_line d (gives []) = gives []
moved_line d nothing = nothing
moved_line d (refused k vs) = refused k (map (λ p. d + p) vs)

-- ---- the word of a line that stands d places further on
module _ (ls : List Label) (line : List ℕ) (d start : ℕ) where
  abbrev moved_step : TypedStep → TypedStep
  moved_step (tile_there t j) = tile_there t j
  moved_step (end_there r) = end_there (moved_word d r)

  unmatched-moved : (first low : Bool) (i n : ℕ) → unmatched first low (d + start + i) n ≡ moved_word d (unmatched first low (start + i) n)
  unmatched-moved true low i n = ap (λ p. refused 28 (p ∷ [])) (add_assoc d start i)
  unmatched-moved false true i n = refl
  unmatched-moved false false i n = ap (λ p. refused 28 (p ∷ [])) (add_assoc d start i)

  step-moved : (n i : ℕ) → typed_step ls line (d + start) n i ≡ moved_step (typed_step ls line start n i)
  unfolding typed_step
  step-moved n i = by-rest (drop i line)
    where
      by-Match : (o : Option Match) (first low : Bool) → or_unmatched o i (unmatched first low (d + start + i) n)
          ≡ moved_step (or_unmatched o i (unmatched first low (start + i) n))
      by-Match (some m) first low = refl
      by-Match none first low = ap end_there (unmatched-moved first low i n)

      by-rest : (s : List ℕ) → typed_step_in ls line (d + start) s n i ≡ moved_step (typed_step_in ls line start s n i)
      by-rest [] = refl
      by-rest (b ∷ s) = by-Match (match_in ls (b ∷ s)) (eqb i 0) (leb b 0x20)

  abbrev moved : List ℕ × Answer → List ℕ × Answer
  moved w = (w.0, moved_word d w.1)

  typed-moved : (room n i : ℕ) → typed_from ls line (d + start) room n i ≡ moved (typed_from ls line start room n i)
  typed-moved zero n i =
      split_step (typed_step ls line start n i)
      (λ t j e. word-full ls line (d + start) zero n i t j refl (step-moved n i ∙ ap moved_step e) ∙ sym (ap moved (word-full ls line start zero n i t j refl e)))
      (λ r e. word-ends ls line (d + start) zero n i (moved_word d r) (step-moved n i ∙ ap moved_step e) ∙ sym (ap moved (word-ends ls line start zero n i r e)))
  typed-moved (suc room) n i =
      split_step (typed_step ls line start n i)
      (λ t j e.
      let z : suc room - 1 ≡ room = omega arith in
      word-puts ls line (d + start) (suc room) n i t j (omega arith) (step-moved n i ∙ ap moved_step e)
      ∙ ap (λ m. (t ∷ (typed_from ls line (d + start) m (n + 1) j).0, (typed_from ls line (d + start) m (n + 1) j).1)) z
      ∙ ap (λ (w : List ℕ × Answer). (t ∷ w.0, w.1)) (typed-moved room (n + 1) j)
      ∙ sym (ap moved (word-puts ls line start (suc room) n i t j (omega arith) e
      ∙ ap (λ m. (t ∷ (typed_from ls line start m (n + 1) j).0, (typed_from ls line start m (n + 1) j).1)) z)))
      (λ r e. word-ends ls line (d + start) (suc room) n i (moved_word d r) (step-moved n i ∙ ap moved_step e)
      ∙ sym (ap moved (word-ends ls line start (suc room) n i r e)))

-- ---- a call from a place of the second part
moved-on-line : (d start end after : ℕ) {n : ℕ} {a : Answer} → WordSaid n a
    → on_line (d + start) (d + end) (d + after) (moved_word d a) ≡ moved_line d (on_line start end after a)
moved-on-line d start end after given = refl
moved-on-line d start end after (unread k vs) = refl

module _ (file s t : List ℕ) (room : ℕ) where
  abbrev moved_call : List ℕ × Answer → List ℕ × Answer
  moved_call w = (w.0, moved_line (length s) w.1)

  line-moved : (p : ℕ) → word_of_line (labels_in file) (s ++ t) room (length s + p) ≡ moved_call (word_of_line (labels_in file) t room p)
  unfolding word_of_line
  line-moved p =
      let u = drop p t in
      let line = first_line u in
      let w = typed_word (labels_in file) line p room in
      let d : length s + p + length line ≡ length s + (p + length line) = omega arith in
      let a : length s + p + line_width u ≡ length s + (p + line_width u) = omega arith in
      rw (drop-append-add s t p, d, a, typed-moved (labels_in file) line (length s) p room 0 0)
      (ap (λ (r : Answer). (w.0, r)) (moved-on-line (length s) p (p + length line) (p + line_width u) (word-said (labels_in file) line p room)))

  start-moved : (k : ℕ) → line_start (s ++ t) (length s + k) ≡ length s + line_start t k
  start-moved k = rw (drop-append-add s t k) (add_assoc (length s) k (empty_width (drop k t)))

  place-moved : (k : ℕ) → word_from_place (labels_in file) (s ++ t) room (length s + k) ≡ moved_call (word_from_place (labels_in file) t room k)
  unfolding word_from_place
  place-moved k =
      let n = length-append s t in
      rw (start-moved k)
      (split (ltb (line_start t k) (length t))
      (λ q. let l = ltb-true (line_start t k) (length t) q in
      rw (q, lt-ltb (length s + line_start t k) (length (s ++ t)) (omega arith)) (line-moved (line_start t k)))
      (λ q. let l = ltb-false (line_start t k) (length t) q in
      rw (q, le-ltb (length s + line_start t k) (length (s ++ t)) (omega arith))))

  pub from-there : bad_line 1 (lines file) ≡ none → (k : ℕ) → next_word file (s ++ t) room (length s + k) ≡ moved_call (next_word file t room k)
  unfolding next_word
  from-there good k = rw good (place-moved k)

-- ---- a call from a place of the first part
empty-before : (u t : List ℕ) → empty_width u < length u → empty_width (u ++ t) ≡ empty_width u
empty-before [] t h = absurd (omega arith)
empty-before (b ∷ u) t h =
    split (is_ending b)
    (λ e. let w = width-more b u e in width-more b (u ++ t) e ∙ ap suc (empty-before u t (omega arith)) ∙ sym w)
    (λ e. width-none b (u ++ t) e ∙ sym (width-none b u e))

first-before : (u t : List ℕ) → 0 < length u → closed_after u || closed_before t ≡ true → first_line (u ++ t) ≡ first_line u
unfolding first_line
first-before [] t h c = absurd (omega arith)
first-before (b ∷ []) [] h c = refl
first-before (b ∷ []) (d ∷ t) h c = split (is_ending b) (λ e. rw (e, first_line)) (λ e. let f : is_ending d ≡ true = rw e at c in rw (e, f, first_line))
first-before (b ∷ d ∷ u) t h c =
    split (is_ending b) (λ e. rw (e, first_line)) (λ e. rw (e, first_line) (ap (b ∷◌) (first-before (d ∷ u) t (omega arith) c)))

closed-drop : (n : ℕ) (s : List ℕ) (c : Bool) → n < length s → closed_after s || c ≡ true → closed_after (drop n s) || c ≡ true
closed-drop zero s c h k = k
closed-drop (suc n) [] c h k = absurd (omega arith)
closed-drop (suc n) (b ∷ []) c h k = absurd (omega arith)
closed-drop (suc n) (b ∷ d ∷ s) c h k = closed-drop n (d ∷ s) c (omega arith) k

all_endings : (u t : List ℕ) → length u ≤ empty_width u → empty_width (u ++ t) ≡ length u + empty_width t
all_endings [] t h = omega arith
all_endings (b ∷ u) t h =
    split (is_ending b)
    (λ e. let w = width-more b u e in let r = all_endings u t (omega arith) in width-more b (u ++ t) e ∙ ap suc r ∙ omega arith)
    (λ e. let w = width-none b u e in absurd (omega arith))

module _ (file s t : List ℕ) (room : ℕ) where
  place-alike : (a b : ℕ) → line_start (s ++ t) a ≡ line_start (s ++ t) b
      → word_from_place (labels_in file) (s ++ t) room a ≡ word_from_place (labels_in file) (s ++ t) room b
  unfolding word_from_place
  place-alike a b e = ap (λ p. or_end (labels_in file) (s ++ t) (ltb p (length (s ++ t))) room p) e

  pub from_end : bad_line 1 (lines file) ≡ none → (at : ℕ) → at ≤ length s → length s ≤ line_start s at
      → next_word file (s ++ t) room at ≡ moved_call file s t room (next_word file t room 0)
  unfolding next_word
  from_end good at h k =
      let d = length-drop at s in
      let u = all_endings (drop at s) t (omega arith) in
      let front = ap (λ (x : List ℕ). at + empty_width x) (drop-append-le at s t h) in
      let there = start-moved file s t room 0 in
      let same : line_start (s ++ t) at ≡ line_start (s ++ t) (length s + 0) = front ∙ (let z : at + empty_width (drop at s ++ t) ≡ length s + line_start t 0 = omega arith in z) ∙ sym there in
      rw good (place-alike at (length s + 0) same ∙ place-moved file s t room 0)

-- an answer with another place after the line's ending, which may reach into the second part
abbrev pub with_after : ℕ → Answer → Answer
with_after a (gives (start ∷ end ∷ after ∷ ns)) = gives (start ∷ end ∷ a ∷ ns)
with_after a (gives (start ∷ end ∷ [])) = gives (start ∷ end ∷ [])
with_after a (gives (start ∷ [])) = gives (start ∷ [])
with_after a (gives []) = gives []
with_after a nothing = nothing
with_after a (refused k vs) = refused k vs

after-on-line : (start end after a : ℕ) {n : ℕ} {r : Answer} → WordSaid n r → on_line start end a r ≡ with_after a (on_line start end after r)
after-on-line start end after a given = refl
after-on-line start end after a (unread k vs) = refl

module _ (file s t : List ℕ) (cut : closed_after s || closed_before t ≡ true) (room at : ℕ) (h : line_start s at < length s) where
  start-before : line_start (s ++ t) at ≡ line_start s at
  start-before =
      let d = length-drop at s in
      ap (λ (u : List ℕ). at + empty_width u) (drop-append-le at s t (omega arith)) ∙ ap (at +◌) (empty-before (drop at s) t (omega arith))

  line_before : first_line (drop (line_start s at) (s ++ t)) ≡ first_line (drop (line_start s at) s)
  line_before =
      let d = length-drop (line_start s at) s in
      ap first_line (drop-append-le (line_start s at) s t (omega arith))
      ∙ first-before (drop (line_start s at) s) t (omega arith) (closed-drop (line_start s at) s (closed_before t) h cut)

  abbrev same_line : List ℕ × Answer → List ℕ × Answer
  same_line w = (w.0, with_after (line_after (s ++ t) (line_start s at)) w.1)

  place-before : word_from_place (labels_in file) (s ++ t) room at ≡ same_line (word_from_place (labels_in file) s room at)
  unfolding word_from_place word_of_line
  place-before =
      let p = line_start s at in
      let n = length-append s t in
      let line = first_line (drop p s) in
      let w = typed_word (labels_in file) line p room in
      rw (start-before, lt-ltb p (length s) h, lt-ltb p (length (s ++ t)) (omega arith), line_before)
      (ap (λ (r : Answer). (w.0, r)) (after-on-line p (p + length line) (line_after s p) (line_after (s ++ t) p) (word-said (labels_in file) line p room)))

  pub from-here : next_word file (s ++ t) room at ≡ same_line (next_word file s room at)
  unfolding next_word
  from-here = split_option (bad_line 1 (lines file)) (λ e. rw e place-before) (λ k e. rw e)

-- ---- both parts to their ends
entries-are : (file : List ℕ) (es : List ReadLine) → All (λ (e : ReadLine). e.1 ≡ tiles_in file e.0) es
    → es ≡ map (with_tiles file) (map (λ (e : ReadLine). e.0) es)
entries-are file [] a = refl
entries-are file (e ∷ es) a = ap₂ ◌∷◌ (ap (λ (ts : List ℕ). (e.0, ts)) a.0) (entries-are file es a.1)

lines-readable : (file : List ℕ) (es : List ReadLine) → All (λ (e : ReadLine). Readable file e.0) es → All (Readable file) (map (λ (e : ReadLine). e.0) es)
lines-readable file [] a = tt
lines-readable file (e ∷ es) a = (a.0, lines-readable file es a.1)

-- what a reading to the end says of the whole text
module _ (file text : List ℕ) (good : bad_line 1 (lines file) ≡ none) (room : ℕ → ℕ) (es : List ReadLine) (r : ReadingFrom file text room 0 es nothing) where
  abbrev handed : HandedOut file text room 0 es nothing
  handed = hands_out file text room good 0 es nothing r

  all_lines : filled_lines text ≡ map (λ (e : ReadLine). e.0) es
  all_lines = handed.lines_are ∙ ap (map (λ (e : ReadLine). e.0) es ++◌) handed.stop ∙ append-nil (map (λ (e : ReadLine). e.0) es)

  all-readable : All (Readable file) (filled_lines text)
  all-readable = subst (All (Readable file)) (sym all_lines) (lines-readable file es handed.readable)

  all-entries : map (with_tiles file) (filled_lines text) ≡ es
  all-entries = ap (map (with_tiles file)) all_lines ∙ sym (entries-are file es handed.tiles)

module _ (file s t : List ℕ) (good : bad_line 1 (lines file) ≡ none) (cut : closed_after s || closed_before t ≡ true) (es ds : List ReadLine) where
  pub reads-cut : (room_s room_t room : ℕ → ℕ) → ((at : ℕ) → length (s ++ t) ≤ room at)
      → ReadingFrom file s room_s 0 es nothing → ReadingFrom file t room_t 0 ds nothing → ReadingFrom file (s ++ t) room 0 (es ++ ds) nothing
  reads-cut room_s room_t room enough p q =
      let parts = filled-cut s t cut in
      let all = subst (All (Readable file)) (sym parts)
      (all_append (Readable file) (filled_lines s) (filled_lines t) (all-readable file s good room_s es p) (all-readable file t good room_t ds q)) in
      let entries = ap (map (with_tiles file)) parts ∙ map-append (with_tiles file) (filled_lines s) (filled_lines t)
      ∙ ap₂ ◌++◌ (all-entries file s good room_s es p) (all-entries file t good room_t ds q) in
      subst (λ (xs : List ReadLine). ReadingFrom file (s ++ t) room 0 xs nothing) entries (reads_all file (s ++ t) good room enough 0 all)
