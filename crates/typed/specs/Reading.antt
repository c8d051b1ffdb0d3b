-- Reading a text line by line: calls one after the other, each from the place that the one before answered, hand out exactly the lines that are not
-- empty, each once, in order, with their tiles, up to the first line that is refused (`hands_out`); and a text of which every line can be read is read to
-- its end (`reads_all`).
use Rattle.std.specs.Prelude.{◌≡◌, refl, true, false, ℕ, zero, suc, ◌-◌, ◌≤◌, ◌<◌, ltb, take, drop}
use Rattle.std.proofs.Common.{sym, ap, ap₂, ◌∙◌, subst, inl, inr, ltb-true, ltb-false, drop-drop}
use mathlib.Core.List.{List, [], ◌∷◌, ◌++◌, map}
use Rattle.std.proofs.Math.Option.{none, some}
use native.Mathlib.Omega.{arith}
use Rattle.std.proofs.Math.ListN.{length, length-drop}
use Rattle.laws.specs.Cases.{split, split_option, some≢none}
use Rattle.laws.specs.Lists.{All}
use Rattle.answers.specs.Answers.{Answer, gives, nothing, refused, value_at}
use Rattle.answers.specs.RowLaws.{gives≢refused}
use Rattle.text.specs.Lines.{is_ending, lines, first_line, line_width}
use Rattle.text.specs.LineLaws.{line-part, line-fits, width_fits}
use Rattle.text.specs.FilledLines.{filled_lines, ending_passed, line_first}
use Rattle.label_index.specs.Labels.{bad_line, labels_in}
use Rattle.typed.specs.Words.{typed_word}
use Rattle.typed.specs.WordLaws.{kind_of, WordSaid, given, unread, word-said, typed_anywhere}
use Rattle.typed.specs.Texts.{empty_width, line_start, line_end, line_after, on_line, word_of_line, word_from_place, next_word}
use Rattle.typed.specs.Said.{part_of}

-- ---- past the empty lines that a text begins with stands no line, or the first that is not empty
module _ (b : ℕ) (s : List ℕ) where
  pub width-more : is_ending b ≡ true → empty_width (b ∷ s) ≡ suc (empty_width s)
  unfolding empty_width
  width-more e = rw (e, empty_width)

  pub width-none : is_ending b ≡ false → empty_width (b ∷ s) ≡ 0
  unfolding empty_width
  width-none e = rw (e, empty_width)

pub data Skipped (s : List ℕ) : Type 0 where
  no_line : length s ≤ empty_width s → filled_lines s ≡ [] → Skipped s
  line-there : (b : ℕ) (t : List ℕ) → empty_width s < length s → drop (empty_width s) s ≡ b ∷ t → is_ending b ≡ false
      → filled_lines s ≡ filled_lines (b ∷ t) → Skipped s

skipped-more : (b : ℕ) (s : List ℕ) → is_ending b ≡ true → Skipped s → Skipped (b ∷ s)
skipped-more b s e (no_line h f) = let w = width-more b s e in no_line (omega arith) (ending_passed b s e ∙ f)
skipped-more b s e (line-there c t h d n f) =
    let w = width-more b s e in line-there c t (omega arith) (ap (λ k. drop k (b ∷ s)) w ∙ d) n (ending_passed b s e ∙ f)

none-there : Skipped []
unfolding empty_width lines
none-there = no_line (omega arith) refl

skipped : (s : List ℕ) → Skipped s
skipped [] = none-there
skipped (b ∷ s) =
    split (is_ending b)
    (λ e. skipped-more b s e (skipped s))
    (λ e. let w = width-none b s e in line-there b s (omega arith) (ap (λ k. drop k (b ∷ s)) w) e refl)

-- ---- the next line from a place
module _ (text : List ℕ) (at : ℕ) where
  abbrev pub next_start : ℕ
  next_start = line_start text at

  abbrev pub next_end : ℕ
  next_end = line_end text next_start

  abbrev pub next_after : ℕ
  next_after = line_after text next_start

  from_start : drop (empty_width (drop at text)) (drop at text) ≡ drop next_start text
  from_start = drop-drop (empty_width (drop at text)) at text

  pub line-is : part_of text next_start next_end ≡ first_line (drop next_start text)
  line-is =
      let d : next_end - next_start ≡ length (first_line (drop next_start text)) = omega arith in
      ap (λ k. take k (drop next_start text)) d ∙ line-part (drop next_start text)

  lines-there : (b : ℕ) (t : List ℕ) → drop next_start text ≡ b ∷ t → is_ending b ≡ false
      → filled_lines (b ∷ t) ≡ part_of text next_start next_end ∷ filled_lines (drop next_after text)
  lines-there b t d e =
      line_first b e t
      ∙ ap₂ ◌∷◌ (ap first_line (sym d) ∙ sym line-is)
      (ap filled_lines (ap₂ (λ w (u : List ℕ). drop w u) (ap line_width (sym d)) (sym d) ∙ drop-drop (line_width (drop next_start text)) next_start text))

  -- "where none is left or the place is past the text"
  pub no-next : length text ≤ next_start → filled_lines (drop at text) ≡ []
  no-next h = by_skip (skipped (drop at text))
    where
      by_skip : Skipped (drop at text) → filled_lines (drop at text) ≡ []
      by_skip (no_line k f) = f
      by_skip (line-there b t k d e f) = let l = length-drop at text in absurd (omega arith)

  -- "the next line that isn't empty": it, and those after its ending
  pub next-then-rest : next_start < length text → filled_lines (drop at text) ≡ part_of text next_start next_end ∷ filled_lines (drop next_after text)
  next-then-rest h = by_skip (skipped (drop at text))
    where
      by_skip : Skipped (drop at text) → filled_lines (drop at text) ≡ part_of text next_start next_end ∷ filled_lines (drop next_after text)
      by_skip (no_line k f) = let l = length-drop at text in absurd (omega arith)
      by_skip (line-there b t k d e f) = f ∙ lines-there b t (sym from_start ∙ d) e

  -- it has a byte, and its ending stands after it, inside the text
  pub record LineMoves (start end after : ℕ) : Type 0 where
    pub begins : at ≤ start
    pub some_bytes : start < end
    pub ends : end ≤ after
    pub inside : after ≤ length text

  pub next-moves : next_start < length text → LineMoves next_start next_end next_after
  unfolding first_line line_width
  next-moves h = by_skip (skipped (drop at text))
    where
      by_skip : Skipped (drop at text) → LineMoves next_start next_end next_after
      by_skip (no_line k f) = let l = length-drop at text in absurd (omega arith)
      by_skip (line-there b t k d e f) =
          let first : 0 < length (first_line (drop next_start text)) = rw (sym from_start ∙ d) (rw (e, first_line) (omega arith)) in
          let w = width_fits (drop next_start text) in
          let l = length-drop next_start text in
          record { begins = omega arith; some_bytes = omega arith; ends = omega arith; inside = omega arith }

-- ---- the tiles of a line's word, with room for a tile for each byte: the same wherever the line stands, with any room in which the word is read
abbrev pub tiles_in : List ℕ → List ℕ → List ℕ
tiles_in file l = (typed_word (labels_in file) l 0 (length l)).0

abbrev pub Readable : List ℕ → List ℕ → Type 0
Readable file l = (n : ℕ) × ((typed_word (labels_in file) l 0 (length l)).1 ≡ gives (n ∷ []))

module _ (file l : List ℕ) (start room n : ℕ) (e : (typed_word (labels_in file) l start room).1 ≡ gives (n ∷ [])) where
  same_word : typed_word (labels_in file) l 0 (length l) ≡ typed_word (labels_in file) l start room
  same_word = typed_anywhere file l start 0 room (length l) 0 0 n (inr (omega arith)) e

  pub word-tiles : (typed_word (labels_in file) l start room).0 ≡ tiles_in file l
  word-tiles = sym (ap (λ (w : List ℕ × Answer). w.0) same_word)

  pub word-readable : Readable file l
  word-readable = (n, ap (λ (w : List ℕ × Answer). w.1) same_word ∙ e)

readable-there : (file l : List ℕ) (start room : ℕ) → length l ≤ room → (r : Readable file l)
    → (typed_word (labels_in file) l start room).1 ≡ gives (r.0 ∷ [])
readable-there file l start room h r =
    ap (λ (w : List ℕ × Answer). w.1) (typed_anywhere file l 0 start (length l) room 0 0 r.0 (inl h) r.1) ∙ r.1

-- an answer that reads no word
abbrev pub NoWord : Answer → Type 0
NoWord (gives vs) = ⊥
NoWord nothing = Unit
NoWord (refused k vs) = Unit

-- a line that is handed out, and the tiles of its word
abbrev pub ReadLine : Type 0
ReadLine = List ℕ × List ℕ

abbrev pub with_tiles : List ℕ → List ℕ → ReadLine
with_tiles file l = (l, tiles_in file l)

-- ---- one call: a bad label file, the end, or the word of the next line
module _ (file text : List ℕ) where
  abbrev pub next_typed : (room at : ℕ) → List ℕ × Answer
  next_typed room at = typed_word (labels_in file) (part_of text (next_start text at) (next_end text at)) (next_start text at) room

  pub data Called (room at : ℕ) : List ℕ × Answer → Type 0 where
    bad-file : (k : ℕ) → bad_line 1 (lines file) ≡ some k → Called room at ([], refused 27 (k ∷ []))
    at-end : length text ≤ next_start text at → Called room at ([], nothing)
    word_read : next_start text at < length text → (n : ℕ) → (next_typed room at).1 ≡ gives (n ∷ [])
        → Called room at ((next_typed room at).0, gives (next_start text at ∷ next_end text at ∷ next_after text at ∷ n ∷ []))
    word_refused : next_start text at < length text → (k : ℕ) (vs : List ℕ) → (next_typed room at).1 ≡ refused k vs
        → Called room at ((next_typed room at).0, refused k vs)

  on-next-line : (room at : ℕ) → next_start text at < length text → {n : ℕ} {a : Answer} → WordSaid n a → (next_typed room at).1 ≡ a
      → Called room at ((next_typed room at).0, on_line (next_start text at) (next_end text at) (next_after text at) a)
  on-next-line room at h {n} given e = word_read h n e
  on-next-line room at h (unread k vs) e = word_refused h k vs e

  from_place : (room at : ℕ) → Called room at (word_from_place (labels_in file) text room at)
  unfolding word_from_place word_of_line
  from_place room at =
      split (ltb (next_start text at) (length text))
      (λ t. rw t (subst (λ (l : List ℕ).
      let w = typed_word (labels_in file) l (next_start text at) room in
      Called room at (w.0, on_line (next_start text at) (next_end text at) (next_after text at) w.1)) (line-is text at)
      (on-next-line room at (ltb-true (next_start text at) (length text) t)
      (word-said (labels_in file) (part_of text (next_start text at) (next_end text at)) (next_start text at) room) refl)))
      (λ t. rw t (at-end (ltb-false (next_start text at) (length text) t)))

  pub called : (room at : ℕ) → Called room at (next_word file text room at)
  unfolding next_word
  called room at =
      split_option (bad_line 1 (lines file))
      (λ e. rw e (from_place room at))
      (λ k e. rw e (bad-file k e))

  -- ---- calls one after the other, up to the first that reads no word: what they hand out, and what is answered last. The call from a place has the
  -- room that `room` says
  pub data ReadingFrom (room : ℕ → ℕ) : ℕ → List ReadLine → Answer → Type 0 where
    stops : {at : ℕ} {ts : List ℕ} {r : Answer} → next_word file text (room at) at ≡ (ts, r) → NoWord r → ReadingFrom room at [] r
    reads : {at start end after n : ℕ} {ts : List ℕ} {es : List ReadLine} {r : Answer}
        → next_word file text (room at) at ≡ (ts, gives (start ∷ end ∷ after ∷ n ∷ [])) → ReadingFrom room after es r
        → ReadingFrom room at ((part_of text start end, ts) ∷ es) r

  -- ---- a call that reads a word
  pub record WordHanded (at start end after : ℕ) (ts : List ℕ) : Type 0 where
    pub moves : LineMoves text at start end after
    pub next : filled_lines (drop at text) ≡ part_of text start end ∷ filled_lines (drop after text)
    pub tiles : ts ≡ tiles_in file (part_of text start end)
    pub readable : Readable file (part_of text start end)

  next-handed : (room at n : ℕ) → next_start text at < length text → (next_typed room at).1 ≡ gives (n ∷ [])
      → WordHanded at (next_start text at) (next_end text at) (next_after text at) (next_typed room at).0
  next-handed room at n h e =
      let l = part_of text (next_start text at) (next_end text at) in
      record {
        moves = next-moves text at h;
        next = next-then-rest text at h;
        tiles = word-tiles file l (next_start text at) room n e;
        readable = word-readable file l (next_start text at) room n e;
      }

  pub word-handed : (room at start end after n : ℕ) (ts : List ℕ) → next_word file text room at ≡ (ts, gives (start ∷ end ∷ after ∷ n ∷ []))
      → WordHanded at start end after ts
  word-handed room at start end after n ts e = by_call (called room at) e
    where
      by_call : {w : List ℕ × Answer} → Called room at w → w ≡ (ts, gives (start ∷ end ∷ after ∷ n ∷ [])) → WordHanded at start end after ts
      by_call (bad-file k b) q = let z = ap (λ (w : List ℕ × Answer). kind_of w.1) q in absurd (omega arith)
      by_call (at-end h) q = let z = ap (λ (w : List ℕ × Answer). kind_of w.1) q in absurd (omega arith)
      by_call (word_read h m t) q =
          let a : next_start text at ≡ start = ap (λ (w : List ℕ × Answer). value_at 0 w.1) q in
          let b : next_end text at ≡ end = ap (λ (w : List ℕ × Answer). value_at 1 w.1) q in
          let c : next_after text at ≡ after = ap (λ (w : List ℕ × Answer). value_at 2 w.1) q in
          let d : (next_typed room at).0 ≡ ts = ap (λ (w : List ℕ × Answer). w.0) q in
          subst (WordHanded at start end after) d
          (subst (λ x. WordHanded at start end x (next_typed room at).0) c
          (subst (λ x. WordHanded at start x (next_after text at) (next_typed room at).0) b
          (subst (λ x. WordHanded at x (next_end text at) (next_after text at) (next_typed room at).0) a (next-handed room at m h t))))
      by_call (word_refused h k vs t) q = let z = ap (λ (w : List ℕ × Answer). kind_of w.1) q in absurd (omega arith)

  -- ---- what calls one after the other hand out
  module _ (room : ℕ → ℕ) where
    -- why the reading stopped: no line is left, or the call from some place refuses the first of those left
    abbrev pub ReadingStops : Answer → List (List ℕ) → Type 0
    ReadingStops (gives vs) rest = ⊥
    ReadingStops nothing rest = rest ≡ []
    ReadingStops (refused k vs) rest =
        (at : ℕ) × (filled_lines (drop at text) ≡ rest)
        × (rest ≡ part_of text (next_start text at) (next_end text at) ∷ filled_lines (drop (next_after text at) text))
        × ((next_typed (room at) at).1 ≡ refused k vs)

    stop-handed : (at : ℕ) (ts : List ℕ) (r : Answer) → bad_line 1 (lines file) ≡ none → NoWord r → next_word file text (room at) at ≡ (ts, r)
        → ReadingStops r (filled_lines (drop at text))
    stop-handed at ts r good none_read e = by_call (called (room at) at) (ap (λ (w : List ℕ × Answer). w.1) e) none_read
      where
        by_call : {w : List ℕ × Answer} → Called (room at) at w → w.1 ≡ r → NoWord r → ReadingStops r (filled_lines (drop at text))
        by_call (bad-file k b) q nr = some≢none (sym b ∙ good)
        by_call (at-end h) q nr = subst (λ (a : Answer). ReadingStops a (filled_lines (drop at text))) q (no-next text at h)
        by_call (word_read h n t) q nr = absurd (subst NoWord (sym q) nr)
        by_call (word_refused h k vs t) q nr =
            subst (λ (a : Answer). ReadingStops a (filled_lines (drop at text))) q (at, refl, next-then-rest text at h, t)

    -- exactly the lines that are not empty, each once, in order, and the parts handed out are those lines, up to the first that is refused
    pub record HandedOut (at : ℕ) (es : List ReadLine) (r : Answer) : Type 0 where
      pub rest : List (List ℕ)
      pub lines_are : filled_lines (drop at text) ≡ map (λ (e : ReadLine). e.0) es ++ rest
      pub tiles : All (λ (e : ReadLine). e.1 ≡ tiles_in file e.0) es
      pub readable : All (λ (e : ReadLine). Readable file e.0) es
      pub stop : ReadingStops r rest

    pub hands_out : bad_line 1 (lines file) ≡ none → (at : ℕ) (es : List ReadLine) (r : Answer) → ReadingFrom room at es r → HandedOut at es r
    hands_out good at [] r (stops {ts} e w) =
        record { rest = filled_lines (drop at text); lines_are = refl; tiles = tt; readable = tt; stop = stop-handed at ts r good w e }
    hands_out good at (x ∷ es) r (reads {start} {end} {after} {n} {ts} e more) =
        let h = word-handed (room at) at start end after n ts e in
        let m = hands_out good after es r more in
        record {
          rest = m.rest;
          lines_are = h.next ∙ ap (part_of text start end ∷◌) m.lines_are;
          tiles = (h.tiles, m.tiles);
          readable = (h.readable, m.readable);
          stop = m.stop;
        }

    -- every reading ends
    abbrev pub SomeReading : ℕ → Type 0
    SomeReading at = (es : List ReadLine) × (r : Answer) × ReadingFrom room at es r

    reading_by : (at : ℕ) → (next_start text at < length text → SomeReading (next_after text at)) → {w : List ℕ × Answer}
        → next_word file text (room at) at ≡ w → Called (room at) at w → SomeReading at
    reading_by at more e (bad-file k b) = ([], refused 27 (k ∷ []), stops e tt)
    reading_by at more e (at-end p) = ([], nothing, stops e tt)
    reading_by at more e (word_read p n t) =
        let r = more p in ((part_of text (next_start text at) (next_end text at), (next_typed (room at) at).0) ∷ r.0, r.1, reads e r.2)
    reading_by at more e (word_refused p k vs t) = ([], refused k vs, stops e tt)

    reading_within : (fuel at : ℕ) → length text - at ≤ fuel → SomeReading at
    reading_within zero at h = reading_by at (λ p. absurd (omega arith)) refl (called (room at) at)
    reading_within (suc fuel) at h =
        reading_by at
        (λ p. let m = next-moves text at p in let a = m.begins in let b = m.some_bytes in let c = m.ends in
        reading_within fuel (next_after text at) (omega arith)) refl (called (room at) at)

    pub reads_end : (at : ℕ) → SomeReading at
    reads_end at = reading_within (length text - at) at (omega arith)

  -- ---- a text of which all lines can be read is read to its end, where each call has room for as many tiles as the text has bytes
  module _ (good : bad_line 1 (lines file) ≡ none) (room : ℕ → ℕ) (enough : (at : ℕ) → length text ≤ room at) where
    abbrev AllRead : ℕ → Type 0
    AllRead at = All (Readable file) (filled_lines (drop at text)) → ReadingFrom room at (map (with_tiles file) (filled_lines (drop at text))) nothing

    read_by : (at : ℕ) → (next_start text at < length text → AllRead (next_after text at)) → {w : List ℕ × Answer}
        → next_word file text (room at) at ≡ w → Called (room at) at w → AllRead at
    read_by at more e (bad-file k b) all = some≢none (sym b ∙ good)
    read_by at more e (at-end h) all =
        subst (λ (ls : List (List ℕ)). ReadingFrom room at (map (with_tiles file) ls) nothing) (sym (no-next text at h)) (stops e tt)
    read_by at more e (word_read h n t) all =
        let is = next-then-rest text at h in
        let l = part_of text (next_start text at) (next_end text at) in
        let same : (l, (next_typed (room at) at).0) ≡ with_tiles file l
        = ap (λ (ts : List ℕ). (l, ts)) (word-tiles file l (next_start text at) (room at) n t) in
        subst (λ (ls : List (List ℕ)). ReadingFrom room at (map (with_tiles file) ls) nothing) (sym is)
        (subst (λ (x : ReadLine). ReadingFrom room at (x ∷ map (with_tiles file) (filled_lines (drop (next_after text at) text))) nothing) same
        (reads e (more h (subst (All (Readable file)) is all).1)))
    read_by at more e (word_refused h k vs t) all =
        let l = part_of text (next_start text at) (next_end text at) in
        let first = (subst (All (Readable file)) (next-then-rest text at h) all).0 in
        let n = ap length (line-is text at) in
        let f = line-fits (drop (next_start text at) text) in
        let d = length-drop (next_start text at) text in
        let g = enough at in
        gives≢refused (sym (readable-there file l (next_start text at) (room at) (omega arith) first) ∙ t)

    read-within : (fuel at : ℕ) → length text - at ≤ fuel → AllRead at
    read-within zero at h = read_by at (λ p. absurd (omega arith)) refl (called (room at) at)
    read-within (suc fuel) at h =
        read_by at
        (λ p. let m = next-moves text at p in let a = m.begins in let b = m.some_bytes in let c = m.ends in
        read-within fuel (next_after text at) (omega arith)) refl (called (room at) at)

    pub reads_all : (at : ℕ) → All (Readable file) (filled_lines (drop at text))
        → ReadingFrom room at (map (with_tiles file) (filled_lines (drop at text))) nothing
    reads_all at = read-within (length text - at) at (omega arith)
