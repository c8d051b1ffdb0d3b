-- A list of bytes whose row passes is the bytes of a lexicon, and the row of every lexicon's bytes passes. The idea: word by word, since the
-- rows of the words stand one after the other.
use Rattle.std.specs.Prelude.{◌≡◌, refl, true, false, ◌&&◌, not, List, [], ◌∷◌, ◌++◌, ℕ, zero, suc, ◌≤◌, ◌<◌, eqb, ltb, length, take, drop}
use Rattle.std.proofs.Common.{sym, ap, ap₂, ◌∙◌, subst, true≢false, arith, eqb-true, eq-eqb, ne_eqb, ltb-true, ltb-false, lt-ltb, le-ltb, length-drop, length-append, take-append-drop, length-take-le}
use Rattle.std.proofs.Math.Option.{none}
use Rattle.std.proofs.lemmas.Bool.{eqb-false, not-false}
use Rattle.std.proofs.Math.Seq.{take-append_seam, drop-append_seam}
use Rattle.laws.specs.Cases.{split, and_left, and_right, or_false-left, or_false-right}
use Rattle.laws.specs.Lists.{All, all_members, some_of}
use Rattle.laws.specs.Members.{none_of}
use Rattle.answers.specs.Answers.{first_of}
use Rattle.answers.specs.RowLaws.{row_ends, rows_pass, rows-passed, all_pass, passed-all}
use Rattle.graph.specs.Words.{Word}
use Rattle.graph.specs.Order.{◌≺◌, prefix, lower, later}
use Rattle.graph.specs.OrderLaws.{EachAbove, each-ascending, ascending-each}
use Rattle.built.specs.Lexicon.{ListWord, Lexicon}
use Rattle.built.specs.Listed.{words_ahead, words_listed, list_bytes, word_below, no_tile, word_row, rows_ahead, rows_after, list_row}

-- ---- the test of the order
pub test_below : (u v : Word) → word_below u v ≡ true → u ≺ v
test_below [] [] e = absurd (true≢false (sym e))
test_below [] (b ∷ v) e = prefix
test_below (a ∷ u) [] e = absurd (true≢false (sym e))
test_below (a ∷ u) (b ∷ v) e =
    split (ltb a b)
    (λ t. lower (ltb-true a b t))
    (λ t.
    let k : eqb a b && word_below u v ≡ true = rw t at e in
    let i = eqb-true a b (and_left (eqb a b) (word_below u v) k) in
    subst (λ c. (a ∷ u) ≺ (c ∷ v)) i (later (test_below u v (and_right (eqb a b) (word_below u v) k))))

pub below-test : {u v : Word} → u ≺ v → word_below u v ≡ true
below-test prefix = refl
below-test (lower {a} {b} h) = rw (lt-ltb a b h)
below-test (later {a} h) = rw (le-ltb a a (omega arith), eq-eqb a a refl) (below-test h)

-- ---- one word at a time
rows-enough : (k m : ℕ) (before : Word) (bytes : List ℕ) → length bytes ≤ k → length bytes ≤ m → rows_ahead k before bytes ≡ rows_ahead m before bytes
unfolding rows_ahead
rows-enough zero zero before bytes h l = refl
rows-enough zero (suc m) before [] h l = refl
rows-enough zero (suc m) before (n ∷ bytes) h l = absurd (omega arith)
rows-enough (suc k) zero before [] h l = refl
rows-enough (suc k) zero before (n ∷ bytes) h l = absurd (omega arith)
rows-enough (suc k) (suc m) before [] h l = refl
rows-enough (suc k) (suc m) before (n ∷ bytes) h l =
    let d = length-drop n bytes in
    ap (word_row before n bytes ++◌) (rows-enough k m (take n bytes) (drop n bytes) (omega arith) (omega arith))

pub rows_next : (before : Word) (n : ℕ) (bytes : List ℕ)
    → rows_after before (n ∷ bytes) ≡ word_row before n bytes ++ rows_after (take n bytes) (drop n bytes)
unfolding rows_ahead
rows_next before n bytes =
    let d = length-drop n bytes in
    ap (word_row before n bytes ++◌) (rows-enough (length bytes) (length (drop n bytes)) (take n bytes) (drop n bytes) (omega arith) (omega arith))

words-enough : (k m : ℕ) (bytes : List ℕ) → length bytes ≤ k → length bytes ≤ m → words_ahead k bytes ≡ words_ahead m bytes
unfolding words_ahead
words-enough zero zero bytes h l = refl
words-enough zero (suc m) [] h l = refl
words-enough zero (suc m) (n ∷ bytes) h l = absurd (omega arith)
words-enough (suc k) zero [] h l = refl
words-enough (suc k) zero (n ∷ bytes) h l = absurd (omega arith)
words-enough (suc k) (suc m) [] h l = refl
words-enough (suc k) (suc m) (n ∷ bytes) h l =
    let d = length-drop n bytes in
    ap (take n bytes ∷◌) (words-enough k m (drop n bytes) (omega arith) (omega arith))

pub words-next : (n : ℕ) (bytes : List ℕ) → words_listed (n ∷ bytes) ≡ take n bytes ∷ words_listed (drop n bytes)
unfolding words_listed words_ahead
words-next n bytes =
    let d = length-drop n bytes in
    ap (take n bytes ∷◌) (words-enough (length bytes) (length (drop n bytes)) (drop n bytes) (omega arith) (omega arith))

-- ---- a word that passes its row
good-tile : (t : ℕ) → no_tile t ≡ false → (1 ≤ t) × (t < 64)
good-tile t e =
    let a = eqb-false t 0 (or_false-left (eqb t 0) (ltb 63 t) e) in
    let b = ltb-false 63 t (or_false-right (eqb t 0) (ltb 63 t) e) in
    (omega arith, omega arith)

tile-good : (t : ℕ) → (1 ≤ t) × (t < 64) → no_tile t ≡ false
tile-good t h = let a = h.0 in let b = h.1 in rw (ne_eqb t 0 (λ e. omega arith), le-ltb 63 t (omega arith))

pub record WordPasses (before : Word) (n : ℕ) (bytes : List ℕ) : Type 0 where
  pub inside : n ≤ length bytes
  pub fine : ListWord 64 (take n bytes)
  pub above : before ≺ take n bytes

pub word-passed : (before : Word) (n : ℕ) (bytes : List ℕ) → first_of (word_row before n bytes) ≡ none → WordPasses before n bytes
word-passed before n bytes e =
    let p = passed-all (word_row before n bytes) e in
    let x = eqb-false n 0 (or_false-left (eqb n 0) (ltb 64 n) p.0) in
    let y = ltb-false 64 n (or_false-right (eqb n 0) (ltb 64 n) p.0) in
    let z = ltb-false (length bytes) n p.1.0 in
    let l = length-take-le n bytes z in
    record {
      inside = z;
      fine = record {
        some = omega arith;
        short = omega arith;
        tiles = all_members (λ t. (1 ≤ t) × (t < 64)) (take n bytes) (λ t m. good-tile t (none_of no_tile (take n bytes) p.1.1.0 t m));
      };
      above = test_below before (take n bytes) (not-false (word_below before (take n bytes)) p.1.1.1.0);
    }

none-bad : (w : Word) → All (λ t. (1 ≤ t) × (t < 64)) w → some_of no_tile w ≡ false
none-bad [] h = refl
none-bad (t ∷ w) h = rw (tile-good t h.0) (none-bad w h.1)

word-passes : (before w : Word) (rest : List ℕ) → ListWord 64 w → before ≺ w → first_of (word_row before (length w) (w ++ rest)) ≡ none
word-passes before w rest f h =
    let a = f.some in
    let b = f.short in
    let l = length-append w rest in
    let t = take-append_seam w rest in
    all_pass (word_row before (length w) (w ++ rest)) (
      rw (ne_eqb (length w) 0 (λ e. omega arith), le-ltb 64 (length w) b),
      (
        le-ltb (length (w ++ rest)) (length w) (omega arith),
        (ap (some_of no_tile) t ∙ none-bad w f.tiles, (ap (λ x. not (word_below before x)) t ∙ ap not (below-test h), tt)),
      ),
    )

-- ---- word by word
record Read (before : Word) (bytes : List ℕ) (ws : List Word) : Type 0 where
  fine : All (ListWord 64) ws
  each : EachAbove before ws
  bytes-are : bytes ≡ list_bytes ws

reads : (left : ℕ) (before : Word) (bytes : List ℕ) → length bytes ≤ left → first_of (rows_ahead left before bytes) ≡ none
    → Read before bytes (words_ahead left bytes)
unfolding rows_ahead words_ahead
reads zero before [] h e = record { fine = tt; each = tt; bytes-are = refl }
reads zero before (n ∷ bytes) h e = absurd (omega arith)
reads (suc left) before [] h e = record { fine = tt; each = tt; bytes-are = refl }
reads (suc left) before (n ∷ bytes) h e =
    let w = take n bytes in
    let first = rows-passed (word_row before n bytes) (rows_ahead left w (drop n bytes)) e in
    let p = word-passed before n bytes first in
    let l = length-drop n bytes in
    let r = reads left w (drop n bytes) (omega arith) (sym (rows_pass (word_row before n bytes) (rows_ahead left w (drop n bytes)) first) ∙ e) in
    record {
      fine = (p.fine, r.fine);
      each = (p.above, r.each);
      bytes-are = ap₂ ◌∷◌ (sym (length-take-le n bytes p.inside)) (sym (take-append-drop n bytes) ∙ ap (w ++◌) r.bytes-are);
    }

pub listed-lexicon : (bytes : List ℕ) → first_of (list_row bytes) ≡ none → Lexicon 64 (words_listed bytes) × (bytes ≡ list_bytes (words_listed bytes))
unfolding list_row words_listed
listed-lexicon bytes e =
    let r = reads (length bytes) [] bytes (omega arith) e in
    (record { ascending = each-ascending [] (words_ahead (length bytes) bytes) r.each; fine = r.fine }, r.bytes-are)

-- ---- and back
writes : (left : ℕ) (before : Word) (ws : List Word) → length (list_bytes ws) ≤ left → All (ListWord 64) ws → EachAbove before ws
    → (first_of (rows_ahead left before (list_bytes ws)) ≡ none) × (words_ahead left (list_bytes ws) ≡ ws)
unfolding rows_ahead words_ahead
writes zero before [] h f c = (row_ends, refl)
writes zero before (w ∷ ws) h f c = absurd (omega arith)
writes (suc left) before [] h f c = (row_ends, refl)
writes (suc left) before (w ∷ ws) h f c =
    let rest = list_bytes ws in
    let l = length-append w rest in
    let k = f.0.some in
    let r = writes left w ws (omega arith) f.1 c.1 in
    let first = word-passes before w rest f.0 c.0 in (
      rows_pass (word_row before (length w) (w ++ rest)) _ first ∙ rw (take-append_seam w rest, drop-append_seam w rest) r.0,
      rw (take-append_seam w rest, drop-append_seam w rest) (ap (w ∷◌) r.1),
    )

empty-below : (ws : List Word) → All (ListWord 64) ws → All ([] ≺◌) ws
empty-below [] f = tt
empty-below ([] ∷ ws) f = absurd (let k = f.0.some in omega arith)
empty-below ((t ∷ w) ∷ ws) f = (prefix, empty-below ws f.1)

pub lexicon-listed : (ws : List Word) → Lexicon 64 ws → (first_of (list_row (list_bytes ws)) ≡ none) × (words_listed (list_bytes ws) ≡ ws)
unfolding list_row words_listed
lexicon-listed ws lex =
    writes (length (list_bytes ws)) [] ws (omega arith) lex.fine (ascending-each [] ws (empty-below ws lex.fine) lex.ascending)
