-- The walks row by row. The idea: what the walks that are left find, after what is held, is what all walks find.
use mathlib.Core.Path.{◌≡◌, refl, sym, ap, ap₂, ◌∙◌}
use mathlib.Core.List.{List, [], ◌∷◌, ◌++◌, append-nil, append_assoc}
use mathlib.Core.Option.{Option, none, some}
use Prim.Native.Nat.{ℕ, zero, suc, zero-le, ◌+◌, ◌-◌, ◌*◌, ◌≤◌, ◌<◌, min}
use native.Mathlib.Nat.{suc-mul, mul-le-mul_right}
use native.Mathlib.Numerals.{add-one}
use native.Mathlib.Omega.{arith}
use borrow.Author.Tests.{lt-ltb, le-ltb}
use lib.ListN.{length, set, take, drop, length-drop, length-append, length-set}
use lib.Seq.{take_at, take-append-add, take-append-le, drop-append-le, take-suc-set, take-take, length-take-le}
use Rattle.laws.specs.Lists.{none_left}
use Rattle.lookup.specs.Steps.{Try, on, stop, ◌>>=◌}
use Rattle.lookup.specs.Walks.{word_by_index}
use Rattle.page.specs.Rows.{Widths, ShownWord, page_widths, word_rows, tile_room}
use Rattle.page.specs.Shown.{shown_by, shown_at, shown_from}
use Rattle.std.specs.Prelude.{Result, Ok, Err, Option as Maybe, None, Some}
use Rattle.answers.specs.Answers.{as_answer}
use Rattle.lookup.specs.Refusals.{lookup_refusal}
use Rattle.lookup.specs.declared.refusals.LookupRefusal.{LookupRefusal}
use Rattle.page.specs.Held.{held_word, held, held_tiles, IsHeld}
use Rattle.page.specs.Said.{found_try}

-- ---- one word more is held
module _ (columns : ℕ) where
  pub held_more : (n : ℕ) (tiles sizes more : List ℕ) (size : ℕ) → held_tiles columns sizes ≡ length tiles
      → held columns n (tiles ++ more) (sizes ++ size ∷ [])
      ≡ held columns n tiles sizes ++ held_word columns (n + length sizes) more size ∷ []
  unfolding held held_tiles
  held_more n tiles [] more size h =
      let e : n ≡ n + 0 = omega arith in
      rw (none_left tiles (sym h), ← e)
  held_more n tiles (s ∷ sizes) more size h =
      let m = min s columns in
      let fits : m ≤ length tiles = omega (arith, h) in
      let number : suc n + length sizes ≡ n + suc (length sizes) = omega arith in
      rw (take-append-le m tiles more fits, drop-append-le m tiles more fits)
      (ap (held_word columns n tiles s ∷◌)
      (held_more (suc n) (drop m tiles) sizes more size (omega (arith, h, length-drop m tiles))
      ∙ ap (λ k. held columns (suc n) (drop m tiles) sizes ++ held_word columns k more size ∷ []) number))

  pub tiles_more : (sizes : List ℕ) (size : ℕ) → held_tiles columns (sizes ++ size ∷ []) ≡ held_tiles columns sizes + min size columns
  unfolding held_tiles
  tiles_more [] size = omega arith
  tiles_more (s ∷ sizes) size = omega (arith, tiles_more sizes size)

  -- no word has more tiles than there are columns
  pub tiles-most : (sizes : List ℕ) → held_tiles columns sizes ≤ length sizes * columns
  unfolding held_tiles
  tiles-most [] = zero-le
  tiles-most (s ∷ sizes) = omega (arith, tiles-most sizes, suc-mul (length sizes) columns)

then_same : {A : Type 0} (t : Try A) → (t >>= λ a. on a) ≡ t
then_same (on a) = refl
then_same (stop r) = refl

-- a word found and then those left, or the word held and then those left
held_on : (left : Try (List ShownWord)) (before : List ShownWord) (e : ShownWord)
    → (left >>= λ es. on ((before ++ e ∷ []) ++ es)) ≡ ((left >>= λ es. on (e ∷ es)) >>= λ es. on (before ++ es))
held_on (on es) before e = ap on (append_assoc before (e ∷ []) es)
held_on (stop r) before e = refl

-- ---- the walks of a page
pub record Walks : Type 0 where
  pub widths : Widths
  pub nodes : List ℕ
  pub counts : List ℕ
  pub p : ℕ
  pub first : ℕ

module _ (k : Walks) where
  -- what a number's walk is as a row
  abbrev pub row_shown : ℕ → Try (Option ShownWord)
  row_shown n = shown_by n (word_by_index k.counts k.nodes k.widths.word k.p n)

  -- what the walks of so many rows find, of all rows, and of those from a row on
  abbrev walks_from : ℕ → ℕ → Try (List ShownWord)
  walks_from rows n = shown_from k.widths k.nodes k.counts k.p rows n

  abbrev pub walks_all : Try (List ShownWord)
  walks_all = walks_from word_rows k.first

  abbrev walks_left : ℕ → Try (List ShownWord)
  walks_left row = walks_from (word_rows - row) (k.first + row)

  -- the words that stand in so many tiles and so many sizes
  abbrev pub words_held : List ℕ → List ℕ → ℕ → ℕ → List ShownWord
  words_held tiles sizes row count = held k.widths.word k.first (take count tiles) (take row sizes)

  pub record SoFar (tiles sizes : List ℕ) (row count : ℕ) : Type 0 where
    pub sizes-are : (length tiles ≡ tile_room k.widths) × (length sizes ≡ word_rows)
    pub rows : row ≤ word_rows
    pub tally : held_tiles k.widths.word (take row sizes) ≡ count
    pub whole : (walks_left row >>= λ es. on (words_held tiles sizes row count ++ es)) ≡ walks_all

  pub none_yet : {tiles sizes : List ℕ} → (length tiles ≡ tile_room k.widths) × (length sizes ≡ word_rows) → SoFar tiles sizes 0 0
  unfolding held held_tiles
  none_yet are =
      let e : k.first + 0 ≡ k.first = omega arith in
      record { sizes-are = are; rows = zero-le; tally = refl; whole = rw e (then_same walks_all) }

  -- ---- the next number's walk decides
  -- a row more: the word found and those after it, or nothing
  abbrev onward : ℕ → ℕ → Try (Option ShownWord) → Try (List ShownWord)
  onward rows n t = t >>= λ shown. elim shown [ none ↦ on [] | some e ↦ walks_from rows n >>= λ es. on (e ∷ es) ]

  shown-step : (rows n after : ℕ) → suc n ≡ after → n ≤ k.widths.greatest → (t : Try (Option ShownWord)) → t ≡ row_shown n
      → walks_from (suc rows) n ≡ onward rows after t
  unfolding shown_from
  shown-step rows n after a h t e =
      let here : shown_at k.widths k.nodes k.counts k.p n ≡ t = rw (le-ltb k.widths.greatest n h, shown_at) (sym e) in
      ap₂ (λ (x : Try (Option ShownWord)) (m : ℕ). onward rows m x) here a

  nothing_wide : (rows n : ℕ) → k.widths.greatest < n → walks_from rows n ≡ on []
  unfolding shown_from
  nothing_wide zero n h = refl
  nothing_wide (suc rows) n h = rw (lt-ltb k.widths.greatest n h, shown_at)

  no_rows : (rows n : ℕ) → rows ≡ 0 → walks_from rows n ≡ on []
  unfolding shown_from
  no_rows zero n e = refl
  no_rows (suc rows) n e = absurd (omega arith)

module _ {k : Walks} {tiles sizes : List ℕ} {row count : ℕ} (so : SoFar k tiles sizes row count) where
  rows_fit : row ≤ length sizes
  rows_fit = omega (arith, so.rows, so.sizes-are.1)

  rows-held : length (take row sizes) ≡ row
  rows-held = length-take-le row sizes rows_fit

  few : count ≤ row * k.widths.word
  few = let most = tiles-most k.widths.word (take row sizes) in rw (rows-held, so.tally) at most

  pub room : count ≤ length tiles
  room = omega (arith, few, mul-le-mul_right k.widths.word so.rows, so.sizes-are.0)

  -- there is room for a word more
  pub next_fits : row < word_rows → count + k.widths.word ≤ tile_room k.widths
  next_fits h =
      let more : suc row ≤ word_rows = omega arith in
      omega (arith, few, suc-mul row k.widths.word, mul-le-mul_right k.widths.word more)

  -- the words that are held
  abbrev words : List ShownWord
  words = words_held k tiles sizes row count

  -- what the walks left find gives what all find
  whole_by : {left : Try (List ShownWord)} → walks_left k row ≡ left → (left >>= λ es. on (words ++ es)) ≡ walks_all k
  whole_by e = sym (ap (λ (x : Try (List ShownWord)). x >>= λ es. on (words ++ es)) e) ∙ so.whole

  ends : walks_left k row ≡ on [] → on words ≡ walks_all k
  ends e = ap on (sym (append-nil words)) ∙ whole_by e

  -- no row is left, or no number
  pub rows_end : word_rows ≤ row → on words ≡ walks_all k
  rows_end h = ends (no_rows k (word_rows - row) (k.first + row) (omega arith))

  pub numbers-end : k.widths.greatest < k.first + row → on words ≡ walks_all k
  numbers-end h = ends (nothing_wide k (word_rows - row) (k.first + row) h)

-- ---- the next row's number is walked, into the columns after the tiles that are held
pub record Found (k : Walks) (tiles sizes : List ℕ) (row count : ℕ) (after : List ℕ) (r : Result (Maybe ℕ) LookupRefusal) : Type 0 where
  pub so : SoFar k tiles sizes row count
  pub here : row < word_rows
  pub narrow : k.first + row ≤ k.widths.greatest
  pub long : length after ≡ k.widths.word
  pub found : found_try (k.first + row) r after ≡ row_shown k (k.first + row)

module _ {k : Walks} {tiles sizes : List ℕ} {row count : ℕ} {after : List ℕ} where
  module _ {r : Result (Maybe ℕ) LookupRefusal} (f : Found k tiles sizes row count after r) where
    -- the tiles after them, and all tiles then
    abbrev rest : List ℕ
    rest = drop (count + k.widths.word - count) (drop count tiles)

    abbrev pub tiles' : List ℕ
    tiles' = take count tiles ++ (after ++ rest)

    tiles-held : length (take count tiles) ≡ count
    tiles-held = length-take-le count tiles (room f.so)

    tiles-long : length tiles' ≡ tile_room k.widths
    tiles-long =
        omega (
          arith,
          length-append (take count tiles) (after ++ rest),
          length-append after rest,
          tiles-held,
          f.long,
          length-drop (count + k.widths.word - count) (drop count tiles),
          length-drop count tiles,
          next_fits f.so f.here,
          f.so.sizes-are.0,
        )

    -- those before stay
    front : take count tiles' ≡ take count tiles
    front = take_at (take count tiles) (after ++ rest) count tiles-held

    -- the walk decides
    next : walks_left k row ≡ onward k (word_rows - (row + 1)) (k.first + (row + 1)) (found_try (k.first + row) r after)
    next =
        let h = f.here in
        let rows : word_rows - row ≡ suc (word_rows - (row + 1)) = omega arith in
        let number : suc (k.first + row) ≡ k.first + (row + 1) = omega arith in
        ap (λ m. walks_from k m (k.first + row)) rows
        ∙ shown-step k (word_rows - (row + 1)) (k.first + row) (k.first + (row + 1)) number f.narrow _ f.found

  -- one word more
  module _ {size : ℕ} (f : Found k tiles sizes row count after (Ok (Some size))) where
    abbrev shown : ℕ
    shown = min size k.widths.word

    abbrev word : ShownWord
    word = held_word (length after) (k.first + row) after size

    sizes-then : take (row + 1) (set sizes row size) ≡ take row sizes ++ size ∷ []
    sizes-then = rw add-one (take-suc-set sizes row size (omega (arith, f.here, f.so.sizes-are.1)))

    tiles-then : take (count + shown) (tiles' f) ≡ take count tiles ++ take shown after
    tiles-then =
        ap (λ m. take (m + shown) (tiles' f)) (sym (tiles-held f))
        ∙ take-append-add (take count tiles) (after ++ rest f) shown
        ∙ ap (take count tiles ++◌) (take-append-le shown after (rest f) (omega (arith, f.long)))

    word-is : held_word k.widths.word (k.first + length (take row sizes)) (take shown after) size ≡ word
    word-is = rw (rows-held f.so, f.long, take-take shown shown after (omega arith))

    abbrev words' : List ShownWord
    words' = words_held k (tiles' f) (set sizes row size) (row + 1) (count + shown)

    words-then : words' ≡ words f.so ++ word ∷ []
    words-then =
        let all = f.so.tally ∙ sym (tiles-held f) in
        ap₂ (held k.widths.word k.first) tiles-then sizes-then
        ∙ held_more k.widths.word k.first (take count tiles) (take row sizes) (take shown after) size all
        ∙ ap (λ e. words f.so ++ e ∷ []) word-is

    tally-then : held_tiles k.widths.word (take (row + 1) (set sizes row size)) ≡ count + shown
    tally-then =
        ap (held_tiles k.widths.word) sizes-then ∙ tiles_more k.widths.word (take row sizes) size ∙ ap (◌+ shown) f.so.tally

    whole-then : (walks_left k (row + 1) >>= λ es. on (words' ++ es)) ≡ walks_all k
    whole-then =
        let left = walks_left k (row + 1) in
        ap (λ (ws : List ShownWord). left >>= λ es. on (ws ++ es)) words-then
        ∙ held_on left (words f.so) word
        ∙ whole_by f.so (next f)

    pub one_more : {n : ℕ} → n ≡ shown → SoFar k (tiles' f) (set sizes row size) (row + 1) (count + n)
    one_more e =
        rw e (record {
          sizes-are = (tiles-long f, length-set sizes row size ∙ f.so.sizes-are.1);
          rows = omega (arith, f.here);
          tally = tally-then;
          whole = whole-then;
        })

-- ---- what the call leaves
abbrev pub page_walks : List ℕ → List ℕ → ℕ → ℕ → Walks
page_walks nodes counts p first = record { widths = page_widths; nodes = nodes; counts = counts; p = p; first = first }

module _ {nodes counts : List ℕ} {p first : ℕ} {tiles sizes : List ℕ} {row count : ℕ} where
  -- what is held stands as it must
  pub fit : SoFar (page_walks nodes counts p first) tiles sizes row count → first + row ≤ page_widths.greatest + 1
      → IsHeld first (take count tiles) (take row sizes)
  fit so h =
      record {
        rows = omega (arith, so.rows, rows-held so);
        tally = so.tally ∙ sym (length-take-le count tiles (room so));
        narrow = omega (arith, h, rows-held so);
      }

  module _ {after : List ℕ} where
    -- the last walk found no word
    module _ (f : Found (page_walks nodes counts p first) tiles sizes row count after (Ok None)) where
      pub front-long : length (take count (tiles' f)) ≡ count
      front-long = ap length (front f) ∙ tiles-held f

      pub blank-fit : IsHeld first (take count (tiles' f)) (take row sizes)
      blank-fit = rw (front f) (fit f.so (omega (arith, f.narrow)))

      pub blank-found : on (held page_widths.word first (take count (tiles' f)) (take row sizes)) ≡ walks_all (page_walks nodes counts p first)
      blank-found = ap (λ l. on (held page_widths.word first l (take row sizes))) (front f) ∙ ends f.so (next f)

    -- or is refused
    pub refused-found : {why : LookupRefusal} → Found (page_walks nodes counts p first) tiles sizes row count after (Err why)
        → stop (as_answer (lookup_refusal why)) ≡ walks_all (page_walks nodes counts p first)
    refused-found f = whole_by f.so (next f)
