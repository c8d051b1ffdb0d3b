-- The pass over the words, from the last to the first, one turn at a time. The idea: at each word the shelf is that of the words from there on
-- with that word open, so the turn that closes what it does not share with the word before is one step of `opened`, and the last one `shelved`.
use mathlib.Core.Path.{◌≡◌, refl, sym, ap, ap₂, ◌∙◌, subst}
use mathlib.Core.Logic.{◌⊎◌, inl, inr, ⊎_elim}
use mathlib.Core.List.{List, [], ◌∷◌, ◌++◌}
use Rattle.std.specs.Prelude.{Option, Some, None}
use Prim.Native.Nat.{ℕ, zero, suc, zero-le, ◌+◌, ◌-◌, ◌*◌, ◌≤◌, ◌<◌, min}
use native.Mathlib.Omega.{arith}
use lib.ListN.{length, get_or, take, drop, length-append, replicate}
use Rattle.laws.specs.Cases.{below?}
use Rattle.laws.specs.Tables.{table}
use Rattle.graph.specs.Words.{Word}
use Rattle.graph.specs.Order.{◌≺◌, shared}
use Rattle.dictionary.specs.NumberingLaws.{tree-none}
use Rattle.built.specs.BranchLaws.{all-some}
use Rattle.built.specs.Lexicon.{Lexicon}
use Rattle.built.specs.Listed.{list_bytes}
use Rattle.shelf.specs.Shelving.{Put, close, advance, opened, shelved}
use Rattle.shelf.specs.PassLaws.{tile_total, Opened, all-opened}
use Rattle.shelf.specs.GrowthLaws.{advance-shelf}
use Rattle.word_list.specs.Words.{rejoined, place_after, last_of, Back, MarkedAs}
use Rattle.word_list.specs.WordsLaws.{bytes-length, word-here, word-before, place-before, shared_le}
use Rattle.tails.specs.Tails.{tail_limit, keys_of, HoldsTails, Behind, Closing, Closable, WordClosed, WordCloses}
use Rattle.tails.proofs.AdvanceLaws.{fresh-zero, advance-behind, opened-length, rejoined-longer}

-- ---- the words from one on are a lexicon, with fewer tiles than bytes
words-from : (us ws : List Word) → Lexicon 64 (rejoined us ws) → Lexicon 64 ws
unfolding rejoined
words-from [] ws lex = lex
words-from (v ∷ us) ws lex = let r = words-from us (v ∷ ws) lex in record { ascending = r.ascending.1; fine = r.fine.1 }

tiles-most : (ws : List Word) → tile_total ws ≤ length (list_bytes ws)
tiles-most [] = zero-le
tiles-most (w ∷ ws) = let h = tiles-most ws in let l = length-append w (list_bytes ws) in omega arith

-- ---- the last word open: nothing is on the shelf
one-opened : (w : Word) → ((opened (w ∷ [])).shelf ≡ []) × ((d : ℕ) → get_or (opened (w ∷ [])).numbers d 0 ≡ 0)
unfolding opened advance close
one-opened [] = (refl, fresh-zero [])
one-opened (t ∷ u) = (refl, fresh-zero (t ∷ u))

zeros : (m d : ℕ) → ◌≡◌ {A = ℕ} (get_or (replicate m 0) d 0) 0
zeros zero d = refl
zeros (suc m) zero = refl
zeros (suc m) (suc d) = zeros m d

-- ---- a word closed down to what it shares with the last of the words before it
module _ (w : Word) (rest : List Word) where
  abbrev closed_after : List Word → Put
  closed_after us =
      let c = shared (last_of us) w in
      let m = opened (w ∷ rest) in
      close m.shelf (drop c w) (drop c m.numbers)

  -- where there is none, all words are closed
  closed-first : closed_after [] ≡ shelved (w ∷ rest)
  unfolding shared shelved
  closed-first = refl

  -- else the word before is open
  before-shelf : (v : Word) (us : List Word) → (opened (v ∷ w ∷ rest)).shelf ≡ (closed_after (v ∷ us)).shelf
  unfolding opened
  before-shelf v us = advance-shelf (opened (w ∷ rest)).shelf w (opened (w ∷ rest)).numbers v

  before-numbers : (v : Word) (us : List Word) → v ≺ w
      → Behind (opened (v ∷ w ∷ rest)).numbers (take (shared v w) (opened (w ∷ rest)).numbers ++ (closed_after (v ∷ us)).number ∷ [])
  unfolding opened
  before-numbers v us h =
      let l = opened-length (w ∷ rest) in
      advance-behind (opened (w ∷ rest)).shelf w (opened (w ∷ rest)).numbers v (omega arith) h

  closed-longer : (us : List Word) → length (closed_after us).shelf ≤ length (shelved (rejoined us (w ∷ rest))).shelf
  unfolding rejoined
  closed-longer [] = let e = ap (λ (p : Put). length p.shelf) closed-first in omega arith
  closed-longer (v ∷ us) =
      let e = ap length (before-shelf v us) in
      let g = rejoined-longer us (v ∷ w ∷ rest) in
      omega arith

-- ---- the place before a word
last_within : (us : List Word) → length (last_of us) ≤ place_after us
unfolding place_after
last_within [] = zero-le
last_within (v ∷ us) = omega arith

last-is : (us : List Word) (ws : List Word) (l : List ℕ) → l ≡ list_bytes (rejoined us ws)
    → take (length (last_of us)) (drop (place_after us - length (last_of us)) l) ≡ last_of us
last-is [] ws l e = refl
last-is (v ∷ us) ws l e = word-before v us ws l e

back_is : (marks : List ℕ) (us : List Word) → Back marks us → get_or marks (place_after us) 0 ≡ length (last_of us)
unfolding place_after
back_is marks [] b = b
back_is marks (v ∷ us) b = b.0

-- ---- the pass has come to a word
pub record AtWord (n : ℕ) (ws : List Word) (marks dict : List ℕ) (at : ℕ) (behind : List ℕ) (tails : ℕ) : Type 0 where
  pub before : List Word
  pub word : Word
  pub rest : List Word
  pub all : rejoined before (word ∷ rest) ≡ ws
  pub place : at ≡ place_after before
  pub back : Back marks before
  pub holds : HoldsTails n dict tails (opened (word ∷ rest)).shelf
  pub numbers : Behind behind (opened (word ∷ rest)).numbers

-- at the beginning to the last
pub at_last : {n : ℕ} {ws : List Word} {marks dict : List ℕ} {r : ℕ} → 0 < n → n ≤ tail_limit → 5 * n ≤ length dict → ((p : ℕ) → p < n → get_or dict p 0 ≡ 0)
    → MarkedAs ws marks r → AtWord n ws marks dict r (replicate 65 0) 0
unfolding table keys_of
at_last {n} {ws} {marks} {dict} {r} some small room roots m =
    let e = one-opened m.last in
    let none : HoldsTails n dict 0 [] = record {
      small = small;
      few = some;
      size = refl;
      tree = tree-none n dict roots room;
      shelves = record { are = refl; valid = tt; narrow = tt };
    } in
    record {
      before = m.before;
      word = m.last;
      rest = [];
      all = m.all;
      place = m.place;
      back = m.back;
      holds = rw e.0 none;
      numbers = λ d. zeros 65 d ∙ sym (e.1 d);
    }

more-from : (us : List Word) (at step : ℕ) → at ≡ place_after us → step ≡ length (last_of us) → (at - step ≡ at → ⊥) → 0 < at - step
more-from [] at step place is more = absurd (more (omega arith))
more-from (v ∷ us) at step place is more = let p = (place-before v us).0 in omega arith

-- ---- what a closed word leaves
abbrev Left : ℕ → List ℕ → List ℕ → ℕ → List Word → Word → List Word → Type 0
Left n behind dict tails us w rest =
    WordClosed w (shared (last_of us) w) (opened (w ∷ rest)).shelf (opened (w ∷ rest)).numbers n behind dict tails

module _ (n : ℕ) {ws : List Word} {at : ℕ} (behind dict : List ℕ) {tails step : ℕ} (lex : Lexicon 64 ws) where
  -- the word before it open
  next-from : {marks : List ℕ} (us : List Word) (w : Word) (rest : List Word) → rejoined us (w ∷ rest) ≡ ws → at ≡ place_after us → Back marks us
      → step ≡ length (last_of us) → Left n behind dict tails us w rest → (at - step ≡ at → ⊥) → AtWord n ws marks dict (at - step - 1) behind tails
  unfolding rejoined
  next-from [] w rest all place back is left more = absurd (more (omega arith))
  next-from (v ∷ us) w rest all place back is left more =
      let above = (words-from us (v ∷ w ∷ rest) (subst (Lexicon 64) (sym all) lex)).ascending.0.0 in
      let p = (place-before v us).1 in
      record {
        before = us;
        word = v;
        rest = w ∷ rest;
        all = all;
        place = omega arith;
        back = back.1;
        holds = rw (before-shelf w rest v us) left.holds;
        numbers = λ d. left.numbers d ∙ sym (before-numbers w rest v us above d);
      }

  -- and, where there is none, all words
  last-from : (us : List Word) (w : Word) (rest : List Word) → rejoined us (w ∷ rest) ≡ ws → at ≡ place_after us
      → step ≡ length (last_of us) → Left n behind dict tails us w rest → at - step ≡ at
      → HoldsTails n dict tails (shelved ws).shelf × (get_or behind 0 0 ≡ (shelved ws).number)
  unfolding rejoined shared
  last-from [] w rest all place is left done =
      let e = closed-first w rest ∙ ap shelved all in
      (subst (λ (p : Put). HoldsTails n dict tails p.shelf) e left.holds, left.numbers 0 ∙ ap (λ (p : Put). p.number) e)
  last-from (v ∷ us) w rest all place is left done =
      let some = (words-from us (v ∷ w ∷ rest) (subst (Lexicon 64) (sym all) lex)).fine.0.some in
      let within = last_within (v ∷ us) in
      absurd (omega arith)

-- ---- one turn
-- what closing the word at hand leaves
abbrev pub Turned : ℕ → List Word → List ℕ → ℕ → List ℕ → List ℕ → Option ℕ → Type 0
Turned n ws marks at behind dict None = tail_limit ≤ suc (length (shelved ws).shelf)
Turned n ws marks at behind dict (Some tails) =
    (length behind ≡ 65)
    × ((at - get_or marks at 0 ≡ at → ⊥) → AtWord n ws marks dict (at - get_or marks at 0 - 1) behind tails)
    × (at - get_or marks at 0 ≡ at → HoldsTails n dict tails (shelved ws).shelf × (get_or behind 0 0 ≡ (shelved ws).number))

module _ {list : List ℕ} {n : ℕ} {ws : List Word} (lex : Lexicon 64 ws) (bytes : list ≡ list_bytes ws)
    {marks dict : List ℕ} {at : ℕ} {behind : List ℕ} {tails : ℕ} (q : AtWord n ws marks dict at behind tails) where
  abbrev us : List Word
  us = q.before

  abbrev w : Word
  w = q.word

  abbrev rest : List Word
  rest = q.rest

  -- how far back the word before begins, and its bytes and those of the word at hand
  abbrev step_back : ℕ
  step_back = get_or marks at 0

  abbrev before_bytes : List ℕ
  before_bytes = take (at - (at - step_back)) (drop (at - step_back) list)

  abbrev word_bytes : List ℕ
  word_bytes = take (at + 1 + get_or list at 0 - (at + 1)) (drop (at + 1) list)

  same_bytes : list ≡ list_bytes (rejoined us (w ∷ rest))
  same_bytes = bytes ∙ ap list_bytes (sym q.all)

  all_words : Lexicon 64 (rejoined us (w ∷ rest))
  all_words = subst (Lexicon 64) (sym q.all) lex

  from-here : Lexicon 64 (w ∷ rest)
  from-here = words-from us (w ∷ rest) all_words

  -- where they stand
  length-is : get_or list at 0 ≡ length w
  length-is = ap (λ p. get_or list p 0) q.place ∙ (word-here us w rest list same_bytes).0

  pub word-within : at + 1 + get_or list at 0 ≤ length list
  word-within = let a = length-is in let b = (word-here us w rest list same_bytes).2 in let c = q.place in omega arith

  word-is : word_bytes ≡ w
  word-is =
      let l = length-is in
      let p = q.place in
      let a : at + 1 + get_or list at 0 - (at + 1) ≡ length w = omega arith in
      let b : at + 1 ≡ suc (place_after us) = omega arith in
      ap (λ k. take k (drop (at + 1) list)) a ∙ ap (λ k. take (length w) (drop k list)) b ∙ (word-here us w rest list same_bytes).1

  step_is : step_back ≡ length (last_of us)
  step_is = ap (λ p. get_or marks p 0) q.place ∙ back_is marks us q.back

  pub step-within : step_back ≤ at
  step-within = let a = step_is in let b = last_within us in let c = q.place in omega arith

  pub step-more : (at - step_back ≡ at → ⊥) → 0 < at - step_back
  step-more = more-from us at step_back q.place step_is

  before-is : before_bytes ≡ last_of us
  before-is =
      let a = step_is in
      let b = step-within in
      let p = q.place in
      let c : at - (at - step_back) ≡ length (last_of us) = omega arith in
      let d : at - step_back ≡ place_after us - length (last_of us) = omega arith in
      ap (λ k. take k (drop (at - step_back) list)) c ∙ ap (λ k. take (length (last_of us)) (drop k list)) d ∙ last-is us (w ∷ rest) list same_bytes

  -- the word can be closed
  is-opened : Opened (w ∷ rest) (opened (w ∷ rest))
  is-opened = all-opened (w ∷ rest) (all-some 64 (w ∷ rest) from-here) from-here.ascending

  module _ (size : n ≡ min (length list) tail_limit) (long : length behind ≡ 65) where
    room-left : (tails + length w < n) ⊎ (n ≡ tail_limit)
    room-left =
        let a = q.holds.size in
        let b = is-opened.few in
        let c = tiles-most rest in
        let d = ap length same_bytes ∙ bytes-length us (w ∷ rest) in
        let e = length-append w (list_bytes rest) in
        ⊎_elim
        (λ (h : length list < tail_limit). let r : tails + length w < n = omega arith in inl r)
        (λ (h : tail_limit ≤ length list). let r : n ≡ tail_limit = omega arith in inr r)
        (below? (length list) tail_limit)

    closing : Closing w behind n dict tails (opened (w ∷ rest)).shelf (opened (w ∷ rest)).numbers
    closing =
        record {
          holds = q.holds;
          begun = is-opened.begun;
          each = opened-length (w ∷ rest);
          long = long;
          numbers = q.numbers;
          fine = from-here.fine.0;
          room = room-left;
        }

    module _ {kept : ℕ} (agree : kept ≡ shared before_bytes word_bytes) where
      kept-is : kept ≡ shared (last_of us) w
      kept-is = agree ∙ ap₂ shared before-is word-is

      pub can_close : Closable word_bytes kept behind n dict tails
      can_close =
          rw word-is (record {
            sh = (opened (w ∷ rest)).shelf;
            xs = (opened (w ∷ rest)).numbers;
            closing = closing;
            within = let a = kept-is in let b = (shared_le (last_of us) w).1 in omega arith;
          })

      module _ (behind' dict' : List ℕ) where
        pub turned : (r : Option ℕ) → WordCloses word_bytes kept behind n dict tails behind' dict' r → Turned n ws marks at behind' dict' r
        unfolding WordCloses
        turned None closes =
            let h = (rw (word-is, kept-is) at closes) (opened (w ∷ rest)).shelf (opened (w ∷ rest)).numbers closing in
            let g = closed-longer w rest us in
            let a = ap (λ l. length (shelved l).shelf) q.all in
            omega arith
        turned (Some more) closes =
            let h = (rw (word-is, kept-is) at closes) (opened (w ∷ rest)).shelf (opened (w ∷ rest)).numbers closing in (
              h.long,
              next-from n behind' dict' lex us w rest q.all q.place q.back step_is h,
              last-from n behind' dict' lex us w rest q.all q.place step_is h,
            )

-- ---- the loop
pub record Passes (list : List ℕ) (n : ℕ) (marks dict : List ℕ) (at : ℕ) (behind : List ℕ) (tails : ℕ) : Type 0 where
  pub long : length behind ≡ 65
  pub reached : (ws : List Word) → Lexicon 64 ws → list ≡ list_bytes ws → AtWord n ws marks dict at behind tails
