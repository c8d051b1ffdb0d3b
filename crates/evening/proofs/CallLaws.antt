-- One call, where the record says what the history says: the answer is the history's, and record and history agree again.
use Rattle.std.specs.Prelude.{◌≡◌, refl, Bool, true, false, ℕ, ◌*◌, ◌/◌, ◌≤◌, ◌<◌, eqb, get_or}
use Rattle.std.proofs.Math.Path.{sym, ap, ap₂}
use Rattle.std.proofs.Common.{◌∙◌, true≢false, eqb-true}
use Rattle.std.proofs.Math.Bool.{not}
use mathlib.Core.List.{List, [], ◌∷◌, Memᴰ}
use Rattle.std.proofs.Math.Option.{none, some}
use native.Mathlib.Omega.{arith}
use Rattle.std.proofs.lemmas.Bool.{eqb-false}
use Rattle.std.proofs.Math.ListN.{length}
use Rattle.laws.specs.Cases.{split}
use Rattle.laws.specs.Lists.{some_of}
use Rattle.laws.specs.Members.{mem_at, some_of_lem, none_of, filtered-same}
use Rattle.laws.specs.Same.{same}
use Rattle.laws.proofs.SameLaws.{same_refl, same_eq, not_same}
use Rattle.answers.specs.Answers.{gives, nothing, refused, first_of, or_else}
use Rattle.answers.specs.RowLaws.{stops_at, all_pass}
use Rattle.graph.specs.Runs.{Graph}
use Rattle.graph.specs.Words.{Word}
use Rattle.lookup.specs.Steps.{on, stop}
use Rattle.lookup.specs.Walks.{word_index}
use Rattle.in_play.specs.InPlay.{in_play, turned, up_from, not_in_play, remaining, start_count, number_of, in_lexicon, allowed, Played, play}
use Rattle.in_play.proofs.PlayLaws.{few_bits, no_number, number-within, play-unknown, play-known, not-allowed, is-allowed}
use Rattle.in_play.specs.RecordLaws.{turned-here, turned_elsewhere, turned-length}
use Rattle.in_play.proofs.ChangesLaws.{in_row}
use Rattle.in_play.specs.declared.Move.{Move}
use Rattle.in_play.specs.declared.Move.TheVariants as M
use Rattle.evening.specs.History.{Call, is_arrival, arrived, count_after, numbers_after, history_row, answer_after, noted}
use Rattle.evening.specs.Trusted.{Agrees}
use Rattle.evening.proofs.PlaceLaws.{places-left}

-- a lexicon as a call meets it: the start's count is that of the words, each word gives its number back, and all else gets none
pub record Meets (limit : ℕ) (nodes : Graph) (counts : List ℕ) (start : ℕ) (lex : List Word) : Type 0 where
  pub total : start_count nodes counts start ≡ on (length lex)
  pub known : (i : ℕ) → i < length lex → word_index limit nodes counts start (get_or lex i []) ≡ gives (i ∷ [])
  pub unknown : (w : Word) → (Memᴰ w lex → ⊥) → word_index limit nodes counts start w ≡ nothing

noted-remaining : (n : ℕ) (l : List ℕ) (c : Call) (accepted : List Call) → noted (remaining n l) c accepted ≡ c ∷ accepted
noted-remaining n [] c accepted = refl
noted-remaining n (k ∷ l) c accepted = refl

module _ (limit : ℕ) (nodes : Graph) (counts : List ℕ) (start : ℕ) (lex : List Word) (meets : Meets limit nodes counts start lex)
    (first : List ℕ) where
  abbrev plays : Call → List ℕ → Played
  plays c bits = play limit c.move nodes counts start c.word bits

  -- no word stands twice
  once : (i j : ℕ) → i < length lex → j < length lex → get_or lex i [] ≡ get_or lex j [] → i ≡ j
  once i j h k e =
      let x : gives (i ∷ []) ≡ gives (j ∷ []) = sym (meets.known i h) ∙ ap (word_index limit nodes counts start) e ∙ meets.known j k in
      cc

  -- a record too short
  pub short : (c : Call) (bits : List ℕ) → 8 * length bits < length lex → plays c bits ≡ record { answer = refused 11 []; bits = bits }
  short c bits h =
      play-unknown limit c.move nodes counts start c.word bits (few_bits limit nodes counts start c.word (length bits) meets.total h)

  module _ (enough : length lex ≤ 8 * length first) (bits : List ℕ) (accepted : List Call) (agrees : Agrees lex first bits accepted) where
    fits : length lex ≤ 8 * length bits
    fits = let s = agrees.size in omega arith

    -- the call answers what the history says, and record and history agree after it
    pub record Follows (c : Call) : Type 0 where
      pub answer : (plays c bits).answer ≡ answer_after lex accepted c
      pub agree : Agrees lex first (plays c bits).bits (noted (answer_after lex accepted c) c accepted)

    -- a refusal changes neither
    refusing-step : (c : Call) (k : ℕ) → first_of (history_row lex accepted c) ≡ some (refused k [])
        → plays c bits ≡ record { answer = refused k []; bits = bits } → Follows c
    unfolding answer_after
    refusing-step c k e p =
        let a : answer_after lex accepted c ≡ refused k [] = ap (λ o. or_else o (remaining (count_after lex (c ∷ accepted)) (numbers_after lex (c ∷ accepted)))) e in
        record { answer = ap (λ (r : Played). r.answer) p ∙ sym a; agree = rw (a, p) agrees }

    -- ---- an accepted call turns the word's bit over
    module _ (c : Call) (i : ℕ) (h : i < length lex) (is : get_or lex i [] ≡ c.word) (turns : not (in_play bits i) ≡ is_arrival c.move) where
      lies : i / 8 < length bits
      lies = let f = fits in omega arith

      within-then : (n : ℕ) → n < length lex → in_play (turned bits i) n ≡ arrived (c ∷ accepted) (get_or lex n [])
      within-then n k =
          split (eqb n i)
          (λ t.
          let e = eqb-true n i t in
          let own : same c.word (get_or lex n []) ≡ true = ap (same c.word) (ap (λ m. get_or lex m []) e ∙ is) ∙ same_refl c.word in
          rw (own, arrived) (ap (in_play (turned bits i)) e ∙ turned-here bits i lies ∙ turns))
          (λ t.
          let d = eqb-false n i t in
          let other : same c.word (get_or lex n []) ≡ false = not_same c.word (get_or lex n []) (λ e. d (sym (once i n h k (is ∙ e)))) in
          rw (other, arrived) (turned_elsewhere bits i lies n d ∙ agrees.within n k))

      agree_then : Agrees lex first (turned bits i) (c ∷ accepted)
      agree_then =
          record {
            size = turned-length bits i ∙ agrees.size;
            within = within-then;
            past = λ n k. turned_elsewhere bits i lies n (λ e. omega arith) ∙ agrees.past n k;
          }

      numbers-then : not_in_play (turned bits i) (length lex) ≡ numbers_after lex (c ∷ accepted)
      unfolding not_in_play numbers_after
      numbers-then =
          filtered-same (λ n. not (in_play (turned bits i) n)) (λ n. not (arrived (c ∷ accepted) (get_or lex n []))) (up_from 0 (length lex))
          (λ n m. ap not (within-then n (let r = (in_row 0 (length lex) n m).1 in omega arith)))

      count-then : length (not_in_play (turned bits i) (length lex)) ≡ count_after lex (c ∷ accepted)
      unfolding numbers_after count_after
      count-then = let p = places-left (arrived (c ∷ accepted)) [] lex in ap length numbers-then ∙ omega arith

      accepting-step : first_of (history_row lex accepted c) ≡ none → {b : Bool} → allowed c.move (in_play bits i) ≡ on b
          → in_lexicon limit nodes counts start c.word (length bits) ≡ on (i, length lex) → Follows c
      unfolding answer_after
      accepting-step e a k =
          let told = remaining (count_after lex (c ∷ accepted)) (numbers_after lex (c ∷ accepted)) in
          let x : answer_after lex accepted c ≡ told = ap (λ o. or_else o told) e in
          let p = play-known limit c.move nodes counts start c.word bits k ∙ is-allowed c.move bits i (length lex) a in
          let then = ap (λ r. noted r c accepted) x ∙ noted-remaining (count_after lex (c ∷ accepted)) (numbers_after lex (c ∷ accepted)) c accepted in
          record { answer = ap (λ (r : Played). r.answer) p ∙ ap₂ remaining count-then numbers-then ∙ sym x; agree = rw (p, then) agree_then }

    -- ---- a call of a word of the lexicon
    module _ (word : Word) (i : ℕ) (h : i < length lex) (is : get_or lex i [] ≡ word) (has : some_of (same word) lex ≡ true) where
      known : in_lexicon limit nodes counts start word (length bits) ≡ on (i, length lex)
      known =
          number-within limit nodes counts start word (length bits) meets.total fits
          (ap number_of (ap (word_index limit nodes counts start) (sym is) ∙ meets.known i h)) h

      there : (b : Bool) → arrived accepted word ≡ b → in_play bits i ≡ b
      there b e = agrees.within i h ∙ ap (arrived accepted) is ∙ e

      -- its bit refuses the move
      refused_by : (move : Move) (k : ℕ) → first_of (history_row lex accepted (record { move = move; word = word })) ≡ some (refused k [])
          → allowed move (in_play bits i) ≡ stop (refused k []) → Follows (record { move = move; word = word })
      refused_by move k e a =
          refusing-step (record { move = move; word = word }) k e
          (play-known limit move nodes counts start word bits known ∙ not-allowed move bits i (length lex) a)

      moving : (move : Move) (b : Bool) → arrived accepted word ≡ b → Follows (record { move = move; word = word })
      moving M.Arrives true e =
          refused_by M.Arrives 30 (stops_at 1 (history_row lex accepted (record { move = M.Arrives; word = word })) (ap not has, e))
          (ap (allowed M.Arrives) (there true e))
      moving M.Arrives false e =
          accepting-step (record { move = M.Arrives; word = word }) i h is (ap not (there false e))
          (all_pass (history_row lex accepted (record { move = M.Arrives; word = word })) (ap not has, (e, (refl, tt))))
          (ap (allowed M.Arrives) (there false e)) known
      moving M.Leaves true e =
          accepting-step (record { move = M.Leaves; word = word }) i h is (ap not (there true e))
          (all_pass (history_row lex accepted (record { move = M.Leaves; word = word })) (ap not has, (refl, (ap not e, tt))))
          (ap (allowed M.Leaves) (there true e)) known
      moving M.Leaves false e =
          refused_by M.Leaves 31 (stops_at 2 (history_row lex accepted (record { move = M.Leaves; word = word })) (ap not has, (refl, ap not e)))
          (ap (allowed M.Leaves) (there false e))

    -- ---- a call of any other word
    unknown-step : (c : Call) → some_of (same c.word) lex ≡ false → Follows c
    unknown-step c e =
        refusing-step c 29 (stops_at 0 (history_row lex accepted c) (ap not e))
        (play-unknown limit c.move nodes counts start c.word bits
        (no_number limit nodes counts start c.word (length bits) meets.total fits
        (ap number_of (meets.unknown c.word (λ m. true≢false (sym (same_refl c.word) ∙ none_of (same c.word) lex e c.word m))))))

    pub step : (c : Call) → Follows c
    step c =
        split (some_of (same c.word) lex)
        (λ t.
        let m = some_of_lem (same c.word) lex t in
        let r = mem_at lex m.0 [] m.1 in
        moving c.word r.0 r.1 (r.2 ∙ sym (same_eq c.word m.0 m.2)) t c.move (arrived accepted c.word) refl)
        (λ t. unknown-step c t)
