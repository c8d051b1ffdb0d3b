-- A whole list of calls: each step hands the next one a record and a history that agree; and a graph's own counts make a lexicon that calls meet.
use Rattle.std.specs.Prelude.{◌≡◌, true, ◌≢◌, ℕ, ◌*◌, ◌≤◌, ◌<◌, eqb, ltb, length}
use Rattle.std.proofs.Math.Path.{refl, ap₂}
use Rattle.std.proofs.Common.{ap, ◌∙◌, arith, eqb-true, ltb-true, ltb-false}
use mathlib.Core.List.{List, [], ◌∷◌, map}
use Rattle.std.proofs.lemmas.Bool.{eqb-false}
use Rattle.laws.specs.Cases.{split}
use Rattle.answers.specs.Answers.{nothing, refused}
use Rattle.node.specs.Nodes.{kbwg}
use Rattle.graph.specs.Runs.{Graph, ascends}
use Rattle.graph.specs.Words.{Word, words}
use Rattle.graph.specs.Counting.{Counts}
use Rattle.lookup.specs.Walks.{passed_first, index_of_word, word_index}
use Rattle.lookup.specs.GraphLent.{GraphLent, at_head, count-lent-at}
use Rattle.numbers.specs.WordNumbers.{WordNumbers}
use Rattle.numbers.proofs.WordNumbersLaws.{numbered}
use Rattle.in_play.specs.InPlay.{play}
use Rattle.in_play.proofs.PlayLaws.{start_none, start-count}
use Rattle.evening.specs.History.{Call, Evening, play_all, lexicon, answer_after, answers_after, history_after, noted}
use Rattle.evening.specs.Trusted.{EmptyAtFirst, Agrees, Trusted}
use Rattle.evening.proofs.ExactlyLaws.{exactly}
use Rattle.evening.proofs.CallLaws.{Meets, short, step}

-- ---- the calls of a list
module _ (limit : ℕ) (nodes : Graph) (counted : List ℕ) (start : ℕ) (lex : List Word) (meets : Meets limit nodes counted start lex)
    (first : List ℕ) where
  abbrev whole : List Call → List ℕ → Evening
  whole calls bits = play_all limit nodes counted start calls bits

  record Goes (calls accepted : List Call) (bits : List ℕ) : Type 0 where
    answers : (whole calls bits).answers ≡ answers_after lex accepted calls
    agrees : Agrees lex first (whole calls bits).bits (history_after lex accepted calls)

  goes_on : length lex ≤ 8 * length first → (calls : List Call) (bits : List ℕ) (accepted : List Call) → Agrees lex first bits accepted
      → Goes calls accepted bits
  unfolding play_all answers_after history_after
  goes_on enough [] bits accepted a = record { answers = refl; agrees = a }
  goes_on enough (c ∷ cs) bits accepted a =
      let s = step limit nodes counted start lex meets first enough bits accepted a c in
      let r = goes_on enough cs (play limit c.move nodes counted start c.word bits).bits (noted (answer_after lex accepted c) c accepted) s.agree in
      record { answers = ap₂ ◌∷◌ s.answer r.answers; agrees = r.agrees }

  all_short : 8 * length first < length lex → (calls : List Call)
      → whole calls first ≡ record { answers = map (λ c. refused 11 []) calls; bits = first }
  unfolding play_all
  all_short few [] = refl
  all_short few (c ∷ cs) = rw (short limit nodes counted start lex meets first c first few) (rw (all_short few cs))

  trusted : EmptyAtFirst lex first → (calls : List Call) → Trusted lex first calls (whole calls first)
  trusted empty calls =
      split (ltb (8 * length first) (length lex))
      (λ t.
      let few = ltb-true (8 * length first) (length lex) t in
      rw (all_short few calls) (record {
        answered = λ h. absurd (omega arith);
        recorded = λ h. absurd (omega arith);
        refusing = exactly lex calls;
        too_few = λ h. (refl, refl);
      }))
      (λ t.
      let enough = ltb-false (8 * length first) (length lex) t in
      let r = goes_on enough calls first [] (record { size = refl; within = empty; past = λ n h. refl }) in
      record { answered = λ h. r.answers; recorded = λ h. r.agrees; refusing = exactly lex calls; too_few = λ h. absurd (omega arith) })

-- ---- a graph lent with its own counts
no_words : (limit : ℕ) (nodes counted : List ℕ) (w : Word) → word_index limit nodes counted 0 w ≡ nothing
unfolding word_index index_of_word passed_first
no_words limit nodes counted [] = refl
no_words limit nodes counted (t ∷ w) = refl

module _ (limit : ℕ) (g : Graph) (c : Counts limit g) (up : ascends kbwg g ≡ true) (nodes counted : List ℕ) (is : GraphLent g nodes counted)
    (start : ℕ) (inside : start < length g) where
  start-lent : start < length nodes
  start-lent = (at_head g nodes is.nodes-are start inside).0

  at_zero : start ≡ 0 → Meets limit nodes counted start []
  at_zero z =
      record {
        total = start_none nodes counted start start-lent z;
        known = λ i h. absurd (omega arith);
        unknown = λ w n. ap (λ p. word_index limit nodes counted p w) z ∙ no_words limit nodes counted w;
      }

  above_zero : start ≢ 0 → Meets limit nodes counted start (words kbwg g start)
  above_zero n =
      let numbers : WordNumbers limit g nodes counted start = numbered limit g c up nodes counted is start (omega arith) inside in
      record {
        total = start-count nodes counted start start-lent n ∙ count-lent-at g nodes counted is start inside;
        known = λ i h. numbers.given_back i (rw numbers.count-is h);
        unknown = numbers.other-words;
      }

  meets : Meets limit nodes counted start (lexicon g start)
  meets =
      split (eqb start 0)
      (λ t. rw (t, lexicon) (at_zero (eqb-true start 0 t)))
      (λ t. rw (t, lexicon) (above_zero (eqb-false start 0 t)))

  -- on a graph that counts and ascends, every list of calls can be trusted
  pub played-trusted : (first : List ℕ) → EmptyAtFirst (lexicon g start) first → (calls : List Call)
      → Trusted (lexicon g start) first calls (play_all limit nodes counted start calls first)
  played-trusted first empty calls = trusted limit nodes counted start (lexicon g start) meets first empty calls
