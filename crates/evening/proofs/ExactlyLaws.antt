-- Which refusal a history gives, each exactly on its condition. The idea: only words of the lexicon have accepted calls, so that a word in play is
-- one of them.
use Rattle.std.specs.Prelude.{◌≡◌, refl, Bool, true, false, ◌&&◌, not, ◌↔◌, ℕ}
use Rattle.std.proofs.Math.Path.{sym, ap}
use Rattle.std.proofs.Common.{◌∙◌, true≢false, arith}
use mathlib.Core.List.{List, [], ◌∷◌, Memᴰ}
use Rattle.laws.specs.Cases.{split}
use Rattle.laws.specs.Lists.{some_of}
use Rattle.laws.specs.Members.{some_of_lem, of_some}
use Rattle.laws.specs.Same.{same}
use Rattle.laws.proofs.SameLaws.{same_refl, same_eq}
use Rattle.answers.specs.Answers.{Answer, gives, nothing, refused, refusing, refusal_in, Row, first_of, or_else}
use Rattle.graph.specs.Words.{Word}
use Rattle.in_play.specs.InPlay.{remaining}
use Rattle.evening.specs.History.{Call, is_arrival, arrived, noted, count_after, numbers_after, answer_after, history_after}
use Rattle.evening.specs.Trusted.{Exactly}

-- ---- the refusal by three facts: the word is known, it arrives, it is in play
by : Bool → Bool → Bool → ℕ
by false arrives there = 29
by true true true = 30
by true true false = 0
by true false true = 0
by true false false = 31

by_29 : (k m a : Bool) → (by k m a ≡ 29) ↔ (k ≡ false)
unfolding by
by_29 false m a = ((λ e. refl), (λ e. refl))
by_29 true true true = ((λ e. absurd (omega arith)), (λ e. absurd (true≢false e)))
by_29 true true false = ((λ e. absurd (omega arith)), (λ e. absurd (true≢false e)))
by_29 true false true = ((λ e. absurd (omega arith)), (λ e. absurd (true≢false e)))
by_29 true false false = ((λ e. absurd (omega arith)), (λ e. absurd (true≢false e)))

by_30 : (k m a : Bool) → (a ≡ true → k ≡ true) → (by k m a ≡ 30) ↔ (m ≡ true) × (a ≡ true)
unfolding by
by_30 false m a h = ((λ e. absurd (omega arith)), (λ e. absurd (true≢false (sym (h e.1)))))
by_30 true true true h = ((λ e. (refl, refl)), (λ e. refl))
by_30 true true false h = ((λ e. absurd (omega arith)), (λ e. absurd (true≢false (sym e.1))))
by_30 true false true h = ((λ e. absurd (omega arith)), (λ e. absurd (true≢false (sym e.0))))
by_30 true false false h = ((λ e. absurd (omega arith)), (λ e. absurd (true≢false (sym e.0))))

by_31 : (k m a : Bool) → (by k m a ≡ 31) ↔ (m ≡ false) × (a ≡ false) × (k ≡ true)
unfolding by
by_31 false m a = ((λ e. absurd (omega arith)), (λ e. absurd (true≢false (sym e.2))))
by_31 true true true = ((λ e. absurd (omega arith)), (λ e. absurd (true≢false e.0)))
by_31 true true false = ((λ e. absurd (omega arith)), (λ e. absurd (true≢false e.0)))
by_31 true false true = ((λ e. absurd (omega arith)), (λ e. absurd (true≢false e.1)))
by_31 true false false = ((λ e. (refl, refl, refl)), (λ e. refl))

remaining_plain : (n : ℕ) (l : List ℕ) → refusal_in (remaining n l) ≡ 0
remaining_plain n [] = refl
remaining_plain n (k ∷ l) = refl

row_by : Bool → Bool → Bool → Row
row_by k m a = (not k, refusing 29 []) ∷ (m && a, refusing 30 []) ∷ (not m && not a, refusing 31 []) ∷ []

told-by : (k m a : Bool) (n : ℕ) (l : List ℕ) → refusal_in (or_else (first_of (row_by k m a)) (remaining n l)) ≡ by k m a
unfolding by row_by first_of
told-by false m a n l = refl
told-by true true true n l = refl
told-by true true false n l = remaining_plain n l
told-by true false true n l = remaining_plain n l
told-by true false false n l = refl

-- ---- only words of the lexicon have accepted calls
module _ (lex : List Word) where
  abbrev knows : Word → Bool
  knows w = some_of (same w) lex

  abbrev Known : List Call → Type 0
  Known accepted = (w : Word) → arrived accepted w ≡ true → knows w ≡ true

  refusal_is : (accepted : List Call) (c : Call)
      → refusal_in (answer_after lex accepted c) ≡ by (knows c.word) (is_arrival c.move) (arrived accepted c.word)
  unfolding answer_after row_by
  refusal_is accepted c =
      told-by (knows c.word) (is_arrival c.move) (arrived accepted c.word) (count_after lex (c ∷ accepted)) (numbers_after lex (c ∷ accepted))

  noted-known : (accepted : List Call) (c : Call) → Known accepted → (x : Answer) → (refusal_in x ≡ 0 → knows c.word ≡ true) → Known (noted x c accepted)
  noted-known accepted c k (gives vs) h w a =
      split (same c.word w)
      (λ t. ap knows (sym (same_eq c.word w t)) ∙ h refl)
      (λ t. k w (rw (t, arrived) at a))
  noted-known accepted c k nothing h w a = k w a
  noted-known accepted c k (refused n vs) h w a = k w a

  step-known : (accepted : List Call) (c : Call) → Known accepted → Known (noted (answer_after lex accepted c) c accepted)
  unfolding by
  step-known accepted c k =
      noted-known accepted c k (answer_after lex accepted c)
      (λ e. split (knows c.word) (λ t. t)
      (λ t. absurd (let z = sym e ∙ refusal_is accepted c ∙ ap (λ b. by b (is_arrival c.move) (arrived accepted c.word)) t in omega arith)))

  history_known : (accepted calls : List Call) → Known accepted → Known (history_after lex accepted calls)
  unfolding history_after
  history_known accepted [] k = k
  history_known accepted (c ∷ calls) k = history_known (noted (answer_after lex accepted c) c accepted) calls (step-known accepted c k)

  -- ---- the word is known just where it is in the lexicon
  known_in : (w : Word) → knows w ≡ true → Memᴰ w lex
  known_in w e = let r = some_of_lem (same w) lex e in rw (same_eq w r.0 r.2) r.1

  in_known : (w : Word) → Memᴰ w lex → knows w ≡ true
  in_known w m = of_some (same w) lex w m (same_refl w)

  pub exactly : (calls : List Call) (c : Call) → Exactly lex (history_after lex [] calls) c
  exactly calls c =
      let accepted = history_after lex [] calls in
      let w = c.word in
      let k = history_known [] calls (λ u a. absurd (true≢false (sym a))) w in
      let is = refusal_is accepted c in
      let x = by_29 (knows w) (is_arrival c.move) (arrived accepted w) in
      let y = by_30 (knows w) (is_arrival c.move) (arrived accepted w) k in
      let z = by_31 (knows w) (is_arrival c.move) (arrived accepted w) in
      record {
        unknown = (
          (λ e m. true≢false (sym (in_known w m) ∙ x.0 (sym is ∙ e))),
          (λ n. is ∙ x.1 (split (knows w) (λ t. absurd (n (known_in w t))) (λ t. t))),
        );
        again = ((λ e. y.0 (sym is ∙ e)), (λ e. is ∙ y.1 e));
        away = (
          (λ e. let r = z.0 (sym is ∙ e) in (r.0, r.1, known_in w r.2)),
          (λ e. is ∙ z.1 (e.0, e.1, in_known w e.2)),
        );
      }
