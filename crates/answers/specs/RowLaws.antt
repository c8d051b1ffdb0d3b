-- A row of checks, one condition at a time.
use Rattle.std.specs.Prelude.{◌≡◌, refl, Bool, true, false, List, [], ◌∷◌, ◌++◌, ℕ, zero, suc}
use Rattle.std.proofs.Common.{sym, ap, ◌∙◌}
use Rattle.std.proofs.lemmas.Bool.{false≢true}
use Rattle.std.proofs.Math.Option.{none, some}
use Rattle.laws.specs.Cases.{split, is_some, some≢none}
use Rattle.laws.specs.Lists.{All}
use Rattle.answers.specs.Answers.{Answer, gives, nothing, refused, Refusal, as_answer, Row, first_of}

module _ (c : Bool) (r : Refusal) (cs : Row) where
  pub row-refuses : c ≡ true → first_of ((c, r) ∷ cs) ≡ some (as_answer r)
  unfolding first_of
  row-refuses e = rw (e, first_of)

  pub row-passes : c ≡ false → first_of ((c, r) ∷ cs) ≡ first_of cs
  unfolding first_of
  row-passes e = rw (e, first_of)

  pub row-passed : first_of ((c, r) ∷ cs) ≡ none → (c ≡ false) × (first_of cs ≡ none)
  row-passed h = split c (λ e. some≢none (sym (row-refuses e) ∙ h)) (λ e. (e, sym (row-passes e) ∙ h))

pub row_ends : first_of [] ≡ none
unfolding first_of
row_ends = refl

pub rows_refuse : (cs ds : Row) {r : Answer} → first_of cs ≡ some r → first_of (cs ++ ds) ≡ some r
unfolding first_of
rows_refuse [] ds e = some≢none (sym e)
rows_refuse (c ∷ cs) ds e =
    split c.0
    (λ t. row-refuses c.0 c.1 (cs ++ ds) t ∙ sym (row-refuses c.0 c.1 cs t) ∙ e)
    (λ t. row-passes c.0 c.1 (cs ++ ds) t ∙ rows_refuse cs ds (sym (row-passes c.0 c.1 cs t) ∙ e))

pub rows_pass : (cs ds : Row) → first_of cs ≡ none → first_of (cs ++ ds) ≡ first_of ds
rows_pass [] ds e = refl
rows_pass (c ∷ cs) ds e =
    let p = row-passed c.0 c.1 cs e in
    row-passes c.0 c.1 (cs ++ ds) p.0 ∙ rows_pass cs ds p.1

pub rows-passed : (cs ds : Row) → first_of (cs ++ ds) ≡ none → first_of cs ≡ none
rows-passed [] ds e = row_ends
rows-passed (c ∷ cs) ds e =
    let p = row-passed c.0 c.1 (cs ++ ds) e in
    row-passes c.0 c.1 cs p.0 ∙ rows-passed cs ds p.1

-- ---- by the facts that decide it: the k-th test holds, and none before it
abbrev pub StopsAt : ℕ → Row → Type 0
StopsAt k [] = ⊥
StopsAt zero (c ∷ cs) = c.0 ≡ true
StopsAt (suc k) (c ∷ cs) = (c.0 ≡ false) × StopsAt k cs

abbrev pub answer_at : ℕ → Row → Answer
answer_at k [] = nothing
answer_at zero (c ∷ cs) = as_answer c.1
answer_at (suc k) (c ∷ cs) = answer_at k cs

pub stops_at : (k : ℕ) (row : Row) → StopsAt k row → first_of row ≡ some (answer_at k row)
stops_at k [] s = absurd s
stops_at zero (c ∷ cs) s = row-refuses c.0 c.1 cs s
stops_at (suc k) (c ∷ cs) s = row-passes c.0 c.1 cs s.0 ∙ stops_at k cs s.1

-- or no test holds
pub all_pass : (row : Row) → All (λ (c : Bool × Refusal). c.0 ≡ false) row → first_of row ≡ none
all_pass [] s = row_ends
all_pass (c ∷ cs) s = row-passes c.0 c.1 cs s.0 ∙ all_pass cs s.1

pub passed-all : (row : Row) → first_of row ≡ none → All (λ (c : Bool × Refusal). c.0 ≡ false) row
passed-all [] e = tt
passed-all (c ∷ cs) e = let p = row-passed c.0 c.1 cs e in (p.0, passed-all cs p.1)

-- ---- what it refuses by: a row with one refusal refuses by that
pub one-refusal : (r : Refusal) (cs : Row) → All (λ (c : Bool × Refusal). c.1 ≡ r) cs → is_some (first_of cs) ≡ true → first_of cs ≡ some (as_answer r)
unfolding first_of
one-refusal r [] h e = absurd (false≢true e)
one-refusal r (c ∷ cs) h e =
    split c.0
    (λ t. row-refuses c.0 c.1 cs t ∙ ap (λ x. some (as_answer x)) h.0)
    (λ t. let p = row-passes c.0 c.1 cs t in p ∙ one-refusal r cs h.1 (ap is_some (sym p) ∙ e))

-- what a row answers is a refusal
pub row-refusal : (cs : Row) {a : Answer} → first_of cs ≡ some a → (r : Refusal) × (a ≡ as_answer r)
unfolding first_of
row-refusal [] e = some≢none (sym e)
row-refusal (c ∷ cs) {a} e =
    split c.0
    (λ t. let i : some (as_answer c.1) ≡ some a = sym (row-refuses c.0 c.1 cs t) ∙ e in (c.1, cc))
    (λ t. row-refusal cs (sym (row-passes c.0 c.1 cs t) ∙ e))

is_refused : Answer → Bool
is_refused (gives vs) = false
is_refused nothing = false
is_refused (refused n vs) = true

-- a given answer is no refusal
pub gives≢refused : {C : Type 0} {vs us : List ℕ} {n : ℕ} → gives vs ≡ refused n us → C
unfolding is_refused
gives≢refused e = absurd (false≢true (ap is_refused e))

pub row-never_gives : (cs : Row) {vs : List ℕ} {C : Type 0} → first_of cs ≡ some (gives vs) → C
row-never_gives cs e = gives≢refused (row-refusal cs e).1
