-- What a call leaves of the lists that it is lent, from document 01, "Where each check stands": "A call writes only what this paper
-- names; entries past that stay."
use Rattle.std.specs.Prelude.{◌≡◌, refl, List, ◌++◌, ℕ, ◌+◌, ◌-◌, ◌≤◌, ◌<◌, length, drop, set, replicate}
use Rattle.std.proofs.Common.{sym, ap, ◌∙◌, arith, length-set, length-append, length-drop, drop-set-lt, drop_at, drop-drop}
use Rattle.std.proofs.Math.Option.{none, some}
use Rattle.std.proofs.lemmas.List.{length-replicate}
use Rattle.laws.specs.Cases.{some≢none}
use Rattle.laws.specs.Cleared.{cleared}
use Rattle.answers.specs.Answers.{Answer, Row, first_of}

-- a list as long as before, and the same from place n on
pub record Kept (n : ℕ) (before after : List ℕ) : Type 0 where
  pub size : length after ≡ length before
  pub rest : drop n after ≡ drop n before

pub kept-all : (n : ℕ) (l : List ℕ) → Kept n l l
kept-all n l = record { size = refl; rest = refl }

pub kept_then : {n : ℕ} {l m r : List ℕ} → Kept n l m → Kept n m r → Kept n l r
kept_then a b = record { size = b.size ∙ a.size; rest = b.rest ∙ a.rest }

pub kept_set : (n : ℕ) (l : List ℕ) (i v : ℕ) → i < n → Kept n l (set l i v)
kept_set n l i v h = record { size = length-set l i v; rest = drop-set-lt n l i v h }

-- a list whose first n numbers are others
pub kept-part : (n : ℕ) (l part : List ℕ) → n ≤ length l → length part ≡ n → Kept n l (part ++ drop n l)
kept-part n l part h e = record { size = simp (length-append, length-drop) (omega arith); rest = drop_at part (drop n l) n e }

pub kept-further : (m n : ℕ) (l r : List ℕ) → n ≤ m → Kept n l r → Kept m l r
kept-further m n l r h k =
    let e : n + (m - n) ≡ m = omega arith in
    let far : (s : List ℕ) → drop m s ≡ drop (m - n) (drop n s) = λ s. ap (λ i. drop i s) (sym e) ∙ sym (drop-drop (m - n) n s) in
    record { size = k.size; rest = far r ∙ ap (drop (m - n)) k.rest ∙ sym (far l) }

pub cleared-kept : (n : ℕ) (l : List ℕ) → n ≤ length l → Kept n l (cleared n l)
cleared-kept n l h = kept-part n l (replicate n 0) h (length-replicate n 0)

-- what stands past the numbers set is what stood there before
pub cleared_of_kept : (n : ℕ) (l r : List ℕ) → Kept n l r → cleared n r ≡ cleared n l
cleared_of_kept n l r k = ap (replicate n 0 ++◌) k.rest

-- A work list of n numbers, "free afterwards": where a check before the walk refuses it is as before.
pub record WorkKept (checks : Row) (n : ℕ) (before after : List ℕ) : Type 0 where
  pub past : Kept n before after
  pub untouched : {r : Answer} → first_of checks ≡ some r → after ≡ before

module _ {checks : Row} {n : ℕ} {before after : List ℕ} where
  pub work-untouched : after ≡ before → WorkKept checks n before after
  work-untouched e = record { past = record { size = ap length e; rest = ap (drop n) e }; untouched = λ _. e }

  pub work-walked : first_of checks ≡ none → Kept n before after → WorkKept checks n before after
  work-walked passed k = record { past = k; untouched = λ e. some≢none (sym e ∙ passed) }
