-- The tables of the survey stay right: an entry put in is read again, and the others are as they were.
use mathlib.Core.Path.{◌≡◌, sym, ap, ◌∙◌, subst}
use mathlib.Core.Bool.{true}
use mathlib.Core.Logic.{◌≢◌}
use mathlib.Core.List.{List}
use Prim.Native.Nat.{ℕ, ◌+◌, ◌*◌, ◌≤◌, ◌<◌}
use native.Mathlib.Omega.{arith}
use lib.Dec.{eqb}
use borrow.Author.Tests.{eqb-true, eqb-false}
use lib.ListN.{length, get_or, set, length-set}
use lib.Seq.{get_or-set_same, get_or-set_other}
use Rattle.laws.specs.Cases.{split}
use Rattle.graph.specs.Runs.{Graph}
use Rattle.base.specs.Numbers.{flag, flag-read}
use Rattle.survey.specs.Survey.{FindingsOf, findings_at, findings_kept, SurveyTables}
use Rattle.survey.specs.declared.Findings.{Findings}

-- ---- one entry
module _ (n : ℕ) (w : List ℕ) (i : ℕ) (s : Findings) (h : i < n) (room : 3 * n ≤ length w) where
  entry-same : findings_at n (findings_kept n w i s) i ≡ s
  entry-same =
      let w1 = set w i s.runs in
      let w2 = set w1 (n + i) s.words in
      let a = get_or-set_other w2 (2 * n + i) i (flag s.byteless) 0 (λ e. omega arith)
      ∙ get_or-set_other w1 (n + i) i s.words 0 (λ e. omega arith)
      ∙ get_or-set_same w i s.runs 0 (omega arith) in
      let b = get_or-set_other w2 (2 * n + i) (n + i) (flag s.byteless) 0 (λ e. omega arith)
      ∙ get_or-set_same w1 (n + i) s.words 0 (simp length-set (omega arith)) in
      let c = get_or-set_same w2 (2 * n + i) (flag s.byteless) 0 (simp length-set (omega arith)) in
      λ t. record { runs = a t; words = b t; byteless = (ap (λ x. eqb x 1) c ∙ flag-read s.byteless) t }

  entry_other : (q : ℕ) → q < n → q ≢ i → findings_at n (findings_kept n w i s) q ≡ findings_at n w q
  entry_other q l ne =
      let w1 = set w i s.runs in
      let w2 = set w1 (n + i) s.words in
      let other : (m : ℕ) → m ≢ i → m ≢ n + i → m ≢ 2 * n + i → get_or (findings_kept n w i s) m 0 ≡ get_or w m 0 =
      λ m x y z. get_or-set_other w2 (2 * n + i) m (flag s.byteless) 0 z
      ∙ get_or-set_other w1 (n + i) m s.words 0 y
      ∙ get_or-set_other w i m s.runs 0 x in
      let a = other q ne (λ e. omega arith) (λ e. omega arith) in
      let b = other (n + q) (λ e. omega arith) (λ e. ne (omega arith)) (λ e. omega arith) in
      let c = other (2 * n + q) (λ e. omega arith) (λ e. omega arith) (λ e. ne (omega arith)) in
      λ t. record { runs = a t; words = b t; byteless = eqb (c t) 1 }

-- ---- the tables
pub tables-kept : {g : Graph} {labels w : List ℕ} {i : ℕ} {s : Findings} → SurveyTables g labels w → i < length g → FindingsOf g labels true i s
    → SurveyTables g labels (findings_kept (length g) w i s)
tables-kept {g} {labels} {w} {i} {s} t h a =
    record {
      room = let r = t.room in simp length-set (omega arith);
      right = λ q l n. split (eqb q i)
          (λ e. let z = eqb-true q i e in
          rw z (subst (FindingsOf g labels true i) (sym (entry-same (length g) w i s h t.room)) a))
          (λ e. let same = entry_other (length g) w i s h t.room q l (eqb-false q i e) in
          subst (FindingsOf g labels true q) (sym same) (t.right q l (λ z. n (ap (λ f. f.runs) same ∙ z))));
    }
