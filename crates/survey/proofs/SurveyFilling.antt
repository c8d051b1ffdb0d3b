-- A run is filled in from its last unknown node back to where it was entered: what is known after a node is right at every turn.
use mathlib.Core.Path.{◌≡◌, refl, subst}
use mathlib.Core.Bool.{true, false, ◌&&◌, not}
use mathlib.Core.Logic.{◌≢◌}
use mathlib.Core.List.{List}
use Prim.Native.Nat.{ℕ, zero, suc, ◌+◌, ◌-◌, ◌≤◌, ◌<◌}
use native.Mathlib.Omega.{arith}
use lib.Dec.{eqb}
use borrow.Author.Tests.{eqb-true, eqb-false}
use lib.ListN.{length}
use Rattle.laws.specs.Cases.{split}
use Rattle.node.specs.Nodes.{kbwg, arc, is_end}
use Rattle.graph.specs.Runs.{Graph, node}
use Rattle.graph.specs.ChecksLaws.{Fit}
use Rattle.export.specs.Starts.{has_arc, deeper}
use Rattle.survey.specs.Survey.{FindingsOf, node_joined, findings_after, SurveyTables, LastIs}
use Rattle.survey.proofs.FindingsLaws.{right-no-run, right_join, deep-from-arc, deep_back}
use Rattle.survey.specs.declared.Findings.{Findings}

-- what holds of the numbers from p to before i, and of i, holds up to i
pub one_more : {P : ℕ → Type 0} (p i : ℕ) → ((j : ℕ) → p ≤ j → j < i → P j) → P i → (j : ℕ) → p ≤ j → j < i + 1 → P j
one_more {P} p i before here j l h =
    split (eqb j i) (λ e. rw (eqb-true j i e) here) (λ e. let n = eqb-false j i e in before j l (omega (arith, n)))

-- the run from p goes on to the node before e, and `rest` is right for what comes from e on
pub record SurveyFilling (g : Graph) (labels w₀ w : List ℕ) (p e : ℕ) (rest : Findings) : Type 0 where
  pub from : p ≤ e
  pub inside : e ≤ length g
  pub on : (j : ℕ) → p ≤ j → suc j < e → is_end kbwg (node g j) ≡ false
  pub right : p < e → FindingsOf g labels (not (is_end kbwg (node g (e - 1)))) e rest
  pub done : e ≡ p → FindingsOf g labels true p rest
  pub tables : SurveyTables g labels w
  pub size : length w ≡ length w₀

pub fill_start : {g : Graph} {labels w : List ℕ} {p i : ℕ} → Fit g → SurveyTables g labels w → LastIs g w p i
    → SurveyFilling g labels w w p (i + 1) (findings_after g w i)
fill_start {g} {labels} {w} {p} {i} f t l =
    let from = l.from in
    let inside = l.inside in
    let z : i + 1 - 1 ≡ i = omega arith in
    record {
      from = omega arith;
      inside = omega arith;
      on = λ j a b. l.on j a (omega arith);
      right = λ h. rw z (split (is_end kbwg (node g i))
          (λ e. rw (e, findings_after) (right-no-run g labels (i + 1)))
          (λ e. let n = f.steps.runs i l.inside e in rw (e, findings_after) (t.right (i + 1) (omega arith) (l.known e))));
      done = λ e. absurd (omega arith);
      tables = t;
      size = refl;
    }

module _ {g : Graph} {labels w₀ w : List ℕ} {p e : ℕ} {rest : Findings} (f : SurveyFilling g labels w₀ w p e rest) (goes : p < e) where
  abbrev i : ℕ
  i = e - 1

  -- the node before e
  pub fill-node : {child : Findings} → FindingsOf g labels (has_arc (node g i)) (arc kbwg (node g i)) child
      → FindingsOf g labels true i (node_joined labels (node g i) child rest)
  fill-node {child} a =
      let z : e ≡ i + 1 = omega arith in
      let inside = f.inside in
      right_join g labels i child rest (omega arith) a (subst (λ n. FindingsOf g labels (not (is_end kbwg (node g i))) n rest) z (f.right goes))

  -- a chain that is too deep by its arc
  pub fill-deep : (left : ℕ) → left ≢ 0 → has_arc (node g i) && deeper g (left - 1) (arc kbwg (node g i)) ≡ true → deeper g left p ≡ true
  fill-deep zero n d = absurd (n refl)
  fill-deep (suc k) n d =
      let z : suc k - 1 ≡ k = omega arith in
      let inside = f.inside in
      deep_back g k (i - p) p i (omega arith) (omega arith) (λ j a b. f.on j a (omega arith)) (deep-from-arc g k i (omega arith) (rw z at d))

  -- the nodes before that
  pub fill-back : {w' : List ℕ} {run : Findings} → SurveyTables g labels w' → length w' ≡ length w₀ → FindingsOf g labels true i run
      → SurveyFilling g labels w₀ w' p i run
  fill-back {run = run} t l a =
      let inside = f.inside in
      record {
        from = omega arith;
        inside = omega arith;
        on = λ j x y. f.on j x (omega arith);
        right = λ h. rw (f.on (i - 1) (omega arith) (omega arith)) a;
        done = λ z. subst (λ n. FindingsOf g labels true n run) z a;
        tables = t;
        size = l;
      }
