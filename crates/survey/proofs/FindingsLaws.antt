-- What the survey knows of a run. The idea: it is right where it is right for the run that the first node's arc leads to and for the
-- rest of the run; and a chain from a node of a run is one from every node before it in the run.
use mathlib.Core.Path.{◌≡◌, refl, sym, ap₂, ◌∙◌}
use mathlib.Core.Bool.{true, false, ◌&&◌, ◌||◌, not, or-true, or_assoc}
use mathlib.Core.List.{List}
use Prim.Native.Nat.{ℕ, zero, suc, ◌+◌, ◌≤◌, ◌<◌, min, max}
use native.Mathlib.Omega.{arith}
use lib.Dec.{ltb}
use borrow.Author.Tests.{lt-ltb}
use lib.ListN.{length, length-append}
use Rattle.std.proofs.lemmas.Bool.{false≢true}
use Rattle.laws.specs.Cases.{split}
use Rattle.laws.specs.Tests.{ltb-max, ltb-suc}
use Rattle.base.specs.Numbers.{most}
use Rattle.node.specs.Nodes.{kbwg, arc, is_end}
use Rattle.graph.specs.Runs.{Graph, node}
use Rattle.graph.specs.Words.{Word, in_order, spelled, words_within}
use Rattle.graph.proofs.CountEquationLaws.{length-spelled}
use Rattle.export.specs.Starts.{run_of, has_arc, deeper}
use Rattle.export.specs.RunOfLaws.{run_ends, run-goes-on, some-run}
use Rattle.survey.specs.ByArc.{where_there, counted-by-arc}
use Rattle.survey.specs.RunCounted.{counted_none}
use Rattle.survey.specs.Survey.{byteless, byteless_within, no_run, FindingsOf, node_joined, SurveyAnswers}
use Rattle.survey.specs.declared.Findings.{Findings}
use Rattle.survey.specs.declared.ChainTooDeep.{ChainTooDeep}
use Rattle.std.specs.Prelude.{Result, Ok, Err, IsErr}

-- ---- a run by its first node and the rest
module _ (g : Graph) (i : ℕ) (h : i < length g) where
  length_run : (f : ℕ → List Word) → length (in_order f (run_of g i))
      ≡ length (f (node g i)) + where_there (not (is_end kbwg (node g i))) (length (in_order f (run_of g (i + 1))))
  unfolding in_order
  length_run f =
      split (is_end kbwg (node g i))
      (λ e. rw (run_ends g i h e) (simp length-append (rw e (omega arith))))
      (λ e. rw (run-goes-on g i h e) (simp length-append (rw e (omega arith))))

module _ (g : Graph) (labels : List ℕ) where
  -- ---- what is known of a run
  pub right-no-run : (q : ℕ) → FindingsOf g labels false q no_run
  right-no-run q = record { counted = counted_none g q; byteless = λ k h. refl }

  pub right_join : (i : ℕ) (child rest : Findings) → i < length g → FindingsOf g labels (has_arc (node g i)) (arc kbwg (node g i)) child
      → FindingsOf g labels (not (is_end kbwg (node g i))) (i + 1) rest → FindingsOf g labels true i (node_joined labels (node g i) child rest)
  unfolding deeper words_within byteless_within
  right_join i child rest h a b = record { counted = record { depth = runs-right; words_are = words_right }; byteless = byteless-right }
    where
      runs-right : (k : ℕ) → deeper g k i ≡ ltb k (max (child.runs + 1) rest.runs)
      runs-right zero = sym (lt-ltb 0 (max (child.runs + 1) rest.runs) (omega arith))
      runs-right (suc k) =
          some-run g i h (λ v. has_arc v && deeper g k (arc kbwg v))
          ∙ ap₂ ◌||◌ (a.counted.depth k ∙ ltb-suc k child.runs) (b.counted.depth (suc k))
          ∙ ltb-max (suc k) (child.runs + 1) rest.runs

      words_right : (k : ℕ) → max (child.runs + 1) rest.runs ≤ k
          → (node_joined labels (node g i) child rest).words ≡ min (length (words_within kbwg k g i)) most
      words_right zero l = absurd (omega arith)
      words_right (suc k) l =
          let x = a.counted.words_are k (omega arith) in
          let y = b.counted.words_are (suc k) (omega arith) in
          let z = length_run g i h (spelled kbwg (λ q. words_within kbwg k g q)) in
          let s = length-spelled kbwg (λ q. words_within kbwg k g q) (node g i) in
          let c = counted-by-arc (λ q. length (words_within kbwg k g q)) (node g i) in
          omega arith

      byteless-right : (k : ℕ) → max (child.runs + 1) rest.runs ≤ k → (node_joined labels (node g i) child rest).byteless ≡ byteless_within g labels k i
      byteless-right zero l = absurd (omega arith)
      byteless-right (suc k) l =
          ap₂ (λ x y. byteless labels (node g i) || (x || y)) (a.byteless k (omega arith)) (b.byteless (suc k) (omega arith))
          ∙ sym (or_assoc (byteless labels (node g i)) (has_arc (node g i) && byteless_within g labels k (arc kbwg (node g i)))
          (not (is_end kbwg (node g i)) && byteless_within g labels (suc k) (i + 1)))
          ∙ sym (some-run g i h (λ v. byteless labels v || (has_arc v && byteless_within g labels k (arc kbwg v))))

  -- ---- what the survey answers, with so many runs left in the chain
  pub answers-deep : (q left : ℕ) (r : Result Findings ChainTooDeep) → IsErr r → deeper g left q ≡ true → SurveyAnswers g labels true q left r
  answers-deep q left (Ok s) i d = absurd (false≢true i)
  answers-deep q left (Err e) i d = d

-- ---- more runs in a chain than are left
module _ (g : Graph) where
  -- from an arc of a node, then from the node, then from every node before it in its run
  pub deep-from-arc : (k i : ℕ) → i < length g → has_arc (node g i) && deeper g k (arc kbwg (node g i)) ≡ true → deeper g (suc k) i ≡ true
  unfolding deeper
  deep-from-arc k i h e = some-run g i h (λ v. has_arc v && deeper g k (arc kbwg v)) ∙ rw e

  deep-before : (k i : ℕ) → i < length g → is_end kbwg (node g i) ≡ false → deeper g (suc k) (i + 1) ≡ true → deeper g (suc k) i ≡ true
  unfolding deeper
  deep-before k i h e d =
      some-run g i h (λ v. has_arc v && deeper g k (arc kbwg v))
      ∙ ap₂ (λ x y. has_arc (node g i) && deeper g k (arc kbwg (node g i)) || (not x && y)) e d
      ∙ or-true (has_arc (node g i) && deeper g k (arc kbwg (node g i)))

  pub deep_back : (k d p i : ℕ) → i ≡ p + d → i < length g → ((j : ℕ) → p ≤ j → j < i → is_end kbwg (node g j) ≡ false)
      → deeper g (suc k) i ≡ true → deeper g (suc k) p ≡ true
  deep_back k zero p i e h on a = let q : i ≡ p = omega arith in rw q at a
  deep_back k (suc d) p i e h on a =
      deep-before k p (omega arith) (on p (omega arith) (omega arith))
      (deep_back k d (p + 1) i (omega arith) h (λ j l m. on j (omega arith) m) a)
