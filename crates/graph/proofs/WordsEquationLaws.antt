-- Where nothing at or below a node loops, its words satisfy the equation of document 01. The idea: a path that never comes back
-- to a node ends before it has followed as many arcs as there are nodes, so more turns of `words_within` change nothing.
use Rattle.std.specs.Prelude.{◌≡◌, ◌≢◌, eqb}
use Rattle.std.proofs.Math.Path.{sym}
use Rattle.std.proofs.Common.{◌∙◌, zero-add, suc-add}
use mathlib.Core.List.{List}
use mathlib.Core.List.Memᴰ
use Prim.Native.Nat.{ℕ, zero, suc, ◌+◌}
use Rattle.std.proofs.lemmas.Bool.{eqb-false}
use Rattle.std.proofs.Math.ListN.{length, drop}
use Rattle.laws.specs.Cases.{split}
use Rattle.node.specs.Nodes.{BitLayout, arc}
use Rattle.graph.specs.Runs.{Graph, run}
use Rattle.graph.specs.Words.{Word, in_order, spelled, words_within, words}
use Rattle.graph.specs.Loops.{Clear}
use Rattle.graph.specs.WordsEquation.{in_order_ext, Short, no_run, clear-short}

module _ (y : BitLayout) where
  -- ---- enough fuel
  pub spelled_ext : (f h : ℕ → List Word) (v : ℕ) → (arc y v ≢ 0 → f (arc y v) ≡ h (arc y v)) → spelled y f v ≡ spelled y h v
  unfolding spelled
  spelled_ext f h v e =
      split (eqb (arc y v) 0)
      (λ z. rw (z, spelled))
      (λ z. rw (z, spelled, e (eqb-false (arc y v) 0 z)))

  pub words-within_stable : (g : Graph) (k p : ℕ) → Short y g k p → words_within y (suc k) g p ≡ words_within y k g p
  unfolding words_within in_order
  words-within_stable g zero p s = rw (no_run y g p s)
  words-within_stable g (suc k) p s =
      in_order_ext (spelled y (λ q. words_within y (suc k) g q)) (spelled y (λ q. words_within y k g q)) (run y (drop p g))
      (λ v m. spelled_ext (λ q. words_within y (suc k) g q) (λ q. words_within y k g q) v (λ n. words-within_stable g k (arc y v) (s v m n)))

  module _ (g : Graph) where
    -- "Words from p: for each node of the run in order, its tile alone if it accepts; then, where its arc is not 0, its tile before
    -- each word from the arc."
    pub words-equation : (p : ℕ) → Clear y g p → words y g p ≡ in_order (spelled y (words y g)) (run y (drop p g))
    unfolding words words_within
    words-equation p c = sym (words-within_stable g (length g) p (clear-short y g p c))

    -- ---- and more turns than nodes give no more words
    short-more : (k p : ℕ) → Short y g k p → Short y g (suc k) p
    short-more zero p s = λ v m n. absurd (Memᴰ.not-nil (rw (no_run y g p s) at m))
    short-more (suc k) p s = λ v m n. short-more k (arc y v) (s v m n)

    short-by : (d k p : ℕ) → Short y g k p → Short y g (d + k) p
    short-by zero k p s = rw zero-add s
    short-by (suc d) k p s = rw suc-add (short-more (d + k) p (short-by d k p s))

    within_by : (d k p : ℕ) → Short y g k p → words_within y (d + k) g p ≡ words_within y k g p
    within_by zero k p s = rw zero-add
    within_by (suc d) k p s = rw suc-add (words-within_stable g (d + k) p (short-by d k p s) ∙ within_by d k p s)

    pub clear_within : (d p : ℕ) → Clear y g p → words_within y (d + length g) g p ≡ words y g p
    unfolding words
    clear_within d p c = within_by d (length g) p (clear-short y g p c)
