-- The chains and words of a run by those that its arcs lead to. The idea: what was found at the nodes passed, with what is left to pass,
-- gives the chains and words of the whole run at every node of it.
use mathlib.Core.Path.{◌≡◌, sym, ap, ◌∙◌}
use mathlib.Core.Bool.{true}
use mathlib.Core.List.{List, [], ◌∷◌, map}
use Prim.Native.Nat.{ℕ, zero, suc, ◌+◌, ◌≤◌, min, max}
use native.Mathlib.Omega.{arith}
use lib.Dec.{eqb}
use lib.ListN.{length, length-append}
use borrow.Author.Tests.{ltb-false}
use Rattle.laws.specs.Cases.{split}
use Rattle.laws.specs.Lists.{filtered}
use Rattle.base.specs.Numbers.{flag, most}
use Rattle.node.specs.Nodes.{kbwg, arc, accepts}
use Rattle.graph.specs.Runs.{Graph}
use Rattle.graph.specs.Words.{Word, in_order, spelled, words_within}
use Rattle.graph.specs.CountLaws.{by_arc}
use Rattle.graph.proofs.CountEquationLaws.{length-spelled}
use Rattle.export.specs.Starts.{run_of, has_arc}
use Rattle.survey.specs.ByArc.{counted-by-arc}
use Rattle.block_record.specs.Depths.{Deepest}
use Rattle.block_record.specs.DepthsLaws.{deepest-none, deepest-next, deepest-all}
use Rattle.survey.specs.RunCounted.{RunCounted}

-- a number capped on its way into a sum that is capped in the end
capped : (words own arcs child rest : ℕ) → child ≡ min arcs most
    → min (min (words + min (own + child) most) most + rest) most ≡ min (words + (own + arcs + rest)) most
capped words own arcs child rest e = omega arith

module _ (g : Graph) where
  -- ---- along the nodes of a run
  -- with the nodes vs of p's run left to pass, the longest chain and the words found so far give those from p
  pub record Passing (p runs words : ℕ) (vs : List ℕ) : Type 0 where
    pub deepest : Deepest g p runs (map (arc kbwg) (filtered has_arc vs))
    pub words_are : (k : ℕ) → runs ≤ k
        → min (words + length (in_order (spelled kbwg (λ q. words_within kbwg k g q)) vs)) most ≡ min (length (words_within kbwg (suc k) g p)) most
    pub fits : words ≤ most

  pub passing-starts : (p : ℕ) → Passing p 0 0 (run_of g p)
  unfolding words_within
  passing-starts p =
      record {
        deepest = deepest-none g p (map (arc kbwg) (filtered has_arc (run_of g p))) (λ q m. m) (λ q m. m);
        words_are = λ k h. omega arith;
        fits = omega arith;
      }

  module _ {p runs words v : ℕ} {vs : List ℕ} {d y : ℕ} (a : Passing p runs words (v ∷ vs)) (c : RunCounted g (has_arc v) (arc kbwg v) d y) where
    deepest-node : Deepest g p (max runs d) (map (arc kbwg) (filtered has_arc vs))
    deepest-node =
        split (eqb (arc kbwg v) 0)
        (λ z.
        let n = ltb-false 0 d (sym (rw z at (c.depth 0))) in
        let e : max runs d ≡ runs = omega arith in
        rw e (rw (z, filtered) at a.deepest))
        (λ z. deepest-next g p runs d (arc kbwg v) (map (arc kbwg) (filtered has_arc vs)) (rw z at c.depth) (rw (z, filtered) at a.deepest))

    words-node : (k : ℕ) → max runs d ≤ k
        → min (min (words + min (flag (accepts kbwg v) + y) most) most + length (in_order (spelled kbwg (λ q. words_within kbwg k g q)) vs)) most
        ≡ min (length (words_within kbwg (suc k) g p)) most
    unfolding in_order
    words-node k h =
        let f : ℕ → List Word = λ q. words_within kbwg k g q in
        let l = length-append (spelled kbwg f v) (in_order (spelled kbwg f) vs) in
        let s = length-spelled kbwg f v in
        let child : y ≡ min (by_arc kbwg (λ q. length (f q)) v) most =
        c.words_are k (omega arith) ∙ ap (λ x. min x most) (sym (counted-by-arc (λ q. length (f q)) v)) in
        capped words (flag (accepts kbwg v)) (by_arc kbwg (λ q. length (f q)) v) y (length (in_order (spelled kbwg f) vs)) child
        ∙ ap (λ x. min (words + x) most) (omega arith) ∙ a.words_are k (omega arith)

    pub passing-node : Passing p (max runs d) (min (words + min (flag (accepts kbwg v) + y) most) most) vs
    passing-node = record { deepest = deepest-node; words_are = words-node; fits = omega arith }

  pub passing-all : {p runs words : ℕ} → Passing p runs words [] → RunCounted g true p (runs + 1) words
  unfolding in_order
  passing-all {p} {runs} {words} a = record { depth = deepest-all g p runs a.deepest; words_are = words_are }
    where
      words_are : (k : ℕ) → runs + 1 ≤ k → words ≡ min (length (words_within kbwg k g p)) most
      words_are zero h = absurd (omega arith)
      words_are (suc k) h = let x = a.words_are k (omega arith) in let f = a.fits in omega arith
