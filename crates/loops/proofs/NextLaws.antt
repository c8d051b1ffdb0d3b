-- Which of the nodes that a node leads to has the lowest mark, by the marks along its arc and along its run.
use mathlib.Core.Path.{◌≡◌, sym, ◌∙◌, subst}
use mathlib.Core.Bool.{true, true≢false}
use mathlib.Core.Logic.{⊎_elim}
use mathlib.Core.List.{List}
use Prim.Native.Nat.{ℕ, ◌+◌, ◌≤◌, ◌<◌}
use native.Mathlib.Numerals.{add-one}
use native.Mathlib.Omega.{arith}
use lib.ListN.{length}
use Rattle.laws.specs.Cases.{split}
use Rattle.node.specs.Nodes.{kbwg, arc, is_end}
use Rattle.graph.specs.Runs.{Graph, node}
use Rattle.graph.specs.Loops.{Step, by-arc, by-run}
use Rattle.loops.specs.NodeMarks.{mark}
use Rattle.loops.specs.Search.{MarkIs, LowestNext}

module _
    (g : Graph) (w : List ℕ) (p : ℕ) (p< : p < length g) (a b : ℕ)
    (A : MarkIs w (arc kbwg (node g p) ≡ 0) (arc kbwg (node g p)) a) (B : MarkIs w (is_end kbwg (node g p) ≡ true) (p + 1) b) where
  -- what is at most both marks is at most the mark of each node that p leads to
  each : (m : ℕ) → m ≤ a → m ≤ b → (q : ℕ) → Step kbwg g p q → m ≤ mark w q
  each m x y q (by-arc h n) = ⊎_elim (λ v. absurd (n v.0)) (λ v. subst (λ k. m ≤ k) v.1 x) A
  each m x y q (by-run h e) = ⊎_elim (λ v. absurd (true≢false (sym v.0 ∙ e))) (λ v. rw add-one at (subst (λ k. m ≤ k) v.1 y)) B

  pub next_in_run : b < a → LowestNext g w p (record { node = p + 1; mark = b })
  next_in_run h =
      record {
        found = λ n. ⊎_elim
            (λ v. absurd (n v.1))
            (λ v. (rw add-one (by-run p< (split (is_end kbwg (node g p)) (λ t. absurd (v.0 t)) (λ f. f))), sym v.1)) B;
        least = each b (omega arith) (omega arith);
      }

  pub next-by-arc : (q : ℕ) → q ≡ arc kbwg (node g p) → a ≤ b → LowestNext g w p (record { node = q; mark = a })
  next-by-arc q e h =
      rw e (record {
        found = λ n. ⊎_elim (λ v. absurd (n v.1)) (λ v. (by-arc p< v.0, sym v.1)) A;
        least = each a (omega arith) h;
      })
