-- Where a node of a graph leads: to its arc where that is not 0, and to the next node where it is no end.
use mathlib.Core.Path.{◌≡◌, sym, ◌∙◌, subst}
use mathlib.Core.Bool.{false}
use mathlib.Core.Logic.{◌≢◌}
use mathlib.Core.List.{List}
use Prim.Native.Nat.{ℕ, ◌+◌, ◌<◌}
use native.Mathlib.Numerals.{add-one}
use lib.ListN.{length}
use Rattle.node.specs.Nodes.{kbwg, arc, is_end}
use Rattle.graph.specs.Runs.{Graph, node}
use Rattle.graph.specs.Loops.{Step, by-arc, by-run}
use Rattle.loops.specs.NodeMarks.{mark, done}

module _ (g : Graph) (p : ℕ) (p< : p < length g) where
  pub step-next : is_end kbwg (node g p) ≡ false → Step kbwg g p (p + 1)
  step-next e = rw add-one (by-run p< e)

  module _ (a : ℕ) (e : a ≡ arc kbwg (node g p)) where
    pub step-arc : a ≢ 0 → Step kbwg g p a
    step-arc n = rw e (by-arc p< (λ z. n (e ∙ z)))

    -- where both ways lead to a node that is done, every step does
    pub steps-done : (w : List ℕ) → (a ≢ 0 → mark w a ≡ done) → (is_end kbwg (node g p) ≡ false → mark w (p + 1) ≡ done)
        → (q : ℕ) → Step kbwg g p q → mark w q ≡ done
    steps-done w f h q (by-arc l n) = subst (λ k. mark w k ≡ done) e (f (λ z. n (sym e ∙ z)))
    steps-done w f h q (by-run l x) = rw add-one at (h x)
