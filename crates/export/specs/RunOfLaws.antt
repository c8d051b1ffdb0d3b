-- The run from a node, by its first node and the rest.
use Rattle.std.specs.Prelude.{◌≡◌, Bool, true, false, ◌&&◌, ◌||◌, not, [], ◌∷◌, ℕ, suc, ◌+◌, ◌<◌, length, drop}
use Rattle.std.proofs.Common.{sym, ap, ◌∙◌, add-one, drop-cons}
use Rattle.laws.specs.Cases.{split}
use Rattle.laws.specs.Lists.{some_of}
use Rattle.node.specs.Nodes.{kbwg, is_end}
use Rattle.graph.specs.Runs.{Graph, node, run}
use Rattle.graph.specs.RunLaws.{run-last, run-next}
use Rattle.export.specs.Starts.{run_of}

module _ (g : Graph) (i : ℕ) (h : i < length g) where
  pub run_ends : is_end kbwg (node g i) ≡ true → run_of g i ≡ node g i ∷ []
  run_ends e = ap (run kbwg) (drop-cons g i 0 h) ∙ run-last kbwg (node g i) (drop (suc i) g) e

  pub run-goes-on : is_end kbwg (node g i) ≡ false → run_of g i ≡ node g i ∷ run_of g (i + 1)
  run-goes-on e =
      ap (run kbwg) (drop-cons g i 0 h) ∙ run-next kbwg (node g i) (drop (suc i) g) e ∙ ap (λ j. node g i ∷ run_of g j) (sym (add-one i))

  pub some-run : (f : ℕ → Bool) → some_of f (run_of g i) ≡ f (node g i) || (not (is_end kbwg (node g i)) && some_of f (run_of g (i + 1)))
  some-run f =
      split (is_end kbwg (node g i))
      (λ e. ap (some_of f) (run_ends e) ∙ ap (λ b. f (node g i) || (not b && some_of f (run_of g (i + 1)))) (sym e))
      (λ e. ap (some_of f) (run-goes-on e) ∙ ap (λ b. f (node g i) || (not b && some_of f (run_of g (i + 1)))) (sym e))
