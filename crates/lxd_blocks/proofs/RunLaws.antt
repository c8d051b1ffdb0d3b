-- A run by its first node, and its size.
use Rattle.std.proofs.Common.{◌≡◌, ap, true, false, List, [], ◌∷◌, ℕ, suc, ◌+◌, ◌<◌, length}
use Rattle.laws.specs.Cases.{split}
use Rattle.node.specs.Nodes.{kbwg, is_end}
use Rattle.graph.specs.Runs.{Graph, node}
use Rattle.export.specs.Starts.{run_of}
use Rattle.export.specs.RunOfLaws.{run_ends, run-goes-on}
use Rattle.lxd_file.specs.File.{run_size}

module _ (g : Graph) (p : ℕ) (inside : p < length g) where
  pub run-first : (vs : List ℕ) × (run_of g p ≡ node g p ∷ vs)
  run-first = split (is_end kbwg (node g p)) (λ e. ([], run_ends g p inside e)) (λ e. (run_of g (p + 1), run-goes-on g p inside e))

  pub size-last : is_end kbwg (node g p) ≡ true → run_size g p ≡ 1
  size-last e = ap length (run_ends g p inside e)

  pub size-more : is_end kbwg (node g p) ≡ false → run_size g p ≡ suc (run_size g (p + 1))
  size-more e = ap length (run-goes-on g p inside e)
