-- Where no node lacks a label, each node's tile has one.
use Rattle.std.specs.Prelude.{◌≡◌, false, ℕ, ◌<◌, length}
use mathlib.Core.List.{List, Memᴰ}
use Rattle.std.proofs.Common.{leb-false}
use Rattle.laws.specs.Members.{at_in, none_of}
use Rattle.node.specs.Nodes.{kbwg, tile}
use Rattle.graph.specs.Runs.{Graph, node}
use Rattle.export.specs.Starts.{unlabelled}

pub labelled_in : (g : Graph) (labels : List ℕ) → unlabelled g labels ≡ false → (v : ℕ) → Memᴰ v g → tile kbwg v < length labels
labelled_in g labels e v m = leb-false _ _ (none_of _ g e v m)

pub labelled-at : (g : Graph) (labels : List ℕ) → unlabelled g labels ≡ false → (p : ℕ) → p < length g → tile kbwg (node g p) < length labels
labelled-at g labels e p h = labelled_in g labels e (node g p) (at_in g p 0 h)
