-- `last_unknown` meets its contract: no node passed ends the run, so there is always a node after it.
use mathlib.Core.Path.{◌≡◌}
use mathlib.Core.Bool.{false}
use Prim.Native.Nat.{ℕ, ◌-◌, ◌≤◌, ◌<◌}
use lib.ListN.{length}
use Rattle.node.specs.Nodes.{kbwg, is_end}
use Rattle.graph.specs.Runs.{node}
use Rattle.survey.proofs.last_unknown.Given as goal

abbrev pub invariant-loop-at : goal.invariant-loop-at
invariant-loop-at l =
    (l.p ≤ l.at) × (l.at < length l.g.nodes.now) × ((j : ℕ) → l.p ≤ j → j < l.at → is_end kbwg (node l.g.nodes.now j) ≡ false)

abbrev pub decreases-loop-at : goal.decreases-loop-at
decreases-loop-at l = length l.g.nodes.now - l.at
