-- `largest_arc` meets its contract: the largest so far and the nodes from here on give the largest of all.
use Rattle.std.proofs.Common.{◌≡◌, sym, ap, ◌∙◌, max, ◌+◌, length, arith}
use Rattle.std.proofs.Math.Nat.{zero-max}
use Rattle.node.specs.Nodes.{kbwg}
use Rattle.graph.specs.Runs.{largest_arc}
use Rattle.graph.proofs.AlongNodes.{largest_from, largest-next, largest-done}
use Rattle.graph.proofs.largest_arc.Goals as goal

pub loop-v-init : goal.loop-v-init
loop-v-init c = zero-max (largest_arc kbwg c.args.nodes.now)

pub loop-v-preserved : goal.loop-v-preserved
loop-v-preserved c =
    let l = c.loop-v in
    let nodes = c.args.nodes.now in
    let m = c.max-largest.ensures ∙ ap (max l.largest) c.arc_index.ensures in
    ap (λ n. largest_from kbwg n (l.v-index + 1) nodes) m ∙ largest-next kbwg l.largest l.v-index nodes c.loop-v-test.true ∙ l.invariant

pub returns : goal.returns
returns c =
    let l = c.loop-v in
    let nodes = c.args.nodes.now in
    let e : length nodes ≡ l.v-index = omega arith in
    sym (largest-done kbwg l.largest nodes) ∙ ap (λ k. largest_from kbwg l.largest k nodes) e ∙ l.invariant
