-- `compute_letter_bits` meets its contract.
use Rattle.std.proofs.Common.{[], true, sym, ap, ap₂, ◌∙◌, ◌-◌, arith}
use Rattle.answers.specs.Answers.{gives}
use Rattle.node.specs.Nodes.{kbwg, tile}
use Rattle.graph.specs.Runs.{node}
use Rattle.laws.specs.BitSets.{marked}
use Rattle.letters.proofs.RunFilling.{filling_start, filling_step, filling_done, long-enough}
use Rattle.letters.proofs.letter_bits.compute_letter_bits.Goals as goal

pub loop-i-init : goal.loop-i-init
loop-i-init c = record { all = filling_start; accepting = filling_start }

pub loop-i-preserved : goal.loop-i-preserved
loop-i-preserved c =
    let l = c.loop-i in
    let t = tile kbwg (node c.args.nodes.now (l.i - 1)) in
    record {
      all = filling_step l.invariant.all _ (omega arith) (omega arith) (c.marked-all.ensures ∙ ap (λ s. marked s t true) c.carry.ensures);
      accepting = filling_step l.invariant.accepting _ (omega arith) (omega arith)
          (c.marked-accepting.ensures ∙ ap₂ (λ s. marked s t) c.carry-in-loop-i.ensures c.accepts.ensures);
    }

pub returns : goal.returns
returns c =
    let l = c.loop-i in
    let h = c.if-letter_bits-nodes.false in
    let k = c.if-accepting_bits-nodes.false in
    let all = filling_done l.invariant.all c.loop-i-test.false h in
    let accepting = filling_done l.invariant.accepting c.loop-i-test.false k in
    (λ i. record { answer = gives []; all = all i; accepting = accepting i }) ∙ sym (long-enough _ _ _ h k)
