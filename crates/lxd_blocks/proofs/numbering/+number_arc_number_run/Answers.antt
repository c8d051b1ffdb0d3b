-- `number_arc` and `number_run` meet their contracts: what an arc and a run meet is held and counted, or a chain is too long, or too much is
-- met. The chain left falls from the one to the other and back.
use Rattle.std.proofs.Common.{◌≡◌, ◌-◌, suc, ◌<◌, ◌∙◌, sym, ap, subst, length, not, ne_eqb, arith}
use Rattle.std.proofs.lemmas.Result.{err_from_is_err_and}
use Rattle.graph.specs.ChecksLaws.{fit-holds}
use Rattle.export.specs.ChainLaws.{deep-at-once}
use Rattle.block_record.specs.RecordLaws.{place-some}
use Rattle.block_record.specs.Depths.{Below}
use Rattle.lxd_blocks.proofs.NumberingLaws.{blocks-left, arc-none-numbered, known-run, arc-run, run_over}
use Rattle.lxd_blocks.proofs.NumberingLaws.{along-starts, along-here, along-on, along-last, along-recorded, along-inside, along-below, along-refused, along-goes, along-ends}
use Rattle.lxd_blocks.proofs.numbering.+number_arc_number_run.Goals as goal

pub number_arc-returns-then-child-eq0 : goal.number_arc-returns-then-child-eq0
number_arc-returns-then-child-eq0 t c =
    arc-none-numbered _ c.requires.runs_recorded _ c.args.node (sym c.arc_index-child.ensures ∙ c.if-child-eq0.true)

pub number_arc-returns-in_default : goal.number_arc-returns-in_default
number_arc-returns-in_default t c = arc-run _ _ _ _ _ c.args.node _ c.arc_index-child.ensures c.if-child-eq0.false c.number_run.ensures

pub number_arc-returns : goal.number_arc-returns
number_arc-returns t c =
    let child = c.arc_index-child.ensures in
    let inside : c.arc_index-child.result < length c.args.g.nodes.now = omega (arith, c.requires.node_in_bounds) in
    let some = place-some c.args.work.now c.arc_index-child.result _ (sym c.in-Numbered.ensures) in
    let below = subst (Below c.args.g.nodes.now c.args.work.now) (sym child)
    (c.requires.below (ap not (ne_eqb _ _ (λ z. c.if-child-eq0.false (child ∙ z))))) in
    arc-run _ _ _ _ _ c.args.node _ child c.if-child-eq0.false
    (known-run _ c.requires.runs_recorded c.args.chain_left c.arc_index-child.result inside some below c.look_up.ensures)

pub number_run-returns-then-chain_left-eq0 : goal.number_run-returns-then-chain_left-eq0
number_run-returns-then-chain_left-eq0 t c = deep-at-once _ _ _ c.if-chain_left-eq0.true

pub number_run-returns-then-t-size : goal.number_run-returns-then-t-size
number_run-returns-then-t-size t c =
    run_over _ c.requires.runs_recorded.held c.args.p c.requires.p_in_bounds c.requires.p_value c.args.chain_left c.if-chain_left-eq0.false
    (rw c.run_length-size.ensures at c.if-t-size.true)

pub number_run-push_block-pushed-requires : goal.number_run-push_block-pushed-requires
number_run-push_block-pushed-requires t c =
    let r = c.requires.runs_recorded in
    let most = (fit-holds c.args.g.nodes.now c.args.g.fit).most in
    let few = blocks-left _ r.held c.args.p c.requires.p_in_bounds c.requires.p_value in
    let within = r.held.within in
    let fits = c.if-t-size.false in
    (most, omega arith, c.requires.p_in_bounds, few, omega arith, omega arith)

pub number_run-loop-child-init : goal.number_run-loop-child-init
number_run-loop-child-init t c =
    let q = c.requires in (
      q.p_in_bounds,
      along-starts _ c.args.p q.runs_recorded q.p_in_bounds q.p_value c.if-chain_left-eq0.false
          c.run_length-size.ensures c.if-t-size.false c.push_block-pushed.ensures c.keep_depth.ensures,
    )

pub number_run-number_arc-requires : goal.number_run-number_arc-requires
number_run-number_arc-requires t c =
    let i = c.loop-child.invariant in
    let k = (along-here _ c.loop-child.at i.0 i.1).1 in (
      omega arith,
      (
        along-recorded _ k c.requires.runs_recorded.room,
        (along-inside _ k (fit-holds c.args.g.nodes.now c.args.g.fit).steps c.requires.p_in_bounds, along-below _ k c.requires.below),
      ),
    )

pub number_run-returns-in_err-child : goal.number_run-returns-in_err-child
number_run-returns-in_err-child t c =
    let e = err_from_is_err_and c.from_residual.result c.from_residual.ensures.1 in
    let i = c.loop-child.invariant in
    let k = (along-here _ c.loop-child.at i.0 i.1).1 in
    rw (e.1, e.2) (along-refused _ k c.number_arc.new.work c.in_err-child.field-0.0 (omega arith) c.in_err-child.ensures)

pub number_run-loop-child-preserved : goal.number_run-loop-child-preserved
number_run-loop-child-preserved t c =
    let i = c.loop-child.invariant in
    let on = sym c.if-is_end.ensures in
    let next = (fit-holds c.args.g.nodes.now c.args.g.fit).steps.runs c.loop-child.at i.0 on in (
      omega arith,
      along-goes _ (along-on _ c.loop-child.at i.0 i.1 on) c.in_ok-child.ensures c.pass_node-sum.ensures c.number_arc.auto.work,
    )

pub number_run-returns : goal.number_run-returns
number_run-returns t c =
    let i = c.loop-child.invariant in
    let k = along-goes _ (along-last _ c.loop-child.at i.0 i.1 (sym c.if-is_end.ensures)) c.in_ok-child.ensures c.pass_node-sum.ensures c.number_arc.auto.work in
    let room = c.requires.runs_recorded.room in
    let turns : suc (c.args.chain_left - 1) ≡ c.args.chain_left = omega arith in
    along-ends _ k c.requires.p_in_bounds (omega (arith, k.size)) turns c.close_run.ensures
