-- `number_arc` and `number_run` meet their contracts: the chain left falls with each run; what the arcs still to come lead to, met after
-- what is numbered, is what is met from the block; and the longest chain from it is one run longer than from what its arcs lead to.
use Rattle.std.specs.Prelude.{◌≡◌, ◌≢◌, true, ℕ, ◌+◌, ◌≤◌, ◌<◌, length, get_or}
use Rattle.std.proofs.Common.{sym, ap, subst, ⊎_elim, arith}
use Rattle.std.proofs.lemmas.Result.{err_from_is_err_and}
use mathlib.Core.List.{Memᴰ}
use Rattle.export.specs.Starts.{arcs_from, deeper}
use Rattle.export.specs.ChainLaws.{arcs-inside, deep-at-once}
use Rattle.block_record.specs.RecordLaws.{place-some}
use Rattle.macondo_blocks.specs.ArcsLaws.{child-held}
use Rattle.macondo_blocks.specs.Blocks.{BlocksReached}
use Rattle.macondo_blocks.proofs.BlockNumberingLaws.{followed-deep, known-deep, known-reaches, push-fits, BlockOpened, opens}
use Rattle.macondo_blocks.proofs.BlockNumberingLaws.{arc-walk-start, walk-recorded, walk-next, walk-below, walk-deep, walk-done}
use Rattle.macondo_blocks.proofs.blocks.+number_arc_number_run.Goals as goal
use Rattle.macondo_blocks.proofs.blocks.+number_arc_number_run.Goals.{number_arc-After-depth_of-runs, number_run-After-keep_depth, number_run-After-arc_index-child}

-- ---- a child that is numbered, and what is kept of its depth
module _ {t : ℕ} (c : number_arc-After-depth_of-runs t) where
  numbered : get_or c.args.work.now c.args.child 0 ≢ 0
  numbered = place-some c.args.work.now c.args.child _ (sym c.in-Numbered.ensures)

  loops : c.depth_of-runs.result ≡ 0 → deeper c.args.g.now.nodes.now c.args.chain_left c.args.child ≡ true
  loops =
      followed-deep c.requires.blocks_recorded c.args.child c.requires.child_in_bounds.0 numbered c.args.chain_left c.depth_of-runs.result c.depth_of-runs.ensures
      c.requires.child_in_bounds.1

  module _ (known : c.depth_of-runs.result ≢ 0) where
    too-deep : c.args.chain_left < c.depth_of-runs.result → deeper c.args.g.now.nodes.now c.args.chain_left c.args.child ≡ true
    too-deep =
        known-deep c.requires.blocks_recorded c.args.child c.requires.child_in_bounds.0 numbered c.args.chain_left c.depth_of-runs.result c.depth_of-runs.ensures known

    reaches : c.depth_of-runs.result ≤ c.args.chain_left
        → BlocksReached c.args.g.now.nodes.now c.args.g.now.labels.now c.args.work.now c.args.t c.args.chain_left
        c.args.child c.args.work.now (record { tally = c.args.t; runs = c.depth_of-runs.result })
    reaches =
        known-reaches c.requires.blocks_recorded c.args.child c.requires.child_in_bounds.0 numbered c.args.chain_left c.depth_of-runs.result c.depth_of-runs.ensures
        known

pub number_arc-returns-then-runs-eq0 : goal.number_arc-returns-then-runs-eq0
number_arc-returns-then-runs-eq0 t c =
    let p = (goal.at.number_arc-returns-then-runs-eq0 t c).After-depth_of-runs in
    ⊎_elim (loops p) (λ w. too-deep p w.0 w.1) c.then-runs-eq0.either

pub number_arc-returns : goal.number_arc-returns
number_arc-returns t c = reaches (goal.at.number_arc-returns t c).After-depth_of-runs (λ z. omega (arith, z)) (omega arith)

-- ---- a block: it is numbered, and followed
module _ {t : ℕ} (c : number_run-After-keep_depth t) where
  opened : BlockOpened c.args.g.now.nodes.now c.args.g.now.labels.now c.args.work.now c.args.t c.args.p c.keep_depth.new.work c.push_block-sum.result
  opened =
      let m = ap length c.arcs_in-arcs.ensures.1 in
      opens c.requires.blocks_recorded c.args.p c.requires.p_in_bounds.0 c.requires.p_value c.push_block-sum.new.work c.keep_depth.new.work c.push_block-sum.result
      (length c.arcs_in-arcs.result.now + 1) (omega arith) c.push_block-sum.ensures c.keep_depth.ensures

-- a turn of the loop: the arc is one of the block's
module _ {t : ℕ} (c : number_run-After-arc_index-child t) where
  turn-arc : Memᴰ c.arc_index-child.result (arcs_from c.args.g.now.nodes.now c.args.p)
  turn-arc =
      subst (λ (q : ℕ). Memᴰ q (arcs_from c.args.g.now.nodes.now c.args.p)) (sym c.arc_index-child.ensures)
      (child-held c.args.g.now.nodes.now c.args.g.now.labels.now c.args.p _ c.arcs_in-arcs.ensures.1 c.loop-arc.arc-index c.loop-arc-test.true)

pub number_run-returns-then-chain_left-eq0 : goal.number_run-returns-then-chain_left-eq0
number_run-returns-then-chain_left-eq0 t c = deep-at-once c.args.g.now.nodes.now c.args.p c.args.chain_left c.if-chain_left-eq0.true

pub number_run-push_block-sum-requires : goal.number_run-push_block-sum-requires
number_run-push_block-sum-requires t c =
    push-fits c.requires.blocks_recorded c.args.p c.requires.p_in_bounds.0 c.requires.p_value c.args.g.now.ready (length c.arcs_in-arcs.result.now + 1) (omega (arith, c.arcs_in-arcs.ensures.0))

pub number_run-loop-arc-init : goal.number_run-loop-arc-init
number_run-loop-arc-init t c = arc-walk-start (opened (goal.at.number_run-loop-arc-init t c).After-keep_depth) c.arcs_in-arcs.ensures.1

pub number_run-number_arc-requires : goal.number_run-number_arc-requires
number_run-number_arc-requires t c =
    let p = (goal.at.number_run-number_arc-requires t c).After-keep_depth in
    let arc = turn-arc (goal.at.number_run-number_arc-requires t c).After-arc_index-child in (
      omega (arith, c.decreases, c.if-chain_left-eq0.false),
      (
        walk-recorded c.loop-arc.invariant (omega (arith, c.keep_depth.auto.work, c.push_block-sum.auto.work, c.requires.blocks_recorded.room)),
        (
          arcs-inside c.args.g.now.nodes.now c.args.g.now.ready.fit.steps c.args.p c.arc_index-child.result arc,
          walk-below c.loop-arc.invariant (opened p) c.requires.p_in_bounds.1 c.arc_index-child.result arc,
        ),
      ),
    )

pub number_run-returns-in_err-reached : goal.number_run-returns-in_err-reached
number_run-returns-in_err-reached t c =
    let arc = turn-arc (goal.at.number_run-returns-in_err-reached t c).After-arc_index-child in
    let e = err_from_is_err_and c.from_residual.result c.from_residual.ensures.1 in
    rw e.1 (walk-deep c.args.g.now.nodes.now c.args.chain_left c.args.p c.if-chain_left-eq0.false c.arc_index-child.result arc c.in_err-reached.ensures)

pub number_run-loop-arc-preserved : goal.number_run-loop-arc-preserved
number_run-loop-arc-preserved t c =
    walk-next c.loop-arc.invariant c.arc_index-child.result c.loop-arc-test.true c.arc_index-child.ensures c.number_arc.new.work c.in_ok-reached.reached
    c.max-runs.result c.max-runs.ensures c.in_ok-reached.ensures

pub number_run-returns : goal.number_run-returns
number_run-returns t c =
    -- all are walked, and the block's depth is kept
    walk-done c.loop-arc.invariant (opened (goal.at.number_run-returns t c).After-keep_depth) c.requires.blocks_recorded c.requires.p_in_bounds.0 c.requires.p_value
    c.if-chain_left-eq0.false c.arcs_in-arcs.ensures.1 c.loop-arc-test.false c.keep_depth-2.new.work c.keep_depth-2.ensures
