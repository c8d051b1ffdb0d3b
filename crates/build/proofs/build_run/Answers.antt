-- `build_run` meets its contract: numbering begins with a record that holds no run, what it places is the graph of the number, and the nodes are
-- written from the record that it leaves.
use native.Mathlib.Omega.{arith}
use mathlib.Core.Path.{◌≡◌, refl, sym, ap, ◌∙◌}
use mathlib.Core.Bool.{true, false}
use mathlib.Core.List.{List, [], ◌∷◌, ◌++◌}
use Rattle.std.specs.Prelude.{Option, Some, None, Err}
use Rattle.laws.specs.Cleared.{cleared}
use Rattle.build.specs.declared.BuildRefusal.TheVariants as why
use Prim.Native.Nat.{ℕ, ◌+◌, ◌≤◌}
use lib.ListN.{length, take, drop}
use lib.Seq.{sets, length-take-le}
use Rattle.laws.specs.ListWrites.{sets_append}
use Rattle.block_record.specs.Record.{blocks_in}
use Rattle.block_record.specs.declared.BlockTally.{BlockTally}
use Rattle.built.specs.Built.{node_of}
use Rattle.shelf.specs.Shelf.{Shelf, numbers_met, numbered_graph}
use Rattle.tails.specs.Tails.{TailsIn}
use Rattle.tails.specs.TailsLaws.{tails-kept}
use Rattle.build.specs.Numbering.{most_nodes, NumbersRuns, RunsNumberedAs}
use Rattle.build.specs.Writing.{order_nodes, WritesFrom}
use Rattle.build.specs.Said.{IsRoot}
use Rattle.build.proofs.GraphLaws.{graph-length, root-new, none-recorded, none_seen, placed-length, nodes-written, writes}
use Rattle.build.proofs.BuildLaws.{none_refused, too_many, too_short, all-written}
use Rattle.std.proofs.lemmas.Result.{err_from_is_err_and}
use Rattle.build.proofs.build_run.Goals as goal
use Rattle.build.proofs.build_run.Goals.{After-fill, After-number_run, Start}

-- where the record is cleared
module _ (c : After-fill) where
  abbrev s : Start
  s = (goal.at.After-fill c).Start

  abbrev n : ℕ
  n = s.args.n

  abbrev lent : List ℕ
  lent = s.args.nodes.now

  abbrev empty : List ℕ
  empty = c.fill.new.self ++ drop n s.args.work.now

  pub is-clear : empty ≡ cleared n s.args.work.now
  is-clear =
      let t = s.requires.1.tails in
      let size : length (take n s.args.work.now) ≡ n = length-take-le n s.args.work.now (omega (arith, t.room)) in
      ap (λ l. l ++ drop n s.args.work.now) (rw size at (c.fill.ensures.after (λ y e. e)))

pub number_run-requires-clause-numberable : goal.number_run-requires-clause-numberable
number_run-requires-clause-numberable c =
    let k = (goal.at.number_run-requires-clause-numberable c).After-fill in
    let r = (s k).requires.1 in
    (((s k).requires.0, none-recorded r (is-clear k) refl refl, r.known), r.some)

pub number_run-requires-clause-i_value : goal.number_run-requires-clause-i_value
number_run-requires-clause-i_value c = let k = (goal.at.number_run-requires-clause-i_value c).After-fill in root-new (s k).requires.1 (is-clear k) refl refl

-- where the runs are numbered
module _ (c : After-number_run) where
  abbrev clearing : After-fill
  clearing = (goal.at.After-number_run c).After-fill

  abbrev work : List ℕ
  work = c.number_run.new.work

  module _ (sh : Shelf) (r : IsRoot sh (n clearing) (s clearing).args.work.now (s clearing).args.root) where
    pub answers : (a : Option BlockTally) → c.number_run.result ≡ a → RunsNumberedAs sh (n clearing) (empty clearing) work (numbers_met sh (s clearing).args.root) a
    answers a e =
        rw (← none_seen r (is-clear clearing) refl refl, ← e) (c.number_run.ensures sh (none-recorded r (is-clear clearing) refl refl) r.known)

pub returns-in_err-tally : goal.returns-in_err-tally
returns-in_err-tally c = λ sh r.
    let k = (goal.at.returns-in_err-tally c).After-number_run in
    let e = c.in_err-tally.ensures in
    let is : c.from_residual.result ≡ Err why.TooManyNodes =
    none_refused (rw e.ok_part at e.value) (err_from_is_err_and c.from_residual.result c.from_residual.ensures.1) in
    rw is (too_many (numbered_graph sh c.args.root) c.args.nodes.now (let l = graph-length r in omega (arith, answers k sh r None e.ok_part)))

-- where they have their places
module _ (c : After-number_run) (tally : BlockTally) (is : c.number_run.result ≡ Some tally) where
  abbrev base : After-fill
  base = clearing c

  module _ (sh : Shelf) (r : IsRoot sh (n base) (s base).args.work.now (s base).args.root) where
    pub numbered : NumbersRuns sh (n base) (empty base) (work c) tally (numbers_met sh (s base).args.root)
    numbered = answers c sh r (Some tally) is

    abbrev g : List ℕ
    g = numbered_graph sh (s base).args.root

    pub size : tally.nodes ≡ length g
    size = placed-length r numbered.placed

    pub few : length g ≤ most_nodes
    few = let a = size in let b = numbered.placed.within in omega arith

    pub tails : TailsIn (n base) (work c) sh
    tails = tails-kept numbered.tails c.number_run.auto.work (none-recorded r (is-clear base) refl refl).tails

    pub writing : WritesFrom sh (n base) (work c) tally.blocks
    writing = writes r numbered.placed tails

    pub two-more : length g ≡ 2 + length (order_nodes sh (work c) (blocks_in (n base) (work c) tally.blocks))
    two-more = let l = ap length (nodes-written r numbered.placed) in omega arith

pub returns-then-nodes-tally : goal.returns-then-nodes-tally
returns-then-nodes-tally c = λ sh r.
    let k = (goal.at.returns-then-nodes-tally c).After-number_run in
    let t = c.in_ok-tally in
    let a = size k t.tally t.ensures.ok_part sh r in
    too_short (g k t.tally t.ensures.ok_part sh r) c.args.nodes.now (few k t.tally t.ensures.ok_part sh r) (omega (arith, c.if-nodes-tally.true))

pub write_roots-requires : goal.write_roots-requires
write_roots-requires c =
    let k = (goal.at.write_roots-requires c).After-number_run in
    let t = c.in_ok-tally in
    let own = c.requires in
    let a = size k t.tally t.ensures.ok_part own.0 own.1 in
    let b = two-more k t.tally t.ensures.ok_part own.0 own.1 in
    (omega (arith, c.if-nodes-tally.false), omega arith)

pub write_runs-requires : goal.write_runs-requires
write_runs-requires c =
    let k = (goal.at.write_runs-requires c).After-number_run in
    let t = c.in_ok-tally in
    let own = c.requires in
    let a = size k t.tally t.ensures.ok_part own.0 own.1 in
    let b = two-more k t.tally t.ensures.ok_part own.0 own.1 in
    let f = few k t.tally t.ensures.ok_part own.0 own.1 in
    (own.0, writing k t.tally t.ensures.ok_part own.0 own.1, omega (arith, c.write_roots.auto.nodes, c.if-nodes-tally.false), omega arith)

pub returns : goal.returns
returns c = λ sh r.
    let k = (goal.at.returns c).After-number_run in
    let t = c.in_ok-tally in
    let placed = numbered k t.tally t.ensures.ok_part sh r in
    let nodes = c.args.nodes.now in
    let order = order_nodes sh (work k) (blocks_in c.args.n (work k) t.tally.blocks) in
    let all = c.write_runs.ensures sh (writing k t.tally t.ensures.ok_part sh r) ∙ ap (λ (l : List ℕ). sets l 2 order) c.write_roots.ensures
    ∙ sym (sets_append nodes 0 (node_of 0 false true 2 ∷ node_of 0 false true 0 ∷ []) order)
    ∙ ap (sets nodes 0) (sym (nodes-written r placed.placed)) in
    let a = size k t.tally t.ensures.ok_part sh r in
    all-written (g k t.tally t.ensures.ok_part sh r) nodes (few k t.tally t.ensures.ok_part sh r) t.tally.nodes a (omega (arith, c.if-nodes-tally.false)) all
