-- `build` meets its contract: a refusal of the checks leaves both lists, and past them only the part of the work list that is lent on changes.
use mathlib.Core.Path.{◌≡◌, sym, ◌∙◌}
use mathlib.Core.Bool.{false}
use mathlib.Core.List.{List}
use mathlib.Core.Option.{none}
use Prim.Native.Nat.{ℕ, ◌+◌, ◌*◌, ◌≤◌}
use borrow.Author.Tests.{ltb-false}
use lib.Dec.{ltb}
use lib.ListN.{length, take}
use lib.Seq.{length-take-le}
use Rattle.answers.specs.Answers.{first_of}
use Rattle.graph.specs.Lent.{work-walked, kept-part}
use Rattle.built.specs.Build.{build_checks}
use Rattle.built.specs.Listed.{words_listed}
use Rattle.built.proofs.ListedLaws.{listed-lexicon}
use Rattle.std.proofs.lemmas.Result.{err_from_is_err_and}
use Rattle.build.proofs.BuildLaws.{checks_refuse, checks-pass, list-refuses, work-short, work-enough}
use Rattle.build.proofs.build.Goals as goal
use Rattle.build.proofs.build.Goals.{Else-is_short}

pub returns-in_err-check_list-clause-built : goal.returns-in_err-check_list-clause-built
returns-in_err-check_list-clause-built c =
    let a = c.args in
    let p = err_from_is_err_and c.from_residual.result c.from_residual.ensures.1 in
    rw (p.1, p.2) (checks_refuse a.list.now (length a.work.now) a.nodes.now (list-refuses a.list.now (length a.work.now) a.nodes.now c.in_err-check_list.ensures))

pub returns-then-is_short-clause-built : goal.returns-then-is_short-clause-built
returns-then-is_short-clause-built c =
    let a = c.args in
    let e = work-short a.list.now (length a.work.now) a.nodes.now c.in_ok-check_list.ensures (sym c.is_short.ensures ∙ c.if-is_short.true) in
    checks_refuse a.list.now (length a.work.now) a.nodes.now e

-- past the checks: the part of the work list that is lent on
module _ (c : Else-is_short) where
  abbrev list : List ℕ
  list = c.args.list.now

  abbrev work : List ℕ
  work = c.args.work.now

  abbrev size : ℕ
  size = 8 * length list + 64

  pub enough : ltb (length work) (8 * length list + 64) ≡ false
  enough = sym c.is_short.ensures ∙ c.if-is_short.false

  pub passed : first_of (build_checks list (length work)) ≡ none
  passed = work-enough list (length work) c.args.nodes.now c.in_ok-check_list.ensures enough

  pub room : 8 * length list + 64 ≤ length work
  room = ltb-false _ _ enough

  pub part_length : length (take size work) ≡ size
  part_length = length-take-le size work room

pub build_words-requires-clause-lexicon : goal.build_words-requires-clause-lexicon
build_words-requires-clause-lexicon c =
    let l = listed-lexicon c.args.list.now c.in_ok-check_list.ensures in
    (words_listed c.args.list.now, l.0, l.1)

pub returns-clause-built : goal.returns-clause-built
returns-clause-built c =
    let k = (goal.at.returns-clause-built c).Else-is_short in
    let l = listed-lexicon (list k) c.in_ok-check_list.ensures in
    checks-pass (list k) (length (work k)) c.args.nodes.now (passed k) (c.build_words.ensures (words_listed (list k)) l.0 l.1)

pub returns-clause-free : goal.returns-clause-free
returns-clause-free c =
    let k = (goal.at.returns-clause-free c).Else-is_short in
    let part = c.build_words in
    work-walked (passed k) (kept-part (size k) (work k) part.new.work (room k) (part.auto.work ∙ part_length k))
