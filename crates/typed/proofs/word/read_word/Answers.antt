-- `word::read_word` meets its contract: each label's tile is put, and the walk from the place after it answers for the whole line.
use Rattle.std.proofs.Common.{◌≡◌, ℕ, List, ◌+◌, ◌≤◌, sym, subst, arith, length, drop, length-drop}
use Rattle.std.proofs.Math.Option.{some}
use Rattle.laws.specs.Buffers.{Filled}
use Rattle.label_index.specs.Labels.{Label, labels_in}
use Rattle.label_index.specs.Matches.{Match, match_in}
use Rattle.label_index.specs.MatchLaws.{Match-takes}
use Rattle.typed.specs.Words.{tile_there, typed_step}
use Rattle.typed.specs.WordLaws.{step_past, step_label, step-none}
use Rattle.typed.proofs.WordBuffer.{by_end, by-full, by-label}
use Rattle.typed.proofs.word.read_word.Goals as goal
use Rattle.typed.proofs.word.read_word.Goals.{In-Some, Start}

-- the labels, and the line
module _ (s : Start) where
  abbrev ls : List Label
  ls = labels_in s.args.index.now.file.now

  abbrev line : List ℕ
  line = s.args.line.now

-- a label is found
module _ (c : In-Some) where
  abbrev given : Start
  given = (goal.at.In-Some c).Start

  abbrev i : ℕ
  i = c.loop-i.i

  abbrev found : Match
  found = (c.in-Some.tile, c.in-Some.size)

  is_found : match_in (ls given) (drop i (line given)) ≡ some found
  is_found = sym c.in-Some.ensures

  takes : (1 ≤ c.in-Some.size) × (i + c.in-Some.size ≤ length (line given))
  takes =
      let r = Match-takes given.args.index.now.file.now (drop i (line given)) found is_found in
      let a = r.0 in let b = r.1 in
      let t = c.loop-i-test.true in (omega arith, omega (arith, length-drop i (line given)))

  puts : typed_step (ls given) (line given) given.args.start c.loop-i.n i ≡ tile_there c.in-Some.tile (i + c.in-Some.size)
  puts = step_label (ls given) (line given) given.args.start c.loop-i.n i found c.loop-i-test.true is_found

pub returns-in_default : goal.returns-in_default
returns-in_default c =
    let s = (goal.at.returns-in_default c).Start in
    subst (Filled _ _ _) (sym c.at_no_label.ensures)
    (by_end (ls s) (line s) s.args.start c.loop-i.i c.loop-i.invariant.1 _
    (step-none (ls s) (line s) s.args.start c.loop-i.n c.loop-i.i c.loop-i-test.true (sym c.in_default.ensures)))

pub returns-then-word-n : goal.returns-then-word-n
returns-then-word-n c =
    let f = (goal.at.returns-then-word-n c).In-Some in
    by-full (ls (given f)) (line (given f)) (given f).args.start (i f) f.loop-i.invariant.1 _ _ (puts f) c.if-word-n.true

pub overflow_add-i : goal.overflow_add-i
overflow_add-i c = omega (arith, (takes (goal.at.overflow_add-i c).In-Some).1)

pub loop-i-smaller : goal.loop-i-smaller
loop-i-smaller c = let t = takes (goal.at.loop-i-smaller c).In-Some in let p = t.0 in let q = t.1 in omega arith

pub loop-i-preserved : goal.loop-i-preserved
loop-i-preserved c =
    let f = (goal.at.loop-i-preserved c).In-Some in
    ((takes f).1, by-label (ls (given f)) (line (given f)) (given f).args.start (i f) f.loop-i.invariant.1 _ _ (puts f) c.if-word-n.false)

pub returns : goal.returns
returns c =
    let s = (goal.at.returns c).Start in
    by_end (ls s) (line s) s.args.start c.loop-i.i c.loop-i.invariant.1 _ (step_past (ls s) (line s) s.args.start c.loop-i.n c.loop-i.i c.loop-i-test.false)
