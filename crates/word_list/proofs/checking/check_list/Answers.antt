-- `checking::check_list` meets its contract: the words passed refuse nothing, and the rows of the bytes left answer for the list.
use Rattle.std.proofs.Common.{rules, tests, ◌≡◌, ◌∙◌, sym, ap, ◌<◌, length, Err, Result}
use Rattle.std.proofs.lemmas.Result.{err_from_is_err_and}
use Rattle.word_list.specs.declared.checking.ListRefusal.TheVariants.{BadWord}
use Rattle.word_list.specs.Checks.{IsWord}
use Rattle.word_list.proofs.CheckLaws.{checking-begins, checking-ends, no_word, word-refused, fewer_left, checking-next}
use Rattle.word_list.proofs.checking.check_list.Goals as goal
use Rattle.word_list.proofs.checking.check_list.Goals.{After-is_above}

same_error : {A E : Type 0} {d e : E} → (let r : Result A E = Err d in r ≡ Err e) → d ≡ e
same_error h = cc

pub loop-before-init : goal.loop-before-init
loop-before-init c = checking-begins c.args.list.now

pub returns-in_err-word : goal.returns-in_err-word
returns-in_err-word c =
    let e = c.in_err-word.ensures in
    let p = err_from_is_err_and c.from_residual.result c.from_residual.ensures.1 in
    let bad = same_error (rw e.ok_part at e.value) in
    let is : c.from_residual.result ≡ Err BadWord = p.1 ∙ ap Err (p.2 ∙ bad) in
    let some_left : 0 < length c.loop-before.left.now = search (rules, tests) in
    rw is (no_word c.loop-before.invariant some_left (rw e.ok_part at c.next_word.ensures))

-- a word is found
module _ (c : After-is_above) where
  pub some_left : 0 < length c.loop-before.left.now
  some_left = search (rules, tests)

  pub begins : IsWord c.loop-before.left.now c.in_ok-word.word.now c.in_ok-word.after.now
  begins = rw c.in_ok-word.ensures.ok_part at c.next_word.ensures

pub returns-then-not-is_above : goal.returns-then-not-is_above
returns-then-not-is_above c =
    let s = (goal.at.returns-then-not-is_above c).After-is_above in
    word-refused s.loop-before.invariant (some_left s) (begins s) (sym c.is_above.ensures ∙ c.if-not-is_above.true)

pub loop-before-smaller : goal.loop-before-smaller
loop-before-smaller c =
    let s = (goal.at.loop-before-smaller c).After-is_above in
    fewer_left s.loop-before.invariant (some_left s) (begins s)

pub loop-before-preserved : goal.loop-before-preserved
loop-before-preserved c =
    let s = (goal.at.loop-before-preserved c).After-is_above in
    checking-next s.loop-before.invariant (some_left s) (begins s) (sym c.is_above.ensures ∙ c.if-not-is_above.false)

pub returns : goal.returns
returns c = let e : length c.loop-before.left.now ≡ 0 = search (rules, tests) in checking-ends c.loop-before.invariant e
