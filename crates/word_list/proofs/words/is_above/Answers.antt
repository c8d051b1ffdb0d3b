-- `words::is_above` meets its contract: the place where the words part decides.
use Rattle.std.proofs.Common.{◌∙◌, sym, arith, eq-eqb, le-ltb}
use Rattle.word_list.specs.WordsLaws.{shared_le, ends-not-above, ends_above, parts-above}
use Rattle.word_list.proofs.words.is_above.Goals as goal

pub bounds-v-c : goal.bounds-v-c
bounds-v-c c = let h = (shared_le c.args.v.now c.args.w.now).0 in let e = c.shared-c.ensures in let n = c.if-c-v.false in omega arith

pub returns-then-c-v : goal.returns-then-c-v
returns-then-c-v c =
    let a = c.args in
    let e = c.shared-c.ensures in
    let h = c.if-c-w.true in
    let k = c.if-c-v.true in
    eq-eqb _ _ k ∙ sym (ends_above a.v.now a.w.now (omega arith) (omega arith))

pub returns-else-c-v : goal.returns-else-c-v
returns-else-c-v c =
    let a = c.args in
    let e = c.shared-c.ensures in
    let h = c.if-c-w.true in
    let n = c.if-c-v.false in
    let l = (shared_le a.v.now a.w.now).0 in
    rw e (sym (parts-above a.v.now a.w.now (omega arith) (omega arith)))

pub returns-else-c-w : goal.returns-else-c-w
returns-else-c-w c =
    let a = c.args in
    let e = c.shared-c.ensures in
    let h = c.if-c-w.false in
    le-ltb _ _ h ∙ sym (ends-not-above a.v.now a.w.now (omega arith))
