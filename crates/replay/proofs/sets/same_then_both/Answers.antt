-- `sets::same_then_both` meets its contract: the first number stored is the refusal's, and the lists are the rest.
use Rattle.std.proofs.Common.{[], ◌∷◌, ◌++◌}
use Rattle.stored.specs.Answers.{then-rest, not-front}
use Rattle.replay.proofs.sets.same_then_both.Goals as goal

pub returns-then-starts_with : goal.returns-then-starts_with
returns-then-starts_with c =
    let a = c.args in
    then-rest a.stored.now (a.refusal ∷ []) (a.all.now ++ a.accepting.now) c.starts_with.ensures c.if-starts_with.true c.list_from.ensures c.same_then.ensures

pub returns-else-starts_with : goal.returns-else-starts_with
returns-else-starts_with c =
    let a = c.args in
    not-front a.stored.now (a.refusal ∷ []) (a.all.now ++ a.accepting.now) c.starts_with.ensures c.if-starts_with.false
