-- `typing::same_typed_list` meets its contract: the fields of the flat answer are compared, and then the parts of the lists that it tells.
use Rattle.std.proofs.Common.{◌≡◌, ap, ap₂, ◌∙◌, List, ◌++◌, ℕ, length, take}
use Rattle.stored.specs.Answers.{same, then-rest, not-front}
use Rattle.replay.specs.Typed.{typed_list_fields}
use Rattle.replay.proofs.typing.same_typed_list.Goals.{After-starts_with}
use Rattle.replay.proofs.typing.same_typed_list.Goals as goal

module _ (s : After-starts_with) where
  abbrev fields : List ℕ
  fields = typed_list_fields s.args.read

  abbrev lists : List ℕ
  lists = take s.args.read.words s.args.sizes.now ++ take s.args.read.tiles s.args.tiles.now

  front : s.starts_with.result ≡ same (take (length fields) s.args.stored.now) fields
  front = cc

pub returns-then-starts_with : goal.returns-then-starts_with
returns-then-starts_with c =
    let s = (goal.at.returns-then-starts_with c).After-starts_with in
    then-rest c.args.stored.now (fields s) (lists s) (front s) c.if-starts_with.true c.list_from.ensures
    (c.same_then.ensures ∙ ap (same c.list_from.result.now) (ap₂ ◌++◌ c.list_to.ensures c.list_to-then-starts_with.ensures))

pub returns-else-starts_with : goal.returns-else-starts_with
returns-else-starts_with c =
    let s = (goal.at.returns-else-starts_with c).After-starts_with in
    not-front c.args.stored.now (fields s) (lists s) (front s) c.if-starts_with.false
