-- `answers::same_then` meets its contract: what is stored is compared by its front and the rest.
use Rattle.std.proofs.Common.{◌≡◌, length}
use Rattle.std.proofs.lemmas.List.{length-map}
use Rattle.stored.specs.Answers.{then-rest, not-front}
use Rattle.stored.proofs.answers.same_then.Goals as goal

pub returns-then-starts_with : goal.returns-then-starts_with
returns-then-starts_with g c =
    let f = g.F.Number.values c.args.first.now in
    let n : length f ≡ length c.args.first.now = rw (g.met.F.Number.values_are c.args.first.now) (length-map c.args.first.now g.F.Number.value) in
    then-rest _ f _ (rw n c.starts_with.ensures) c.if-starts_with.true (rw n c.list_from.ensures) c.same.ensures

pub returns-else-starts_with : goal.returns-else-starts_with
returns-else-starts_with g c =
    let f = g.F.Number.values c.args.first.now in
    let n : length f ≡ length c.args.first.now = rw (g.met.F.Number.values_are c.args.first.now) (length-map c.args.first.now g.F.Number.value) in
    not-front _ f _ (rw n c.starts_with.ensures) c.if-starts_with.false
