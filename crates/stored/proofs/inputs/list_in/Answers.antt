-- `inputs::list_in` copies the list that `list_at_start` found, which has room and is within the limit.
use Rattle.std.proofs.Common.{◌≡◌, length}
use Rattle.std.proofs.lemmas.List.{length-map}
use Rattle.stored.proofs.InputLaws.{list-read, list-copied}
use Rattle.stored.proofs.inputs.list_in.Goals as goal

pub copy_to-requires-clause-room : goal.copy_to-requires-clause-room
copy_to-requires-clause-room g c = (list-read _ _ _ _ c.in_ok-numbers.ensures).fits

pub copy_to-requires-clause-within : goal.copy_to-requires-clause-within
copy_to-requires-clause-within g c = (list-read _ _ _ _ (rw c.MOST.ensures at c.in_ok-numbers.ensures)).within

pub returns-clause-copied : goal.returns-clause-copied
returns-clause-copied g c =
    let lent = g.T.Number.values c.args.list.now in
    let n : length lent ≡ length c.args.list.now
    = rw (g.met.T.Number.values_are c.args.list.now) (length-map c.args.list.now g.T.Number.value) in
    rw (rw c.MOST.ensures at c.in_ok-numbers.ensures) (list-copied lent c.in_ok-numbers.numbers.now (rw n (list-read _ _ _ _ c.in_ok-numbers.ensures).fits) c.copy_to.ensures)
