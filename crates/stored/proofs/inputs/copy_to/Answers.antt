-- `inputs::copy_to` stores number after number: what is left to store makes the same list as all of them.
use Rattle.std.proofs.Common.{refl}
use Rattle.std.proofs.lemmas.List.{map-set}
use Rattle.stored.proofs.InputLaws.{within-at, stored_one, all-stored}
use Rattle.stored.proofs.inputs.copy_to.Goals as goal

pub loop-i-init : goal.loop-i-init
loop-i-init g c = (refl, refl)

pub of-requires : goal.of-requires
of-requires g c = within-at _ c.args.numbers.now c.loop-i.i c.requires.within c.loop-i-test.true

pub loop-i-preserved : goal.loop-i-preserved
loop-i-preserved g c =
    rw (map-set g.T.Number.value c.loop-i.list c.loop-i.i c.of.result, c.of.ensures)
    (stored_one _ _ _ c.loop-i.i c.loop-i.invariant c.loop-i-test.true)

pub returns : goal.returns
returns g c =
    rw (g.met.T.Number.values_are c.loop-i.list, g.met.T.Number.values_are c.args.list.now)
    (all-stored _ _ _ c.loop-i.i c.loop-i.invariant c.loop-i-test.false)
