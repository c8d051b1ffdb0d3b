-- `machirsun::machirsun_build` meets its contract: the answer is made flat.
use Rattle.machirsun.proofs.building.machirsun_build.Goals as goal

pub returns : goal.returns
returns c =
    let done = c.build.ensures in
    record { built = rw c.flat_built.ensures.answer done.built; free = done.free; flat = c.flat_built.ensures.flat }
