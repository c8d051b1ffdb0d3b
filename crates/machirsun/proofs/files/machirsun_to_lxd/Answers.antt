-- `machirsun::machirsun_to_lxd` meets its contract: the answer is made flat.
use Rattle.machirsun.proofs.files.machirsun_to_lxd.Goals as goal

pub returns : goal.returns
returns c =
    let done = c.to_lxd.ensures in
    record { written = rw c.flat_lxd.ensures.answer done.written; free = done.free; flat = c.flat_lxd.ensures.flat }
