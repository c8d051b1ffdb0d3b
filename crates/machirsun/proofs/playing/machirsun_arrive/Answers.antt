-- `machirsun::machirsun_arrive` meets its contract: the answer is made flat.
use Rattle.machirsun.proofs.playing.machirsun_arrive.Goals as goal

pub returns : goal.returns
returns c = record { answer = rw c.flat_in_play.ensures.answer c.arrive.ensures; flat = c.flat_in_play.ensures.flat }
