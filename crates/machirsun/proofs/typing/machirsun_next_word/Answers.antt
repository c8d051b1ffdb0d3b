-- `machirsun::machirsun_next_word` meets its contract: the answer is made flat.
use Rattle.machirsun.proofs.typing.machirsun_next_word.Goals as goal

pub returns : goal.returns
returns c = record { answer = rw c.flat_typed.ensures.answer c.next_word.ensures; flat = c.flat_typed.ensures.flat }
