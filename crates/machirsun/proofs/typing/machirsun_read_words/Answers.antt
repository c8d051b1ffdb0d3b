-- `machirsun::machirsun_read_words` meets its contract: the answer is made flat.
use Rattle.machirsun.proofs.typing.machirsun_read_words.Goals as goal

pub returns : goal.returns
returns c = record { answer = rw c.flat_typed_list.ensures.answer c.read_words.ensures; flat = c.flat_typed_list.ensures.flat }
