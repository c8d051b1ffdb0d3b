-- `machirsun::machirsun_count_words` meets its contract: the answer is made flat.
use Rattle.machirsun.proofs.counting.machirsun_count_words.Goals as goal

pub returns : goal.returns
returns c =
    let done = c.count_words.ensures in
    record { counted = rw c.flat_counted.ensures.answer done.counted; free = done.free; flat = c.flat_counted.ensures.flat }
