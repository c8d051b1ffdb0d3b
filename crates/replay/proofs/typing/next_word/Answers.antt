-- `typing::next_word` meets its contract: the word that is lent has no tile, so that the tiles put show.
use Rattle.std.proofs.Common.{ap, ◌∙◌, min}
use Rattle.stored.specs.Answers.{same}
use Rattle.replay.proofs.TypedLaws.{typed-fields, typed-reply}
use Rattle.replay.proofs.typing.next_word.Goals as goal

pub returns : goal.returns
returns c =
    let read = c.machirsun_next_word-read in
    c.same_typed.ensures
    ∙ ap (same c.args.stored.now)
    (typed-fields c.args.words.now c.args.bytes.now read.result _ _ _ _ _ _ _ c.word_at-count.ensures c.word_at-at.ensures
    c.list_to.ensures c.list_from.ensures read.ensures.answer read.ensures.flat c.tiles_put.ensures
    ∙ typed-reply c.args.words.now c.args.bytes.now _ (c.min-room.ensures ∙ ap (λ n. min n 64) c.word_at.ensures))
