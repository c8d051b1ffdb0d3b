-- `typing::read_words` meets its contract: of the lists that are lent only their lengths matter.
use Rattle.std.proofs.Common.{ap, ◌∙◌, min}
use Rattle.stored.specs.Answers.{same}
use Rattle.replay.proofs.TypedLaws.{list-fields, list_reply}
use Rattle.replay.proofs.typing.read_words.Goals as goal

pub returns : goal.returns
returns c =
    let read = c.machirsun_read_words-read in
    c.same_typed_list.ensures
    ∙ ap (same c.args.stored.now)
    (list-fields c.args.words.now c.args.bytes.now read.result _ _ _ _ _ _ _ _ c.word_at-count.ensures
    c.word_at-at.ensures c.list_to.ensures c.list_from.ensures read.ensures.answer read.ensures.flat
    ∙ list_reply c.args.words.now c.args.bytes.now _ _ (c.min-room.ensures ∙ ap (λ n. min n 64) c.word_at.ensures)
    (c.min-slots.ensures ∙ ap (λ n. min n 16) c.word_at-2.ensures))
