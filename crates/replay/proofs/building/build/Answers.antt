-- `building::build` meets its contract: so much of the lists that a case has is lent.
use Rattle.std.proofs.Common.{◌∙◌, ap, min, ℕ, List, [], ◌∷◌, ◌++◌}
use Rattle.stored.specs.Answers.{same}
use Rattle.replay.proofs.BuildLaws.{build-replies, build-reply}
use Rattle.replay.proofs.building.build.Goals as goal

pub returns : goal.returns
returns c =
    let b = c.machirsun_build-built in
    c.same_then.ensures
    ∙ ap (λ (l : List ℕ). same c.args.stored.now ((b.result.refusal ∷ b.result.nodes ∷ []) ++ l)) c.list_to.ensures
    ∙ ap (same c.args.stored.now)
    (build-replies c.args.list.now _ _ b.result _ b.ensures.built b.ensures.flat
    ∙ build-reply c.args.words.now c.args.list.now _ _ (c.min-work_room.ensures ∙ ap (λ n. min n 4096) c.word_at.ensures)
    (c.min-node_room.ensures ∙ ap (λ n. min n 512) c.word_at-2.ensures))
