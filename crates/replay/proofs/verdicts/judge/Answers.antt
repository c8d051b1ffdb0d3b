-- `verdicts::judge` meets its contract: the case is read as far as it goes, and its call is made.
use Rattle.std.proofs.Common.{refl, sym, ◌∙◌}
use Rattle.std.proofs.Math.Path.{subst}
use Rattle.std.proofs.Math.Logic.{⊎_elim}
use Rattle.replay.specs.Judged.{Judged}
use Rattle.replay.proofs.VerdictLaws.{low-call, high-call, words-unread, bytes-unread, case-judged}
use Rattle.replay.proofs.verdicts.judge.Goals as goal

pub returns-then-call-lt1 : goal.returns-then-call-lt1
returns-then-call-lt1 c =
    ⊎_elim
    (λ h. low-call _ _ c.args.call c.args.case.now h)
    (λ h. high-call _ _ c.args.call c.args.case.now h.0 h.1)
    c.then-call-lt1.either

pub returns-in_default : goal.returns-in_default
returns-in_default c = words-unread _ _ c.args.call c.args.case.now (sym c.list_in.ensures.count ∙ c.in_default.is)

pub returns-in_default-list_in : goal.returns-in_default-list_in
returns-in_default-list_in c =
    bytes-unread _ _ c.args.call c.args.case.now c.in-Some.word_count c.after_list-rest.result.now
    (sym c.list_in.ensures.count ∙ c.in-Some.is) c.after_list-rest.ensures (sym c.list_in-2.ensures.count ∙ c.in_default-list_in.is)

pub returns : goal.returns
returns c =
    subst (Judged 32768 32768 c.args.call c.args.case.now) (sym c.verdict_of.ensures)
    (case-judged _ _ c.args.call c.args.case.now c.in-Some.word_count c.after_list-rest.result.now
    (sym c.list_in.ensures.count ∙ c.in-Some.is) c.after_list-rest.ensures
    c.in-Some-list_in.byte_count _ _ _ _ _ _ (sym c.list_in-2.ensures.count ∙ c.in-Some-list_in.is) refl refl
    c.list_in.ensures.copied c.list_in-2.ensures.copied c.after_list-stored.ensures c.list_to.ensures c.replies.ensures)
