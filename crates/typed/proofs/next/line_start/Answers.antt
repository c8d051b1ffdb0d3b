-- `next::line_start` meets its contract: from the place on, what ends lines is passed over.
use Rattle.std.proofs.Common.{◌≡◌, ℕ, List, [], ◌∷◌, ◌+◌, ◌∙◌, ap, suc, one-add, refl, length, drop, take_while}
use Rattle.std.proofs.lemmas.List.{drop_min, take_rest}
use Rattle.laws.specs.Cases.{split}
use Rattle.text.specs.Lines.{is_ending}
use Rattle.typed.specs.Texts.{empty_width}
use Rattle.typed.proofs.next.line_start.Goals as goal

empty-while : (s : List ℕ) → length (take_while is_ending s) ≡ empty_width s
unfolding empty_width
empty-while [] = refl
empty-while (b ∷ s) = split (is_ending b) (λ e. rw (e, empty_width, one-add) (ap suc (empty-while s))) (λ e. rw (e, empty_width))

pub returns : goal.returns
returns c =
    let text = c.args.text.now in
    let at = c.args.at in
    ap (λ n. at + n) (rw (take_rest, c.min.ensures, drop_min) at c.empty_width.ensures.width ∙ empty-while (drop at text))
