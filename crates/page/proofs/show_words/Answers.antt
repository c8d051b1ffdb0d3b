-- `show_words` meets its contract: the row of labels, one check after the other, and the page where all pass.
use Rattle.std.proofs.Common.{◌≡◌, ◌∙◌, sym, ap, true, false, ◌||◌, List, []}
use Rattle.answers.specs.Answers.{gives}
use Rattle.export.specs.Written.{Written}
use Rattle.lookup.specs.Steps.{Try}
use Rattle.page.specs.Rows.{page_widths, ShownWord}
use Rattle.page.specs.Page.{page_written}
use Rattle.page.specs.Said.{held_by}
use Rattle.page.proofs.HeldLaws.{held-tiles}
use Rattle.page.proofs.LabelLaws.{all-labelled}
use Rattle.page.proofs.PageLaws.{Judging, some_unlabelled, title_outside, label_outside}
use Rattle.page.proofs.PageLaws.{no_label, outside-shown, all_shown}
use Rattle.page.proofs.show_words.Goals as goal
use Rattle.page.proofs.show_words.Goals.{After-text_outside, Else-label_outside, Start, then-text_outside-via-then-text_outside, then-text_outside-via-else-text_outside+then-label_outside}

-- the words that are held, and what their judgement leaves
module _ (s : Start) where
  abbrev words : Judging
  words =
      let h = s.args.words in
      record {
        labels = s.args.labels.now;
        title = s.args.title.now;
        tiles = h.tiles.now;
        es = held_by h;
        are = held-tiles page_widths.word h.first h.tiles.now h.sizes.now h.fit.tally;
      }

  abbrev left : Try (List ShownWord) → Written
  left = page_written page_widths s.args.labels.now s.args.title.now s.args.page.now

-- past the first check, and past all
labelled : (s : After-text_outside) → some_unlabelled (words (goal.at.After-text_outside s).Start) ≡ false
labelled s = sym s.some_unlabelled.ensures ∙ s.if-some_unlabelled.false

inside : (s : Else-label_outside) → label_outside (words (goal.at.Else-label_outside s).Start) ≡ false
inside s = sym s.label_outside.ensures ∙ s.if-label_outside.false

all-inside : (s : Else-label_outside) → let w = words (goal.at.Else-label_outside s).Start in (title_outside w || label_outside w) ≡ false
all-inside s = rw (sym s.text_outside.ensures ∙ s.if-text_outside.false) (inside s)

pub returns-then-some_unlabelled : goal.returns-then-some_unlabelled
returns-then-some_unlabelled c = let s = (goal.at.returns-then-some_unlabelled c).Start in
    ap (left s) (no_label (words s) (sym c.some_unlabelled.ensures ∙ c.if-some_unlabelled.true))

pub returns-then-text_outside : goal.returns-then-text_outside
returns-then-text_outside c =
    let t = (goal.at.returns-then-text_outside c).After-text_outside in
    let s = (goal.at.After-text_outside t).Start in
    let title = sym c.text_outside.ensures in
    let either : (title_outside (words s) || label_outside (words s)) ≡ true = elim c.then-text_outside.branch [
      | then-text_outside-via-then-text_outside w ↦ rw (title ∙ w.if-text_outside.true)
      | then-text_outside-via-else-text_outside+then-label_outside w ↦
          rw (title ∙ w.if-text_outside.false) (sym w.label_outside.ensures ∙ w.if-label_outside.true)
    ] in
    ap (left s) (outside-shown (words s) (labelled t) either)

pub write_words-requires-clause-labelled : goal.write_words-requires-clause-labelled
write_words-requires-clause-labelled c =
    let e = (goal.at.write_words-requires-clause-labelled c).Else-label_outside in
    let w = words (goal.at.Else-label_outside e).Start in
    all-labelled w.labels w.tiles (labelled (goal.at.Else-label_outside e).After-text_outside) (inside e)

pub returns : goal.returns
returns c =
    let e = (goal.at.returns c).Else-label_outside in
    let s = (goal.at.Else-label_outside e).Start in
    ap (λ bytes. record { answer = gives []; bytes = bytes }) c.write_words.ensures
    ∙ ap (left s) (all_shown (words s) (labelled (goal.at.Else-label_outside e).After-text_outside) (all-inside e))
