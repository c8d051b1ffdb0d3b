-- What the call answers and leaves, by the facts that decide it.
use mathlib.Core.Path.{◌≡◌}
use Rattle.std.specs.Prelude.{Bool, true, false, ◌||◌}
use mathlib.Core.List.{List, []}
use mathlib.Core.Option.{some}
use Prim.Native.Nat.{ℕ}
use Rattle.laws.specs.Lists.{some_of}
use Rattle.answers.specs.Answers.{Answer, refused, Row, first_of}
use Rattle.answers.specs.RowLaws.{stops_at, all_pass}
use Rattle.graph.specs.Words.{Word}
use Rattle.lookup.specs.Steps.{Try, on, stop}
use Rattle.page.specs.Rows.{ShownWord}
use Rattle.page.specs.Page.{outside, shown_tiles, label_row, judged}
use Rattle.page.proofs.LabelLaws.{lacks_label, unshown}

-- ---- the checks of what would be shown, one after the other
-- words with their tiles, and the labels and the title that they would stand with
pub record Judging : Type 0 where
  pub labels : List ℕ
  pub title : List ℕ
  pub tiles : Word
  pub es : List ShownWord
  pub are : shown_tiles es ≡ tiles

module _ (j : Judging) where
  abbrev pub some_unlabelled : Bool
  some_unlabelled = some_of (lacks_label j.labels) j.tiles

  abbrev pub title_outside : Bool
  title_outside = some_of outside j.title

  abbrev pub label_outside : Bool
  label_outside = some_of (unshown j.labels) j.tiles

  abbrev pub judgement : Try (List ShownWord)
  judgement = judged j.labels j.title j.es

  abbrev row : Row
  row = label_row j.labels j.title j.tiles

  refuses : {r : Answer} → first_of row ≡ some r → stop r ≡ judgement
  refuses e = rw (j.are, e)

  pub no_label : some_unlabelled ≡ true → stop (refused 21 []) ≡ judgement
  no_label e = refuses (stops_at 0 row e)

  module _ (labelled : some_unlabelled ≡ false) where
    pub outside-shown : (title_outside || label_outside) ≡ true → stop (refused 26 []) ≡ judgement
    outside-shown e = refuses (stops_at 1 row (labelled, e))

    pub all_shown : (title_outside || label_outside) ≡ false → on j.es ≡ judgement
    all_shown e = rw (j.are, all_pass row (labelled, (e, tt)))
