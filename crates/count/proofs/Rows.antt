-- Counting's row of checks, by the facts that decide it, and what is known of a graph that passes it.
use mathlib.Core.Path.{◌≡◌, sym, ◌∙◌}
use mathlib.Core.Bool.{false, ◌||◌, or-true}
use mathlib.Core.List.{[]}
use mathlib.Core.Option.{none, some}
use Prim.Native.Nat.{ℕ, ◌*◌, ◌≤◌, ◌<◌}
use borrow.Author.Tests.{lt-ltb, le-ltb, ltb-false}
use lib.Dec.{ltb}
use lib.ListN.{length, drop}
use Rattle.laws.specs.Cases.{or_false-left, or_false-right}
use Rattle.answers.specs.Answers.{Answer, refused, Row, first_of}
use Rattle.answers.specs.RowLaws.{row-refuses, row-passes, row-passed, row_ends, rows_refuse, rows_pass, rows-passed}
use Rattle.graph.specs.Runs.{Graph}
use Rattle.graph.specs.Checks.{graph_row}
use Rattle.graph.specs.ChecksLaws.{Fit, fit}
use Rattle.graph.specs.Counting.{count_row}

module _ (g : Graph) (counts work : ℕ) where
  abbrev lists_row : Row
  lists_row = drop 3 (count_row g counts work)

  pub graph_refused : {r : Answer} → first_of (graph_row g) ≡ some r → first_of (count_row g counts work) ≡ some r
  graph_refused e = rows_refuse (graph_row g) lists_row e

  module _ (sound : first_of (graph_row g) ≡ none) where
    judged : first_of (count_row g counts work) ≡ first_of lists_row
    judged = rows_pass (graph_row g) lists_row sound

    pub counts-short : counts < length g → first_of (count_row g counts work) ≡ some (refused 11 [])
    counts-short h = judged ∙ row-refuses _ _ _ (rw (lt-ltb _ _ h))

    pub work-short : work < 2 * length g → first_of (count_row g counts work) ≡ some (refused 11 [])
    work-short h = judged ∙ row-refuses _ _ _ (rw (lt-ltb _ _ h) (or-true (ltb counts (length g))))

    pub row-clear : length g ≤ counts → 2 * length g ≤ work → first_of (count_row g counts work) ≡ none
    row-clear a b = judged ∙ row-passes _ _ _ (rw (le-ltb _ _ a, le-ltb _ _ b)) ∙ row_ends

  module _ (clear : first_of (count_row g counts work) ≡ none) where
    sound : first_of (graph_row g) ≡ none
    sound = rows-passed (graph_row g) lists_row clear

    pub row-fit : Fit g
    row-fit = fit g sound

    room : ltb counts (length g) || ltb work (2 * length g) ≡ false
    room = (row-passed _ _ _ (sym (rows_pass (graph_row g) lists_row sound) ∙ clear)).0

    pub counts-room : length g ≤ counts
    counts-room = ltb-false _ _ (or_false-left _ _ room)

    pub work-room : 2 * length g ≤ work
    work-room = ltb-false _ _ (or_false-right (ltb counts (length g)) _ room)
