-- A page of words, from document 02, C-11: no column ever breaks, whatever is lent; and where a graph loads, counts and ascends, and is
-- lent with its own counts, the rows are the words of their numbers.
use Rattle.std.specs.Prelude.{◌≡◌, List, [], ℕ, ◌<◌}
use Rattle.answers.specs.Answers.{gives}
use Rattle.node.specs.declared.Layout.{Layout}
use Rattle.graph.specs.Runs.{Graph}
use Rattle.lookup.specs.GraphLent.{GraphLent}
use Rattle.page.specs.Rows.{Widths}
use Rattle.page.specs.Page.{write_page}
use Rattle.page.specs.Columns.{page_in, Columns}
use Rattle.page.specs.Shows.{PageShows}
use Rattle.guarantees.specs.Demand3.{CountedLoad, loaded_graph}

-- The widths are those of the page's columns, and the greatest number is the lowest count that is too many.
pub record Pages (w : Widths) : Type 0 where
  -- "A viewer's page must never break a column, for every graph and number."
  pub columns : (nodes counts labels title : List ℕ) (p first : ℕ) (lent : List ℕ)
      → let left = write_page w nodes counts labels title p first lent in left.answer ≡ gives [] → Columns w title first (page_in w left)
  -- from every node, node 0 too: each row shows the word with its number, `+` exactly where the word has more tiles than columns, and the
  -- rows from the count on are blank
  pub shows : (announced : ℕ) (layout : Layout) (lent : Graph) (pieces : List (List ℕ)) (n : ℕ) (counted : List ℕ)
      → CountedLoad announced layout lent pieces w.greatest n counted
      → (nodes counts : List ℕ) → GraphLent (loaded_graph announced layout lent pieces n) nodes counts
      → (p : ℕ) → p < n → (labels title : List ℕ) (first : ℕ) (page : List ℕ)
      → PageShows w (loaded_graph announced layout lent pieces n) nodes counts p labels title first page
