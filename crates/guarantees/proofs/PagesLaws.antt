-- Pages hold. The idea: they are laws of the crate that owns pages; here is only that a graph that loads and counts has what these ask.
use Rattle.page.specs.Rows.{Widths, page_widths}
use Rattle.page.specs.Columns.{WideEnough}
use Rattle.page.proofs.ColumnsLaws.{page_wide, columns}
use Rattle.page.proofs.ShowsLaws.{page-shows}
use Rattle.guarantees.specs.Demand3.{loaded_graph}
use Rattle.guarantees.specs.Pages.{Pages}
use Rattle.guarantees.proofs.Demand3Laws.{loaded-counts, loaded-inside}

-- Pages, for columns of any width that hold every number.
pub pages : (w : Widths) → WideEnough w → Pages w
pages w wide =
    record {
      columns = columns w wide;
      shows = λ announced layout lent pieces n counted r nodes counts is p h.
          page-shows w wide (loaded_graph announced layout lent pieces n) (loaded-counts announced layout lent pieces w.greatest n counted r) nodes counts is
          p (loaded-inside announced layout lent pieces w.greatest n counted r p h);
    }

-- the page of 24 rows of 40 bytes
pub pages-written : Pages page_widths
pages-written = pages page_widths page_wide
