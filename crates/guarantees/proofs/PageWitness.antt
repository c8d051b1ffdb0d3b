-- The five nodes of document 01 on a page: its rows byte by byte, also where columns are too few for a word, and what is promised of them.
use mathlib.Core.Path.{◌≡◌, refl}
use mathlib.Core.List.{List, [], ◌∷◌, ◌++◌}
use Prim.Native.Nat.{ℕ}
use native.Mathlib.Omega.{arith}
use lib.ListN.{drop, replicate}
use Rattle.laws.specs.Tables.{table}
use Rattle.endian.specs.Bytes.{whole_nodes, part_node}
use Rattle.answers.specs.Answers.{gives, first_of}
use Rattle.node.specs.Nodes.{fits}
use Rattle.node.specs.declared.Layout.TheVariants.{Kwg}
use Rattle.graph.specs.Runs.{run, largest_arc, last_ends}
use Rattle.graph.specs.Words.{in_order, spelled, words_within, words}
use Rattle.graph.specs.Counting.{counts, count_limit}
use Rattle.load.specs.Repacking.{fitting, first_misfit}
use Rattle.load.specs.Loading.{begin, feed, finish, holding, state_after, nodes_after, zeros}
use Rattle.pieces.specs.Pieces.{load_pieces, fed_pieces, feed_all}
use Rattle.lookup.specs.Steps.{lent, difference}
use Rattle.lookup.specs.Walks.{words_between, words_here, turn_in, word_from, word_by_index}
use Rattle.lookup.specs.GraphLent.{GraphLent}
use Rattle.decimal.specs.Decimal.{decimal_within, decimal}
use Rattle.export.specs.Written.{Written}
use Rattle.page.specs.Rows.{Widths, page_widths, blanks, page_rows}
use Rattle.page.specs.Shown.{shown_from}
use Rattle.page.specs.Page.{page_words, write_page}
use Rattle.page.specs.Columns.{page_in, row_at, Columns}
use Rattle.page.specs.Shows.{PageShows}
use Rattle.guarantees.specs.Starred.{five_nodes, labels}
use Rattle.guarantees.proofs.PagesLaws.{pages-written}
use Rattle.guarantees.proofs.Witness.{G-pieces, G-ready}

-- the title, and bytes for a page, and two more
abbrev title : List ℕ
title = 0x47 ∷ []

abbrev bytes : List ℕ
bytes = replicate 962 7

-- the words from node 2, from number 0 on
abbrev left : Widths → Written
left w = write_page w five_nodes (counts five_nodes) labels title 2 0 bytes

abbrev row : Widths → ℕ → List ℕ
row w r = row_at w (page_in w (left w)) r

-- one column for the labels
abbrev narrow : Widths
narrow = record { number = 10; word = 1; greatest = count_limit }

pub G-own : GraphLent five_nodes five_nodes (counts five_nodes)
unfolding table words words_within in_order spelled run
G-own = record { nodes-are = refl; counts-are = refl }

-- the page, and what is promised of it
pub record PageMet : Type 0 where
  pub answer : (left page_widths).answer ≡ gives []
  pub row-0 : row page_widths 0 ≡ 0x47 ∷ blanks 39
  pub row-1 : row page_widths 1 ≡ blanks 9 ++ 0x30 ∷ 0x20 ∷ 0x41 ∷ blanks 28
  pub row-2 : row page_widths 2 ≡ blanks 9 ++ 0x31 ∷ 0x20 ∷ 0x41 ∷ 0x42 ∷ blanks 27
  pub row-3 : row page_widths 3 ≡ blanks 9 ++ 0x32 ∷ 0x20 ∷ 0x42 ∷ 0x42 ∷ blanks 27
  pub row-4 : row page_widths 4 ≡ blanks 40
  pub row_23 : row page_widths 23 ≡ blanks 40
  pub past : drop 960 (left page_widths).bytes ≡ 7 ∷ 7 ∷ []
  pub narrow-1 : row narrow 1 ≡ blanks 9 ++ 0x30 ∷ 0x20 ∷ 0x41 ∷ 0x20 ∷ []
  pub narrow-2 : row narrow 2 ≡ blanks 9 ++ 0x31 ∷ 0x20 ∷ 0x41 ∷ 0x2B ∷ []
  pub columns : Columns page_widths title 0 (page_in page_widths (left page_widths))
  pub shows : PageShows page_widths five_nodes five_nodes (counts five_nodes) 2 labels title 0 bytes

G-answer : (left page_widths).answer ≡ gives []
unfolding table words words_within in_order spelled run first_of page_words shown_from word_by_index word_from turn_in words_here words_between lent difference
G-answer = refl

G-shows : PageShows page_widths five_nodes five_nodes (counts five_nodes) 2 labels title 0 bytes
unfolding load_pieces fed_pieces feed_all begin feed finish first_of holding state_after nodes_after whole_nodes part_node first_misfit
    fitting fits zeros largest_arc last_ends
G-shows =
    pages-written.shows 20 Kwg (replicate 6 7) G-pieces 5 (3 ∷ 0 ∷ 3 ∷ 1 ∷ 1 ∷ 7 ∷ []) G-ready five_nodes (counts five_nodes) G-own 2 (omega arith) labels title 0 bytes

pub G-page : PageMet
unfolding table words words_within in_order spelled run first_of page_words shown_from word_by_index word_from turn_in words_here words_between lent difference
    page_rows decimal decimal_within
G-page =
    record {
      answer = G-answer;
      row-0 = refl;
      row-1 = refl;
      row-2 = refl;
      row-3 = refl;
      row-4 = refl;
      row_23 = refl;
      past = refl;
      narrow-1 = refl;
      narrow-2 = refl;
      columns = pages-written.columns five_nodes (counts five_nodes) labels title 2 0 bytes G-answer;
      shows = G-shows;
    }
