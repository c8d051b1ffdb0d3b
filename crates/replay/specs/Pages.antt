-- What the writer of pages replies to the words and the bytes of a case: the number of the refusal, and then the page.
use Rattle.std.specs.Prelude.{List, [], ◌∷◌, ℕ, eqb, get_or, take, drop}
use Rattle.answers.specs.Answers.{refusal_in}
use Rattle.page.specs.Rows.{page_widths}
use Rattle.page.specs.Page.{write_page}
use Rattle.stored.specs.Inputs.{pick}

-- the 960 bytes of the page only where it is written: after a refusal there is nothing more
unfoldable pub page_fields : ℕ → List ℕ → List ℕ
page_fields refusal bytes = refusal ∷ pick (eqb refusal 0) (take 960 bytes) []

-- P FIRST L N, L labels, N nodes and the counts; the title
unfoldable pub page_reply : List ℕ → List ℕ → List ℕ → List ℕ
page_reply ws title lent =
    let labels = drop 4 ws in
    let graph = drop (get_or ws 2 0) labels in
    let n = get_or ws 3 0 in
    let page = write_page page_widths (take n graph) (drop n graph) (take (get_or ws 2 0) labels) title (get_or ws 0 0) (get_or ws 1 0) lent in
    page_fields (refusal_in page.answer) page.bytes
