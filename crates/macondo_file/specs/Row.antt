-- The row "Macondo" of "Where each check stands" in document 01, and what the call answers and writes.
use Rattle.std.specs.Prelude.{Bool, ◌&&◌, ◌||◌, not, List, [], ◌∷◌, ◌++◌, ℕ, ◌*◌, ◌^◌, eqb, ltb, leb, length, drop}
use Rattle.laws.specs.Lists.{some_of}
use Rattle.answers.specs.Answers.{refusing, Row, first_of}
use Rattle.node.specs.Nodes.{kbwg}
use Rattle.graph.specs.Runs.{Graph, ascends, start_node}
use Rattle.graph.specs.Checks.{graph_row}
use Rattle.export.specs.Starts.{unlabelled, deeper}
use Rattle.export.specs.Written.{Written, written}
use Rattle.macondo_file.specs.File.{Format, marks, macondo_nodes, macondo_file}

-- "D800 to DFFF, and 110000 and above (hexadecimal), mean "not one code point""
abbrev pub no_code_point : ℕ → Bool
no_code_point c = (leb 0xD800 c && leb c 0xDFFF) || leb 0x110000 c

-- the checks before the walk
abbrev pub macondo_checks : Graph → List ℕ → List ℕ → ℕ → Row
macondo_checks g labels name lent_work =
    graph_row g
    ++ (eqb (length labels) 0 || ltb 50 (length labels), refusing 18 [])
    ∷ (ltb 255 (length name), refusing 19 [])
    ∷ (unlabelled g labels, refusing 21 [])
    ∷ (not (ascends kbwg g), refusing 24 [])
    ∷ (ltb lent_work (8 * length g), refusing 11 [])
    ∷ []

-- those of the walk, the letters ("tiles 1 up") and the sizes
abbrev pub macondo_walk_row : Graph → List ℕ → List ℕ → Format → ℕ → Row
macondo_walk_row g labels name f lent_file =
    (deeper g 64 (start_node g (marks f).root), refusing 22 [])
    ∷ (some_of no_code_point (drop 1 labels), refusing 23 [])
    ∷ (ltb (2 ^ 24) (length (macondo_nodes g labels f)), refusing 25 [])
    ∷ (ltb lent_file (length (macondo_file g labels f name)), refusing 11 [])
    ∷ []

unfoldable pub macondo_row : Graph → List ℕ → List ℕ → Format → ℕ → ℕ → Row
macondo_row g labels name f lent_work lent_file = macondo_checks g labels name lent_work ++ macondo_walk_row g labels name f lent_file

-- what the call answers, and the file after it
unfoldable pub to_macondo : Graph → List ℕ → List ℕ → Format → ℕ → List ℕ → Written
to_macondo g labels name f lent_work lent = written (first_of (macondo_row g labels name f lent_work (length lent))) (macondo_file g labels f name) lent
