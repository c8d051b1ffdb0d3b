-- The row "LXD" of "Where each check stands" in document 01, and what the call answers and writes. "20 and 23 keep their places and now mean a
-- code point without a byte in this table" (document 02, C-15).
use Rattle.std.specs.Prelude.{List, [], ◌∷◌, ◌++◌, ℕ, ◌+◌, ◌*◌, ◌^◌, ltb, leb, length, get_or}
use Rattle.laws.specs.Lists.{some_of}
use Rattle.answers.specs.Answers.{refusing, Row, first_of}
use Rattle.node.specs.Nodes.{kbwg, tile}
use Rattle.graph.specs.Runs.{Graph, start_node}
use Rattle.graph.specs.Words.{count}
use Rattle.graph.specs.Checks.{graph_row}
use Rattle.base.specs.Numbers.{most}
use Rattle.export.specs.Starts.{unlabelled, deeper}
use Rattle.windows1252.specs.Windows1252.{no_byte}
use Rattle.export.specs.Written.{Written, written}
use Rattle.lxd_file.specs.File.{reached, lxd_file}

-- the checks before the walk
abbrev pub lxd_checks : Graph → List ℕ → List ℕ → List ℕ → ℕ → Row
lxd_checks g labels title date lent_work =
    graph_row g
    ++ (some_of no_byte title, refusing 20 [])
    ∷ (ltb 31 (length title), refusing 19 [])
    ∷ (some_of no_byte date, refusing 20 [])
    ∷ (ltb 19 (length date), refusing 19 [])
    ∷ (unlabelled g labels, refusing 21 [])
    ∷ (ltb lent_work (8 * length g), refusing 11 [])
    ∷ []

-- those of the walk and of the sizes; nodes 0 and 1 are counted, "before the no-words cut"
abbrev pub lxd_walk_row : Graph → List ℕ → List ℕ → List ℕ → ℕ → Row
lxd_walk_row g labels title date lent_file =
    (deeper g 64 (start_node g 0), refusing 22 [])
    ∷ (some_of (λ v. no_byte (get_or labels (tile kbwg v) 0)) (reached g), refusing 23 [])
    ∷ (leb most (count kbwg g (start_node g 0)), refusing 13 [])
    ∷ (ltb (2 ^ 22) (2 + length (reached g)), refusing 25 [])
    ∷ (ltb lent_file (length (lxd_file g labels title date)), refusing 11 [])
    ∷ []

unfoldable pub lxd_row : Graph → List ℕ → List ℕ → List ℕ → ℕ → ℕ → Row
lxd_row g labels title date lent_work lent_file = lxd_checks g labels title date lent_work ++ lxd_walk_row g labels title date lent_file

-- what the call answers, and the file after it
unfoldable pub to_lxd : Graph → List ℕ → List ℕ → List ℕ → ℕ → List ℕ → Written
to_lxd g labels title date lent_work lent = written (first_of (lxd_row g labels title date lent_work (length lent))) (lxd_file g labels title date) lent
