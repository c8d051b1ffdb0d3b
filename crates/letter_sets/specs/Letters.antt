-- The letter set of a run by a table of ranks, and what makes a table that of the labels.
use Rattle.std.specs.Prelude.{◌≡◌, List, ℕ, ◌≤◌, ◌<◌, length, get_or}
use Rattle.node.specs.Nodes.{kbwg, tile}
use Rattle.graph.specs.Runs.{Graph}
use Rattle.macondo_file.specs.Alphabet.{letter_of}
use Rattle.macondo_file.specs.File.{set_with}

-- the table gives each tile that has a label the letter written for it
abbrev pub Ranks : List ℕ → List ℕ → Type 0
Ranks labels ranks = (t : ℕ) → t < length labels → get_or ranks t 0 ≡ letter_of labels t

-- every entry is at most 50, the number written for tile 0, so each has a bit among 64
abbrev pub Small : List ℕ → Type 0
Small ranks = (t : ℕ) → get_or ranks t 0 ≤ 50

-- the set of p's run, by the ranks of a table
unfoldable pub set_by : List ℕ → Graph → ℕ → ℕ
set_by ranks g p = set_with (λ v. get_or ranks (tile kbwg v) 0) g p
