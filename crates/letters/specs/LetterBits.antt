-- Letter bits, from document 01, "Letter and alpha sets" and the row "letter bits".
use Rattle.std.specs.Prelude.{Bool, true, false, ◌||◌, List, [], ◌∷◌, ◌++◌, map, ℕ, ltb, length, drop}
use Rattle.std.proofs.Math.Option.{Option, none, some}
use Rattle.laws.specs.Lists.{filtered}
use Rattle.answers.specs.Answers.{Answer, gives, refusing, Row, first_of}
use Rattle.node.specs.Nodes.{tile, accepts, kbwg, is_end}
use Rattle.graph.specs.Runs.{Graph, run}
use Rattle.laws.specs.Tables.{table}
use Rattle.laws.specs.BitSets.{bit_set}

-- "from it to its run's end, or to the last lent node where no end comes": the tiles of the nodes that pass a test, in the run that
-- begins at the head of the nodes left
unfoldable pub tiles_of : (ℕ → Bool) → Graph → ℕ
tiles_of test vs = bit_set (map (tile kbwg) (filtered test (run kbwg vs)))

-- "per node"
abbrev pub per_node : (ℕ → Bool) → Graph → List ℕ
per_node test g = table (length g) (λ p. tiles_of test (drop p g))

-- a lent list once an entry for each node is written: "entries past that stay"
unfoldable pub bits_written : (ℕ → Bool) → Graph → List ℕ → List ℕ
bits_written test g l = per_node test g ++ drop (length g) l

-- "all tiles": those of every node
abbrev pub every : ℕ → Bool
every v = true

-- "11+ a lent list too short"
abbrev pub bits_row : Graph → ℕ → ℕ → Row
bits_row g lent_all lent_accepting = (ltb lent_all (length g) || ltb lent_accepting (length g), refusing 11 []) ∷ []

-- What the call answers, and both lists after it.
pub record Lettered : Type 0 where
  pub answer : Answer
  pub all : List ℕ
  pub accepting : List ℕ

-- "all tiles and accepting tiles"
abbrev pub lettered : Option Answer → Graph → List ℕ → List ℕ → Lettered
lettered (some r) g l a = record { answer = r; all = l; accepting = a }
lettered none g l a = record { answer = gives []; all = bits_written every g l; accepting = bits_written (accepts kbwg) g a }

-- "`compute_letter_bits`": the row, then both lists
unfoldable pub letter_bits_of : Graph → List ℕ → List ℕ → Lettered
letter_bits_of g l a = lettered (first_of (bits_row g (length l) (length a))) g l a

-- the set that the nodes after v leave it: none where v is an end
abbrev pub carry : ℕ → ℕ → ℕ
carry s v = elim (is_end kbwg v) [ true ↦ 0 | false ↦ s ]
