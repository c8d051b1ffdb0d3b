-- What building answers and the nodes after it, from document 02, C-18.
use Rattle.std.specs.Prelude.{List, [], ◌∷◌, ◌++◌, ℕ, ◌+◌, ◌*◌, ltb, length, drop}
use Rattle.std.proofs.Math.Option.{Option, none, some}
use Rattle.answers.specs.Answers.{Answer, gives, refusing, Row, first_of}
use Rattle.graph.specs.Runs.{Graph}
use Rattle.built.specs.Listed.{words_listed, list_row}
use Rattle.built.specs.Built.{built}

-- the checks before the work list is written: those of the list, then "11 for a work list under 8 numbers a list byte and 64 more"
abbrev pub build_checks : List ℕ → ℕ → Row
build_checks bytes lent_work = list_row bytes ++ (ltb lent_work (8 * length bytes + 64), refusing 11 []) ∷ []

-- "25 for over 16,777,216 nodes; then 11 where the finished graph has more nodes than the lent list"
abbrev pub built_row : Graph → ℕ → Row
built_row g lent_nodes = (ltb 16_777_216 (length g), refusing 25 []) ∷ (ltb lent_nodes (length g), refusing 11 []) ∷ []

unfoldable pub build_row : List ℕ → ℕ → ℕ → Row
build_row bytes lent_work lent_nodes = build_checks bytes lent_work ++ built_row (built (words_listed bytes)) lent_nodes

pub record Building : Type 0 where
  pub answer : Answer
  pub nodes : Graph

-- "The answer is its node count"; "A refusal writes no node."
abbrev pub building : Option Answer → Graph → Graph → Building
building none g lent = record { answer = gives (length g ∷ []); nodes = g ++ drop (length g) lent }
building (some r) g lent = record { answer = r; nodes = lent }

-- what the call answers, and the nodes after it
unfoldable pub build_as : List ℕ → ℕ → Graph → Building
build_as bytes lent_work lent = building (first_of (build_row bytes lent_work (length lent))) (built (words_listed bytes)) lent
