-- How many nodes lent are enough to build a lexicon from a word list: two more than the list has bytes. From document 02, C-18: "25 for over
-- 16,777,216 nodes; then 11 where the finished graph has more nodes than the lent list".
use Rattle.std.specs.Prelude.{◌≡◌, List, [], ◌∷◌, ℕ, ◌+◌, ◌≤◌, length}
use Rattle.std.proofs.Math.Option.{none}
use Rattle.answers.specs.Answers.{gives, first_of}
use Rattle.graph.specs.Runs.{Graph}
use Rattle.built.specs.Listed.{words_listed}
use Rattle.built.specs.Built.{built}
use Rattle.built.specs.Build.{build_checks, build_as}

-- Every list that passes the checks of the list and of the work list, and whose graph is not refused by 25, is answered with its node count;
-- so with that many nodes lent the last 11 never comes.
abbrev pub RoomEnough : Type 0
RoomEnough =
    (bytes : List ℕ) (lent_work : ℕ) (lent_nodes : Graph)
    → first_of (build_checks bytes lent_work) ≡ none
    → length (built (words_listed bytes)) ≤ 16_777_216
    → 2 + length bytes ≤ length lent_nodes
    → (build_as bytes lent_work lent_nodes).answer ≡ gives (length (built (words_listed bytes)) ∷ [])
