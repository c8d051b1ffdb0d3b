-- A step along a run, from document 01, "Counting and numbers", and the row "lookups, run cursor, alpha sets, numbers".
use Rattle.std.specs.Prelude.{not, [], ◌∷◌, ℕ, suc}
use Rattle.answers.specs.Answers.{Answer, gives, nothing, refused}
use Rattle.node.specs.Nodes.{kbwg, is_end}
use Rattle.graph.specs.Runs.{Graph}
use Rattle.lookup.specs.Steps.{on, ◌>>=◌, answer, require, lent_part, lent}

-- "each step moves to the next node and answers it; at an end node it says done": done is none
unfoldable pub step_in : Graph → ℕ → Answer
step_in g p = answer do
  v ← lent g p
  _ ← require (not (is_end kbwg v)) nothing
  _ ← lent g (suc p)
  on (gives (suc p ∷ []))

-- over what is lent
unfoldable pub run_step : Graph → ℕ → Answer
run_step g p = step_in (lent_part g) p

-- What a step answers, and the node reached after it.
pub record Moves : Type 0 where
  pub answer : Answer
  pub at : ℕ

-- "moves to the next node"; "and stays": a cursor that is given no node is where it was
abbrev pub node_reached : Answer → ℕ → ℕ
node_reached (gives []) p = p
node_reached (gives (q ∷ qs)) p = q
node_reached nothing p = p
node_reached (refused n vs) p = p

abbrev pub moves : Graph → ℕ → Moves
moves g p = record { answer = run_step g p; at = node_reached (run_step g p) p }
