-- Counting the words from every node, from document 01, "Counting and numbers" and the row "counting".
use Rattle.std.specs.Prelude.{◌≡◌, ◌||◌, List, [], ◌∷◌, ◌++◌, ℕ, ◌*◌, ◌≤◌, ◌<◌, ltb, length, drop}
use Rattle.std.proofs.Math.Option.{none, some}
use Rattle.laws.specs.Cleared.{cleared}
use Rattle.laws.specs.Tables.{table}
use Rattle.answers.specs.Answers.{Answer, gives, refused, refusing, Row, first_of}
use Rattle.node.specs.Nodes.{kbwg}
use Rattle.base.specs.Numbers.{most}
use Rattle.graph.specs.Runs.{Graph}
use Rattle.graph.specs.Words.{count}
use Rattle.graph.specs.Loops.{Loops, LowestLoop}
use Rattle.graph.specs.Checks.{graph_row}

-- "Every node gets the number of words from it."
abbrev pub counts : Graph → List ℕ
counts g = table (length g) (count kbwg g)

-- "no loop"
abbrev pub Loopless : Graph → Type 0
Loopless g = (q : ℕ) → Loops kbwg g q → ⊥

-- "13 no loop, some count at least 4,294,967,295": the lowest count that is too many
abbrev pub count_limit : ℕ
count_limit = most

-- "10+ under 2 nodes or over 16,777,216; 8; 9; 11+ a lent list too short"; "The work list is at least 2 × N numbers"
abbrev pub count_row : Graph → ℕ → ℕ → Row
count_row g lent_counts lent_work = graph_row g ++ (ltb lent_counts (length g) || ltb lent_work (2 * length g), refusing 11 []) ∷ []

-- What counting answers, and the counts then, for the counts lent before; limit is the lowest count that is too many. Refusal 12 carries the
-- lowest node that loops (02, C-14), so that no answer leaves a choice (`counted-once`). "First N counts are 0 after 12 or 13".
pub data IsCounted (limit : ℕ) (g : Graph) (lent : List ℕ) (lent_work : ℕ) : Answer → List ℕ → Type 0 where
  unfit : {r : Answer} → first_of (count_row g (length lent) lent_work) ≡ some r → IsCounted limit g lent lent_work r lent
  loop : {q : ℕ} → first_of (count_row g (length lent) lent_work) ≡ none → LowestLoop kbwg g q
      → IsCounted limit g lent lent_work (refused 12 (q ∷ [])) (cleared (length g) lent)
  many : {p : ℕ} → first_of (count_row g (length lent) lent_work) ≡ none → Loopless g → p < length g → limit ≤ count kbwg g p
      → IsCounted limit g lent lent_work (refused 13 []) (cleared (length g) lent)
  all : first_of (count_row g (length lent) lent_work) ≡ none → Loopless g → ((p : ℕ) → p < length g → count kbwg g p < limit)
      → IsCounted limit g lent lent_work (gives []) (counts g ++ drop (length g) lent)

-- "counts where counting its N nodes, with lists long enough, gives none"
pub record Counts (limit : ℕ) (g : Graph) : Type 0 where
  pub fit : first_of (graph_row g) ≡ none
  pub loopless : Loopless g
  pub few : (p : ℕ) → p < length g → count kbwg g p < limit
