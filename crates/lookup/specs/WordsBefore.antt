-- How many words begin before a letter, and what run lookup's answer says of them: document 02, C-16.
use Rattle.std.specs.Prelude.{◌≡◌, Bool, true, false, List, [], ◌∷◌, ℕ, ◌<◌, ltb, length}
use Rattle.std.proofs.Math.Option.{none}
use Rattle.laws.specs.Lists.{filtered}
use Rattle.answers.specs.Answers.{Answer, gives, first_of}
use Rattle.node.specs.Nodes.{kbwg, arc}
use Rattle.graph.specs.Runs.{Graph, node, ascends}
use Rattle.graph.specs.Words.{Word, words}
use Rattle.graph.specs.Checks.{graph_row}
use Rattle.lookup.specs.Steps.{on, ◌>>=◌, answer}
use Rattle.lookup.specs.Walks.{step_to}
use Rattle.lookup.specs.GraphLent.{GraphLent}

-- the word has a first tile, and it is below t
abbrev pub begins_below : ℕ → Word → Bool
begins_below t [] = false
begins_below t (a ∷ w) = ltb a t

-- "how many words begin before a letter": of the words from p those that begin below t
unfoldable pub words_before : Graph → ℕ → ℕ → ℕ
words_before g p t = length (filtered (begins_below t) (words kbwg g p))

-- run lookup in a graph by its words: the node with the tile in the run that the arc of p leads to, and the words from there before the tile
unfoldable pub named_before : Graph → ℕ → ℕ → Answer
named_before g p t = answer do
  q ← step_to g p t
  on (gives (q ∷ words_before g (arc kbwg (node g p)) t ∷ []))

-- "its contract names the words before the tile, in ascending runs with the graph's own counts": of every graph that loads, ascends and stands
-- with its counts at the head of what is lent
abbrev pub NamesBefore : List ℕ → List ℕ → ℕ → ℕ → Answer → Type 0
NamesBefore nodes counted p t said =
    (g : Graph) → first_of (graph_row g) ≡ none → ascends kbwg g ≡ true → GraphLent g nodes counted → p < length g → said ≡ named_before g p t
