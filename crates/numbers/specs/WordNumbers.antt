-- What the numbers of a graph's words mean, from demand 3: the numbers below a node's count name exactly its words, each once, the lower
-- number the lower word; each word gives its number back; all else gets none.
use Rattle.std.specs.Prelude.{◌≡◌, ℕ, ◌≤◌, ◌<◌, length, get_or, drop}
use mathlib.Core.List.{List, [], ◌∷◌, Memᴰ}
use Rattle.answers.specs.Answers.{gives, nothing}
use Rattle.node.specs.Nodes.{kbwg}
use Rattle.graph.specs.Runs.{Graph, run}
use Rattle.graph.specs.Words.{Word, in_order, spelled, words}
use Rattle.graph.specs.Order.{Ascending}
use Rattle.lookup.specs.Walks.{word_by_index, word_index}

-- the word with the number i among those from p
abbrev pub word_at : Graph → ℕ → ℕ → Word
word_at g p i = get_or (words kbwg g p) i []

pub record WordNumbers (limit : ℕ) (g : Graph) (nodes counted : List ℕ) (p : ℕ) : Type 0 where
  -- "Words from p: for each node of the run in order, its tile alone if it accepts; then, where its arc is not 0, its tile before each
  -- word from the arc."
  pub equation : words kbwg g p ≡ in_order (spelled kbwg (words kbwg g)) (run kbwg (drop p g))
  -- "Every node gets the number of words from it."
  pub count-is : get_or counted p 0 ≡ length (words kbwg g p)
  -- the numbers below the node's count name its words
  pub named : (i room : ℕ) → i < get_or counted p 0 → let w = word_at g p i in length w ≤ room
      → word_by_index counted nodes room p i ≡ (w, gives (length w ∷ []))
  -- each once, the lower number the lower word
  pub ascending : Ascending (words kbwg g p)
  -- each word gives its number back
  pub given_back : (i : ℕ) → i < get_or counted p 0 → word_index limit nodes counted p (word_at g p i) ≡ gives (i ∷ [])
  -- all else gets none
  pub other-words : (w : Word) → (Memᴰ w (words kbwg g p) → ⊥) → word_index limit nodes counted p w ≡ nothing
  pub other-numbers : (i room : ℕ) → get_or counted p 0 ≤ i → word_by_index counted nodes room p i ≡ ([], nothing)
