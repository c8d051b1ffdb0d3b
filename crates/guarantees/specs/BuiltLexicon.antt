-- Demand 3 applies to a lexicon from a word list, from document 02, C-18: "It must load, and count unless the list has too many words, where
-- counting says so as before; its words from the root must be the list".
use Rattle.std.specs.Prelude.{◌≡◌, true, List, [], ◌∷◌, ◌++◌, ℕ, ◌*◌, ◌≤◌, ◌<◌, length, take, drop}
use Rattle.laws.specs.Lists.{has_entries, join_all}
use Rattle.answers.specs.Answers.{gives}
use Rattle.endian.specs.Bytes.{node_bytes}
use Rattle.node.specs.Nodes.{kbwg}
use Rattle.node.specs.declared.Layout.TheVariants.{Kbwg}
use Rattle.graph.specs.Runs.{Graph, start_node}
use Rattle.graph.specs.Words.{Word, words}
use Rattle.graph.specs.Counting.{counts}
use Rattle.numbers.specs.WordNumbers.{WordNumbers}
use Rattle.built.specs.Listed.{words_listed}
use Rattle.built.specs.Build.{build_as}
use Rattle.guarantees.specs.Demand3.{CountedLoad, loaded_nodes, loaded_graph}

-- What a lexicon of the words is once it is loaded, from a file of so many bytes in these pieces, and counted.
pub record LexiconInUse (limit : ℕ) (ws : List Word) (announced : ℕ) (lent : Graph) (pieces : List (List ℕ)) (n : ℕ) (counted : List ℕ) : Type 0 where
  -- it meets demand 3's premise
  pub loaded : CountedLoad announced Kbwg lent pieces limit n counted
  -- "its words from the root must be the list"; with no words the root has no arc
  pub root : has_entries ws ≡ true → start_node (loaded_graph announced Kbwg lent pieces n) 0 ≡ 2
  pub lexicon : words kbwg (loaded_graph announced Kbwg lent pieces n) 2 ≡ ws
  -- so that the numbers from the root name the list's words
  pub numbers : has_entries ws ≡ true
      → WordNumbers limit (loaded_graph announced Kbwg lent pieces n) (loaded_nodes announced Kbwg lent pieces) counted 2

-- The limit is the lowest count that is too many. Of every list that building answers with a node count, and that has fewer words: the file
-- of the nodes, however it is cut, and counted with lists long enough.
abbrev pub BuiltLexicons : ℕ → Type 0
BuiltLexicons limit =
    (bytes : List ℕ) (lent_work : ℕ) (lent_nodes : Graph) (n : ℕ)
    → (build_as bytes lent_work lent_nodes).answer ≡ gives (n ∷ [])
    → length (words_listed bytes) < limit
    → let file = node_bytes (take n (build_as bytes lent_work lent_nodes).nodes) in
    (lent : Graph) → n ≤ length lent → (pieces : List (List ℕ)) → join_all pieces ≡ file
    → (lent_counts : List ℕ) (count_work : ℕ) → n ≤ length lent_counts → 2 * n ≤ count_work
    → LexiconInUse limit (words_listed bytes) (length file) lent pieces n (counts (loaded_graph (length file) Kbwg lent pieces n) ++ drop n lent_counts)
