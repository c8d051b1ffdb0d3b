-- The words from a node, and how many there are, from document 01, "Nodes and words" and "Counting and numbers".
use Rattle.std.specs.Prelude.{true, false, List, [], ◌∷◌, ◌++◌, map, ℕ, zero, suc, eqb, length, drop}
use Rattle.laws.specs.Lists.{join_all}
use Rattle.node.specs.Nodes.{BitLayout, tile, arc, accepts}
use Rattle.graph.specs.Runs.{Graph, run}

abbrev pub Word : Type 0
Word = List ℕ

-- "for each node of the run in order"
unfoldable pub in_order : (ℕ → List Word) → List ℕ → List Word
in_order f vs = join_all (map f vs)

module _ (y : BitLayout) where
  -- "its tile alone if it accepts; then, where its arc is not 0, its tile before each word from the arc"
  -- (`from` gives the words from a node)
  unfoldable pub spelled : (ℕ → List Word) → ℕ → List Word
  spelled from v =
      elim (accepts y v) [ true ↦ (tile y v ∷ []) ∷ [] | false ↦ [] ]
      ++ elim (eqb (arc y v) 0) [ true ↦ [] | false ↦ map (tile y v ∷◌) (from (arc y v)) ]

  -- the words from p that follow fewer than k arcs
  unfoldable pub words_within : ℕ → Graph → ℕ → List Word
  words_within zero g p = []
  words_within (suc k) g p = in_order (spelled (λ q. words_within k g q)) (run y (drop p g))

  -- "Words from p": where nothing loops, no path follows as many arcs as there are nodes (`words-equation`)
  unfoldable pub words : Graph → ℕ → List Word
  words g p = words_within (length g) g p

  -- "the number of words from it"
  abbrev pub count : Graph → ℕ → ℕ
  count g p = length (words g p)
