-- The graph of a word list, from document 02, C-18: "The result is a KBWG graph: node 0 (tile 0, an end) with the root's arc, node 1
-- the same without arc, then runs that ascend. Each arc goes to a run's first node, runs take consecutive places when first met, as
-- in LXD, and no two of these hold the same words."
use Rattle.std.specs.Prelude.{Bool, true, false, List, [], ◌∷◌, map, ℕ}
use Rattle.laws.specs.Lists.{is_empty, join_all}
use Rattle.laws.specs.Same.{same, same_list}
use Rattle.node.specs.Nodes.{kbwg, values, packed}
use Rattle.graph.specs.Runs.{Graph}
use Rattle.graph.specs.Words.{Word}
use Rattle.export.specs.Blocks.{met, block_at}
use Rattle.built.specs.Branches.{Branch, branches, first_tiles, tile_alone, onward, onwards}

unfoldable pub same_words : List Word → List Word → Bool
same_words us vs = same_list same us vs

abbrev pub node_of : ℕ → Bool → Bool → ℕ → ℕ
node_of t a e r = packed kbwg (values t a e r)

-- a node for each first tile, the last an end; `to` gives the place of a run
unfoldable pub run_nodes : (List Word → ℕ) → List Branch → List ℕ
run_nodes to [] = []
run_nodes to (b ∷ bs) = node_of b.first (tile_alone b) (is_empty bs) (to (onward b)) ∷ run_nodes to bs

module _ (ws : List Word) where
  -- the runs, each its words, so that "no two of these hold the same words"; in the order in which they are first met, depth first, a run
  -- before those that it leads to
  unfoldable pub word_runs : List (List Word)
  word_runs = met same_words onwards 64 [] ws

  -- "runs take consecutive places when first met", after nodes 0 and 1
  abbrev pub words_place : List Word → ℕ
  words_place us = block_at same_words first_tiles 2 word_runs us

  -- "Each arc goes to a run's first node"; to no words no arc leads
  unfoldable pub arc_to : List Word → ℕ
  arc_to us = elim (is_empty us) [ true ↦ 0 | false ↦ words_place us ]

  unfoldable pub built : Graph
  built = node_of 0 false true (arc_to ws) ∷ node_of 0 false true 0 ∷ join_all (map (λ us. run_nodes arc_to (branches us)) word_runs)
