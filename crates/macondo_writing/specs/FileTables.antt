-- The file's parts as the writer reads them from its tables: a list of ranks by tile, and the work list, which holds for each node the
-- place of its block plus 1, from n on each block's run, from 2n on each block's set number, and from 3n on the dictionary of the sets.
use Rattle.std.specs.Prelude.{◌≡◌, List, [], ◌∷◌, ◌++◌, map, ℕ, zero, suc, ◌+◌, ◌-◌, ◌*◌, ◌≤◌, ◌<◌, length, get_or, take}
use Rattle.node.specs.Nodes.{kbwg, tile, arc}
use Rattle.endian.specs.Bytes.{big_endian}
use Rattle.graph.specs.Runs.{Graph}
use Rattle.macondo_file.specs.File.{section, arcs_of}
use Rattle.letter_sets.specs.Letters.{Small}
use Rattle.letter_sets.specs.SetNumbers.{sets_in}
use Rattle.macondo_writing.specs.declared.tables.SectionCounts.{SectionCounts}

-- "arc: letter × 2^24 + child block"
unfoldable pub arc_in : List ℕ → List ℕ → ℕ → ℕ
arc_in ranks w v = get_or ranks (tile kbwg v) 0 * 16777216 + (get_or w (arc kbwg v) 0 - 1)

-- "A block is one head, then its arcs"; "Head: arc count × 2^24 + letter-set number"
unfoldable pub block_in : List ℕ → List ℕ → ℕ → List ℕ → List ℕ
block_in ranks w set arcs = (length arcs * 16777216 + set) ∷ map (arc_in ranks w) arcs

-- the nodes of so many blocks from block j on
unfoldable pub block_nodes_from : Graph → List ℕ → List ℕ → List ℕ → ℕ → ℕ → List ℕ
block_nodes_from g labels ranks w j zero = []
block_nodes_from g labels ranks w j (suc k) =
    block_in ranks w (get_or w (2 * length g + j) 0) (arcs_of g labels (get_or w (length g + j) 0)) ++ block_nodes_from g labels ranks w (suc j) k

-- the file, with its magic as one number, the first letters of a list and the counts that the walk made
unfoldable pub file_in : ℕ → List ℕ → Graph → List ℕ → List ℕ → List ℕ → List ℕ → SectionCounts → List ℕ
file_in magic name g labels letters ranks w c =
    big_endian 4 magic ++ (length name ∷ name)
    ++ (section 4 (map (λ t. get_or labels t 0) (take (length labels - 1) letters))
    ++ (section 8 (sets_in (length g) w c.sets) ++ section 4 (block_nodes_from g labels ranks w 0 c.blocks)))

-- each number is one that the relation allows for the entry
pub record MadeOf (made : ℕ → ℕ → Type 0) (l vs : List ℕ) : Type 0 where
  pub many : length vs ≡ length l
  pub each : (i : ℕ) → i < length l → made (get_or l i 0) (get_or vs i 0)

-- What must hold of the tables for the file to be written from them: each block is of a node, and every number fits its bits.
pub record TablesFilled (g : Graph) (labels ranks w : List ℕ) (c : SectionCounts) : Type 0 where
  pub small : Small ranks
  pub room : 8 * length g ≤ length w
  pub few-blocks : c.blocks ≤ length g
  pub few-sets : c.sets ≤ length g
  pub place-fits : (q : ℕ) → q < length g → get_or w q 0 ≤ 16777216
  pub runs : (j : ℕ) → j < c.blocks → get_or w (length g + j) 0 < length g
  pub numbers : (j : ℕ) → j < c.blocks → get_or w (2 * length g + j) 0 ≤ 16777216
  pub nodes : c.nodes ≡ length (block_nodes_from g labels ranks w 0 c.blocks)
