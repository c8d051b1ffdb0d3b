-- The bytes of a Macondo file, from document 01, "Files for other programs".
use Rattle.std.specs.Prelude.{Bool, ◌&&◌, not, List, [], ◌∷◌, ◌++◌, map, ℕ, suc, ◌+◌, ◌*◌, ◌^◌, eqb, length, get_or}
use Rattle.laws.specs.BitSets.{bit_set}
use Rattle.laws.specs.Firsts.{place_in, firsts}
use Rattle.laws.specs.Lists.{filtered, join_all}
use Rattle.laws.specs.Sorting.{sorted}
use Rattle.endian.specs.Bytes.{big_endian, big_endians}
use Rattle.node.specs.Nodes.{kbwg, tile, arc, accepts}
use Rattle.graph.specs.Runs.{Graph, start_node}
use Rattle.export.specs.Starts.{run_of, has_arc}
use Rattle.export.specs.Blocks.{met, block_at}
use Rattle.macondo_file.specs.Alphabet.{letters, by_tile, letter_at}

pub data Format : Type 0 where
  dawg gaddag : Format

-- what sets a format apart: "`cdwg` or `cgdg`", and the node whose arc is the start
pub record Marks : Type 0 where
  pub magic : List ℕ
  pub root : ℕ

abbrev pub marks : Format → Marks
marks dawg = record { magic = 0x63 ∷ 0x64 ∷ 0x77 ∷ 0x67 ∷ []; root = 0 }
marks gaddag = record { magic = 0x63 ∷ 0x67 ∷ 0x64 ∷ 0x67 ∷ []; root = 1 }

-- a node that ends a word in a letter: "tile 0's bit dropped"
abbrev pub ends_in_letter : ℕ → Bool
ends_in_letter v = accepts kbwg v && not (eqb (tile kbwg v) 0)

-- "a set has bit r for the letter of rank r": the set of p's run, where `rank` gives the letter of a node
abbrev pub set_with : (ℕ → ℕ) → Graph → ℕ → ℕ
set_with rank g p = bit_set (map rank (filtered ends_in_letter (run_of g p)))

-- "the code points stand in rank order"
abbrev pub code_points : List ℕ → List ℕ
code_points labels = map (λ t. get_or labels t 0) (letters labels)

-- "letter count (4), code points (4 each)", and so for the sets (8 each) and the nodes
abbrev pub section : ℕ → List ℕ → List ℕ
section width numbers = big_endian 4 (length numbers) ++ big_endians width numbers

module _ (g : Graph) (labels : List ℕ) where
  -- "then its arcs by that order": the nodes of a run that have arcs
  unfoldable pub arcs_of : ℕ → List ℕ
  arcs_of p = sorted (by_tile labels) (filtered has_arc (run_of g p))

  -- the blocks that the arcs of p's block lead to
  abbrev pub children_of : ℕ → List ℕ
  children_of p = map (arc kbwg) (arcs_of p)

  -- "A block is one head, then its arcs": its nodes
  abbrev pub size_of : ℕ → ℕ
  size_of p = suc (length (arcs_of p))

  -- "Blocks are numbered depth first, each before its children", from the start node
  abbrev pub blocks_from : ℕ → List ℕ
  blocks_from s = met eqb children_of 64 [] s

  -- a block's set: that of its run, by the letters written
  unfoldable pub set_of : ℕ → ℕ
  set_of p = set_with (letter_at labels) g p

  module _ (f : Format) where
    -- "depth first, each before its children", from the start of the format
    unfoldable pub blocks : List ℕ
    blocks = blocks_from (start_node g (marks f).root)

    -- "sets from 0 by first appearance in that order"
    unfoldable pub letter_sets : List ℕ
    letter_sets = firsts [] (map set_of blocks)

    -- "A block's number is the place of its head, from 0."
    abbrev pub block_number : ℕ → ℕ
    block_number p = block_at eqb size_of 0 blocks p

    -- "Head: arc count × 2^24 + letter-set number; arc: letter × 2^24 + child block."
    abbrev pub head_node : ℕ → ℕ
    head_node p = length (arcs_of p) * 2 ^ 24 + place_in letter_sets (set_of p)

    abbrev pub arc_node : ℕ → ℕ
    arc_node v = letter_at labels v * 2 ^ 24 + block_number (arc kbwg v)

    abbrev pub arc_nodes : ℕ → List ℕ
    arc_nodes p = map arc_node (arcs_of p)

    -- "A block is one head, then its arcs by that order."
    unfoldable pub block_of : ℕ → List ℕ
    block_of p = head_node p ∷ arc_nodes p

    -- the blocks one after the other, as they are numbered
    unfoldable pub macondo_nodes : List ℕ
    macondo_nodes = join_all (map block_of blocks)

    -- "`cdwg` or `cgdg`; name length (1 byte), name; letter count (4), code points (4 each); letter-set count (4), sets (8 each); node count
    -- (4), nodes (4 each)."
    unfoldable pub macondo_file : List ℕ → List ℕ
    macondo_file name =
        (marks f).magic ++ (length name ∷ name) ++ (section 4 (code_points labels) ++ (section 8 letter_sets ++ section 4 macondo_nodes))
