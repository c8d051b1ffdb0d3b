-- The bytes of an LXD file, from document 01, "Files for other programs".
use Rattle.std.specs.Prelude.{true, false, List, [], ◌∷◌, ◌++◌, map, ℕ, eqb, length, get_or, take, replicate}
use Rattle.laws.specs.Lists.{join_all}
use Rattle.endian.specs.Bytes.{to_bytes, node_bytes}
use Rattle.node.specs.Nodes.{BitLayout, bits, Tile, Accepts, End, Arc, kbwg, tile, arc, accepts, is_end, values, packed}
use Rattle.graph.specs.Runs.{Graph, start_node}
use Rattle.graph.specs.Words.{count}
use Rattle.export.specs.Starts.{run_of, arcs_from}
use Rattle.export.specs.Blocks.{met, block_at}
use Rattle.windows1252.specs.Windows1252.{byte_written}

-- "Node: end bit 31, accepts 30, letter 22–29, child 0–21."
abbrev pub lxd : BitLayout
lxd =
    record {
      end = bits 31 31;
      accepts = bits 30 30;
      tile = bits 22 29;
      arc = bits 0 21;
      upward = Arc ∷ Tile ∷ Accepts ∷ End ∷ [];
    }

-- "zero-filled", to so many places
abbrev pub filled : ℕ → List ℕ → List ℕ
filled size l = take size (l ++ replicate size 0)

-- a text in a field of so many bytes
abbrev pub field : ℕ → List ℕ → List ℕ
field size text = filled size (map byte_written text)

-- "Letters, title and date are to follow the .. CP1252 table" (document 02, C-15): the byte of a tile's label
abbrev pub letter : List ℕ → ℕ → ℕ
letter labels t = byte_written (get_or labels t 0)

-- an arc of 0 is written 0, any other by its place
abbrev pub child_by : (ℕ → ℕ) → ℕ → ℕ
child_by place p = elim (eqb p 0) [ true ↦ 0 | false ↦ place p ]

-- "Node: end bit 31, accepts 30, letter 22–29, child 0–21": a node of the graph as one of the file, by where its arc leads
abbrev pub node_by : List ℕ → (ℕ → ℕ) → ℕ → ℕ
node_by labels child v = packed lxd (values (letter labels (tile kbwg v)) (accepts kbwg v) (is_end kbwg v) (child (arc kbwg v)))

-- "64; node count; title (32 bytes) and date (20), zero-filled; word count .. Numbers are 4 bytes."
abbrev pub header : ℕ → List ℕ → List ℕ → ℕ → List ℕ
header nodes title date words = to_bytes 64 ++ (to_bytes nodes ++ (field 32 title ++ (field 20 date ++ to_bytes words)))

module _ (g : Graph) where
  -- the runs from the start, in the order in which they are first met, depth first
  unfoldable pub runs : List ℕ
  runs = met eqb (arcs_from g) 64 [] (start_node g 0)

  -- the nodes of the runs met from the start; a node stands once for each of these runs that it is in
  abbrev pub reached : List ℕ
  reached = join_all (map (run_of g) runs)

  -- how many places the run from p takes
  abbrev pub run_size : ℕ → ℕ
  run_size p = length (run_of g p)

  -- "a run takes consecutive places when first met", after nodes 0 and 1
  abbrev pub run_place : ℕ → ℕ
  run_place p = block_at eqb run_size 2 runs p

  -- where an arc to p leads in the file
  unfoldable pub child : ℕ → ℕ
  child p = child_by run_place p

  module _ (labels : List ℕ) where
    -- node v as it stands in the file
    unfoldable pub lxd_node : ℕ → ℕ
    lxd_node v = node_by labels child v

    -- "Nodes 0 and 1 are 8A800000 and 8A800002 .. With no words, node 2 is 8A800000 and the last."
    unfoldable pub lxd_nodes : List ℕ
    lxd_nodes =
        0x8A800000 ∷ 0x8A800002 ∷ elim (eqb (count kbwg g (start_node g 0)) 0) [
          | true ↦ 0x8A800000 ∷ []
          | false ↦ map lxd_node reached
        ]

    -- "word count; nodes": the header, then the nodes
    unfoldable pub lxd_file : List ℕ → List ℕ → List ℕ
    lxd_file title date = header (length lxd_nodes) title date (count kbwg g (start_node g 0)) ++ node_bytes lxd_nodes
