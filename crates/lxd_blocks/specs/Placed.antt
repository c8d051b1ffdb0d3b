-- The file's nodes by the record of places.
use Rattle.std.specs.Prelude.{List, map, ℕ, ◌^◌, ◌≤◌, ◌<◌, length}
use Rattle.laws.specs.Lists.{join_all}
use Rattle.endian.specs.Bytes.{node_bytes}
use Rattle.graph.specs.Runs.{Graph}
use Rattle.export.specs.Starts.{run_of}
use Rattle.block_record.specs.Record.{child_in}
use Rattle.lxd_file.specs.File.{node_by}

module _ (labels w : List ℕ) where
  -- a node as it is written by the record
  unfoldable pub node_in : ℕ → ℕ
  node_in v = node_by labels (child_in w) v

  abbrev pub bytes_in : List ℕ → List ℕ
  bytes_in vs = node_bytes (map node_in vs)

-- the bytes of runs one after the other
abbrev pub order_bytes : Graph → List ℕ → List ℕ → List ℕ → List ℕ
order_bytes g labels w ps = bytes_in labels w (join_all (map (run_of g) ps))

-- what writing reads of the record
pub record LxdReady (g : Graph) (w : List ℕ) : Type 0 where
  pub room : length g ≤ length w
  pub child_fits : (p : ℕ) → p < length g → child_in w p < 2 ^ 22
