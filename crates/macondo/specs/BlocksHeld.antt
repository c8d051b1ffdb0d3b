-- What numbering the blocks leaves for the writing of the file.
use Rattle.std.specs.Prelude.{◌≡◌, false, List, ℕ, length}
use Rattle.graph.specs.Runs.{Graph, start_node}
use Rattle.export.specs.Starts.{deeper}
use Rattle.block_record.specs.Record.{HoldsBlocks}
use Rattle.block_record.specs.declared.BlockTally.{BlockTally}
use Rattle.macondo_file.specs.File.{Format, marks, size_of, blocks_from}

-- In the work list: the record of the blocks met from the start, where every chain ends.
pub record BlocksHeld (g : Graph) (labels : List ℕ) (f : Format) (w : List ℕ) (t : BlockTally) : Type 0 where
  pub holds : HoldsBlocks (length g) (size_of g labels) 0 w t (blocks_from g labels (start_node g (marks f).root))
  pub shallow : deeper g 64 (start_node g (marks f).root) ≡ false
