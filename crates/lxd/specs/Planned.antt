-- What is known before the file is written.
use Rattle.std.specs.Prelude.{◌≡◌, true, false, List, ℕ, ◌+◌, ◌<◌, eqb, length, get_or}
use Rattle.laws.specs.Lists.{some_of}
use Rattle.node.specs.Nodes.{kbwg, tile}
use Rattle.graph.specs.Runs.{Graph, start_node}
use Rattle.graph.specs.Words.{count}
use Rattle.graph.specs.ChecksLaws.{Fit}
use Rattle.base.specs.Numbers.{most}
use Rattle.export.specs.Starts.{unlabelled, deeper}
use Rattle.windows1252.specs.Windows1252.{no_byte}
use Rattle.block_record.specs.declared.BlockTally.{BlockTally}
use Rattle.lxd_file.specs.File.{runs, reached}
use Rattle.lxd_blocks.specs.RunsNumbered.{RunsHeld}

-- what is known where the checks up to that of the words refuse nothing: so many words
pub record ChecksPassed (g : Graph) (labels : List ℕ) (words : ℕ) : Type 0 where
  pub sound : Fit g
  pub labelled : unlabelled g labels ≡ false
  pub ended : deeper g 64 (start_node g 0) ≡ false
  pub bytes : some_of (λ v. no_byte (get_or labels (tile kbwg v) 0)) (reached g) ≡ false
  pub counted : words ≡ count kbwg g (start_node g 0)
  pub few : words < most

-- the same with the runs in the record
pub record Planned (g : Graph) (labels w : List ℕ) (words : ℕ) (t : BlockTally) : Type 0 where
  pub found : ChecksPassed g labels words
  pub room : length g + length g < length w
  pub held : RunsHeld g w t (runs g)

-- "With no words, node 2 is .. the last"
unfoldable pub nodes_written : ℕ → ℕ → ℕ
nodes_written words nodes = elim (eqb words 0) [ true ↦ 3 | false ↦ nodes ]
