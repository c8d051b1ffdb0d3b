-- What an LXD file spells, from document 01: "The words read, as a list, are those from s, in order, each tile renamed to its label."
use Rattle.std.specs.Prelude.{◌≡◌, List, map, ℕ, length, get_or}
use Rattle.std.proofs.Math.Option.{some}
use Rattle.node.specs.Nodes.{kbwg}
use Rattle.graph.specs.Runs.{Graph, start_node}
use Rattle.graph.specs.Words.{Word, words}
use Rattle.lxd_file.specs.File.{filled}
use Rattle.lxd_file.specs.Reading.{nodes_read, lxd_words, title_read, date_read, node_count, word_count}

-- "each tile renamed to its label"
abbrev pub renamed_to_labels : List ℕ → Word → Word
renamed_to_labels labels = map (λ t. get_or labels t 0)

-- the words that the file should spell
abbrev pub words_spelled : Graph → List ℕ → List Word
words_spelled g labels = map (renamed_to_labels labels) (words kbwg g (start_node g 0))

-- the file spells the words, every letter a code point; its header has the title and the date, and the numbers of the nodes and words that
-- are read
pub record SpellsLxd (file title date : List ℕ) (ws : List Word) : Type 0 where
  pub read : lxd_words file ≡ map (map some) ws
  pub title-read : title_read file ≡ map some (filled 32 title)
  pub date-read : date_read file ≡ map some (filled 20 date)
  pub nodes-counted : node_count file ≡ length (nodes_read file)
  pub words-counted : word_count file ≡ length ws
