-- Demand 3, undivided: however a graph file is cut it ends as in one piece; where it loads, counts and ascends, the numbers below a
-- node's count name exactly its words, in order, each word gives its number back and everything else gets none; every file that is
-- written spells exactly the words it should. It speaks of the definitions that the contracts of the calls name.
use Rattle.std.specs.Prelude.{◌≡◌, true, List, [], ◌∷◌, ℕ, ◌<◌, take, drop}
use Rattle.laws.specs.Lists.{join_all}
use Rattle.answers.specs.Answers.{gives}
use Rattle.node.specs.Nodes.{kbwg}
use Rattle.node.specs.declared.Layout.{Layout}
use Rattle.graph.specs.Runs.{Graph, run, ascends, start_node}
use Rattle.graph.specs.Words.{in_order, spelled, words}
use Rattle.graph.specs.Counting.{IsCounted}
use Rattle.pieces.specs.Pieces.{LoadsAsWhole, LoadsHoweverCut, load_pieces}
use Rattle.lookup.specs.GraphLent.{GraphLent}
use Rattle.numbers.specs.WordNumbers.{WordNumbers}
use Rattle.export.specs.Written.{Written}
use Rattle.macondo_file.specs.File.{Format, marks}
use Rattle.macondo_file.specs.Row.{to_macondo}
use Rattle.macondo_file.specs.Spelling.{SpellsMacondo, ending_in_letters}
use Rattle.lxd_file.specs.Row.{to_lxd}
use Rattle.lxd_file.specs.Spelling.{SpellsLxd, words_spelled}

-- "Words from p: for each node of the run in order, its tile alone if it accepts; then, where its arc is not 0, its tile before each word
-- from the arc."
abbrev pub WordsAt : Graph → ℕ → Type 0
WordsAt g p = words kbwg g p ≡ in_order (spelled kbwg (words kbwg g)) (run kbwg (drop p g))

-- once written: the call answered the file's length, and these are the bytes
pub record Wrote (w : Written) (file : List ℕ) : Type 0 where
  pub size : ℕ
  pub answered : w.answer ≡ gives (size ∷ [])
  pub bytes : file ≡ take size w.bytes

-- Begin, the feeds of the pieces, and finish, over lent nodes.
module _ (announced : ℕ) (layout : Layout) (lent : Graph) (pieces : List (List ℕ)) where
  abbrev pub loaded_nodes : Graph
  loaded_nodes = (load_pieces announced layout lent pieces).nodes

  -- the first n of them
  abbrev pub loaded_graph : ℕ → Graph
  loaded_graph n = take n loaded_nodes

  -- "A file loads where finish gives no refusal, and counts where counting its N nodes, with lists long enough, gives none"; its runs
  -- ascend; `counted` is what counting left of the counts it was lent
  pub record CountedLoad (limit n : ℕ) (counted : List ℕ) : Type 0 where
    pub loads : (load_pieces announced layout lent pieces).finished ≡ gives (n ∷ [])
    pub lent_counts : List ℕ
    pub lent_work : ℕ
    pub counts : IsCounted limit (loaded_graph n) lent_counts lent_work (gives []) counted
    pub ascending : ascends kbwg (loaded_graph n) ≡ true

-- The limit is the lowest count that is too many, of as many bits as the counts have.
pub record Demand3 (limit : ℕ) : Type 0 where
  -- for every list of load calls: answer, state and table are those of one feed of the joined bytes, every feed's answer included
  pub loading : (announced : ℕ) (layout : Layout) (lent : Graph) (pieces : List (List ℕ)) → LoadsAsWhole announced layout lent pieces
  -- however a graph file is cut
  pub cutting : (layout : Layout) (lent : Graph) (pieces : List (List ℕ)) → LoadsHoweverCut layout lent (join_all pieces) pieces
  -- from every node above 0: the numbers below its count name its words, its words give their numbers back, and all else gets none
  pub numbering : (announced : ℕ) (layout : Layout) (lent : Graph) (pieces : List (List ℕ)) (n : ℕ) (counted : List ℕ)
      → CountedLoad announced layout lent pieces limit n counted
      → (p : ℕ) → 0 < p → p < n → WordNumbers limit (loaded_graph announced layout lent pieces n) (loaded_nodes announced layout lent pieces) counted p
  -- the same where node and count lists are lent longer than N
  pub lending : (announced : ℕ) (layout : Layout) (lent : Graph) (pieces : List (List ℕ)) (n : ℕ) (counted : List ℕ)
      → CountedLoad announced layout lent pieces limit n counted
      → (nodes counts : List ℕ) → GraphLent (loaded_graph announced layout lent pieces n) nodes counts
      → (p : ℕ) → 0 < p → p < n → WordNumbers limit (loaded_graph announced layout lent pieces n) nodes counts p
  -- every Macondo file, once written, spells exactly the words of its start node, renamed, less those ending in tile 0: each once, with
  -- the labels as its code points, to the file's last byte
  pub macondo : (g : Graph) (labels name : List ℕ) (f : Format) (lent_work : ℕ) (lent file : List ℕ)
      → Wrote (to_macondo g labels name f lent_work lent) file
      → WordsAt g (start_node g (marks f).root) × SpellsMacondo file labels (ending_in_letters g f)
  -- every LXD file, once written, spells exactly the words of its start node, renamed: as a list, in order, in code points; and its header
  -- has title and date, and says how many nodes and words are read
  pub lxd : (g : Graph) (labels title date : List ℕ) (lent_work : ℕ) (lent file : List ℕ)
      → Wrote (to_lxd g labels title date lent_work lent) file
      → WordsAt g (start_node g 0) × SpellsLxd file title date (words_spelled g labels)
