-- What document 02, C-18, says of a lexicon from a word list, sentence by sentence.
use Rattle.std.specs.Prelude.{◌≡◌, true, ◌≢◌, ℕ, ◌-◌, ◌≤◌, ◌<◌, length, drop}
use mathlib.Core.List.{List, [], ◌∷◌, ◌++◌, Memᴰ}
use Rattle.std.proofs.Math.Option.{none}
use Rattle.laws.specs.Lists.{has_entries, join_all}
use Rattle.answers.specs.Answers.{Answer, gives, refused, first_of}
use Rattle.endian.specs.Bytes.{node_bytes}
use Rattle.node.specs.Nodes.{kbwg, arc, is_end}
use Rattle.node.specs.declared.Layout.TheVariants.{Kbwg}
use Rattle.graph.specs.Runs.{Graph, node, ascends}
use Rattle.graph.specs.Words.{Word, words}
use Rattle.graph.specs.Counting.{count_row, Counts, IsCounted}
use Rattle.pieces.specs.Pieces.{load_pieces}
use Rattle.lxd_file.specs.File.{child, reached}

pub record FromList (ws : List Word) (g : Graph) : Type 0 where
  -- "node 0 (tile 0, an end) with the root's arc, node 1 the same without arc, then runs that ascend"
  pub root : has_entries ws ≡ true → node g 0 ≡ 0x240
  pub bare : node g 1 ≡ 0x40
  pub ascending : ascends kbwg g ≡ true
  -- "Each arc goes to a run's first node": the node before it is an end
  pub begins : (v : ℕ) → Memᴰ v g → arc kbwg v ≢ 0 → (2 ≤ arc kbwg v) × (is_end kbwg (node g (arc kbwg v - 1)) ≡ true)
  -- "runs take consecutive places when first met, as in LXD": the nodes of an LXD file of the graph are its own in their order, and
  -- its children are their arcs
  pub in_order : has_entries ws ≡ true → reached g ≡ drop 2 g
  pub places : has_entries ws ≡ true → (v : ℕ) → Memᴰ v g → child g (arc kbwg v) ≡ arc kbwg v
  -- "and no two of these hold the same words"
  pub apart : (v w : ℕ) → Memᴰ v g → Memᴰ w g → arc kbwg v ≢ 0 → arc kbwg w ≢ 0
      → words kbwg g (arc kbwg v) ≡ words kbwg g (arc kbwg w) → arc kbwg v ≡ arc kbwg w
  -- "It must load", however its file is cut
  pub loads : (lent : Graph) → length g ≤ length lent → (pieces : List (List ℕ)) → join_all pieces ≡ node_bytes g
      → ((load_pieces (length (node_bytes g)) Kbwg lent pieces).finished ≡ gives (length g ∷ []))
      × ((load_pieces (length (node_bytes g)) Kbwg lent pieces).nodes ≡ g ++ drop (length g) lent)
  -- "and count unless the list has too many words, where counting says so as before"
  pub counts : (limit : ℕ) → length ws < limit → Counts limit g
  pub too_many : (limit : ℕ) → limit ≤ length ws → (lent : List ℕ) (lent_work : ℕ) → first_of (count_row g (length lent) lent_work) ≡ none
      → {r : Answer} {after : List ℕ} → IsCounted limit g lent lent_work r after → r ≡ refused 13 []
  -- "its words from the root must be the list"
  pub spells : words kbwg g 2 ≡ ws
  -- "an empty list gives arc 0 and two nodes"
  pub none-listed : ws ≡ [] → g ≡ 0x40 ∷ 0x40 ∷ []
