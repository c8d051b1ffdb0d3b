-- The starred cases of document 01, "Five nodes to check by", as the entries of one list; that
-- they hold is computed from the definitions themselves.
use Rattle.std.specs.Prelude.{◌≡◌, List, [], ◌∷◌, map, ℕ, get_or}
use Rattle.node.specs.Nodes.{kwg, kbwg}
use Rattle.answers.specs.Answers.{Answer, gives, nothing}
use Rattle.node.specs.declared.Layout.TheVariants.{Kwg}
use Rattle.graph.specs.Runs.{Graph, start_node}
use Rattle.graph.specs.Words.{Word, count}
use Rattle.graph.specs.Counting.{counts, count_limit}
use Rattle.load.specs.Repacking.{fitting}
use Rattle.lookup.specs.Walks.{word_index, word_by_index}
use Rattle.letters.specs.LetterBits.{letter_bits_of}
use Rattle.letters.specs.AlphaSets.{cross_set}
use Rattle.pieces.specs.Pieces.{LoadOutcome, load_whole}
use Rattle.macondo_file.specs.File.{dawg, letter_sets, macondo_nodes}
use Rattle.lxd_file.specs.File.{lxd_nodes}

-- "G in KBWG words (hexadecimal): 240, 40, 481, 442, C2"
abbrev pub five_nodes : Graph
five_nodes = 0x240 ∷ 0x40 ∷ 0x481 ∷ 0x442 ∷ 0xC2 ∷ []

-- "tiles 1 and 2 are labelled A, B, tile 0 `?`"
abbrev pub labels : List ℕ
labels = 0x3F ∷ 0x41 ∷ 0x42 ∷ []

-- what a load answers at its end, and the nodes
abbrev loaded : LoadOutcome → Answer × Graph
loaded l = (l.finished, l.nodes)

-- the accepting bits and all bits of a node
abbrev node_bits : ℕ → ℕ × ℕ
node_bits p = let l = letter_bits_of five_nodes (counts five_nodes) (counts five_nodes) in (get_or l.accepting p 0, get_or l.all p 0)

-- A sentence of the paper, as what the rules give and what the paper says they give.
pub record Case : Type 1 where
  pub Side : Type 0
  pub found : Side
  pub expected : Side

abbrev pub Holds : Case → Type 0
Holds c = c.found ≡ c.expected

unfoldable pub cases : List Case
cases =
    -- "As KWG: 00400002 00400000 01800004 02400004 02C00000."
    record {
      Side = List ℕ;
      found = fitting kbwg kwg five_nodes;
      expected = 0x00400002 ∷ 0x00400000 ∷ 0x01800004 ∷ 0x02400004 ∷ 0x02C00000 ∷ [];
    }
    -- "Counts 3, 0, 3, 1, 1."
    ∷ record { Side = List ℕ; found = counts five_nodes; expected = 3 ∷ 0 ∷ 3 ∷ 1 ∷ 1 ∷ [] }
    -- "One KWG node 00400000: two nodes 40, 40."
    ∷ record {
      Side = Answer × Graph;
      found = loaded (load_whole 4 Kwg (7 ∷ 7 ∷ 7 ∷ []) (0x00 ∷ 0x00 ∷ 0x40 ∷ 0x00 ∷ []));
      expected = (gives (2 ∷ []), 0x40 ∷ 0x40 ∷ 7 ∷ []);
    }
    -- "Numbers 0, 1, 2 from node 2: 1; 1 2; 2 2."
    ∷ record {
      Side = List (Word × Answer);
      found = map (word_by_index (counts five_nodes) five_nodes 2 2) (0 ∷ 1 ∷ 2 ∷ []);
      expected = (1 ∷ [], gives (1 ∷ [])) ∷ (1 ∷ 2 ∷ [], gives (2 ∷ [])) ∷ (2 ∷ 2 ∷ [], gives (2 ∷ [])) ∷ [];
    }
    -- "Number 3: none."
    ∷ record { Side = Word × Answer; found = word_by_index (counts five_nodes) five_nodes 2 2 3; expected = ([], nothing) }
    -- "Word 2: none."
    ∷ record { Side = Answer; found = word_index count_limit five_nodes (counts five_nodes) 2 (2 ∷ []); expected = nothing }
    -- "Accepting bits of node 2: 2; all bits: 6."
    ∷ record { Side = ℕ × ℕ; found = node_bits 2; expected = (2, 6) }
    -- "Cross set of one A: 5."
    ∷ record { Side = Answer; found = cross_set five_nodes (0 ∷ 1 ∷ []); expected = gives (5 ∷ []) }
    -- "Of one B: 7."
    ∷ record { Side = Answer; found = cross_set five_nodes (0 ∷ 0 ∷ 1 ∷ []); expected = gives (7 ∷ []) }
    -- "Macondo nodes: 02000000 00000003 01000003 00000001; sets 1, 2."
    ∷ record {
      Side = List ℕ × List ℕ;
      found = (macondo_nodes five_nodes labels dawg, letter_sets five_nodes labels dawg);
      expected = (0x02000000 ∷ 0x00000003 ∷ 0x01000003 ∷ 0x00000001 ∷ [], 1 ∷ 2 ∷ []);
    }
    -- "LXD nodes: 8A800000 8A800002 50400004 90800004 D0800000; 3 words."
    ∷ record {
      Side = List ℕ × ℕ;
      found = (lxd_nodes five_nodes labels, count kbwg five_nodes (start_node five_nodes 0));
      expected = (0x8A800000 ∷ 0x8A800002 ∷ 0x50400004 ∷ 0x90800004 ∷ 0xD0800000 ∷ [], 3);
    }
    ∷ []
