-- The five nodes of document 01 meet the premises of what is promised: of demand 3, fed in pieces, one of them refused, finished, counted,
-- numbered and written in every format, and of alphagram lexicons.
use mathlib.Core.Path.{◌≡◌, refl}
use mathlib.Core.List.{List, [], ◌∷◌, ◌++◌}
use Prim.Native.Nat.{ℕ, zero, suc, ◌≤◌, ◌<◌}
use native.Mathlib.Omega.{arith}
use lib.Dec.{lit<}
use lib.ListN.{length, take, replicate}
use Rattle.laws.specs.BitSets.{bit_set}
use Rattle.laws.specs.Lists.{all_mem}
use Rattle.laws.specs.Sorting.{inserted_all}
use Rattle.endian.specs.Bytes.{whole_nodes, part_node, node_bytes, big_endians}
use Rattle.answers.specs.Answers.{gives, refused, first_of}
use Rattle.node.specs.Nodes.{kbwg, fits}
use Rattle.node.specs.declared.Layout.TheVariants.{Kwg}
use Rattle.graph.specs.Runs.{run, ascends, largest_arc, last_ends}
use Rattle.graph.specs.Words.{Word, in_order, spelled, words_within, words, count}
use Rattle.laws.specs.Tables.{table}
use Rattle.graph.specs.Counting.{Counts, IsCounted, all, count_limit}
use Rattle.graph.specs.ChecksLaws.{fit}
use Rattle.graph.specs.UpwardLaws.{leads_up, upward-loopless}
use Rattle.load.specs.Repacking.{fitting, first_misfit}
use Rattle.load.specs.Loading.{begin, feed, finish, holding, state_after, nodes_after, zeros}
use Rattle.pieces.specs.Pieces.{load_pieces, fed_pieces, feed_all}
use Rattle.lookup.specs.GraphLent.{GraphLent}
use Rattle.numbers.specs.WordNumbers.{WordNumbers}
use Rattle.export.specs.Starts.{deeper}
use Rattle.export.specs.Blocks.{met, block_at}
use Rattle.windows1252.specs.Windows1252.{entries, byte_of}
use Rattle.export.specs.Written.{Written}
use Rattle.macondo_file.specs.Alphabet.{letters, letter_of}
use Rattle.macondo_file.specs.File.{Format, dawg, gaddag, arcs_of, set_of, blocks, letter_sets, block_of, macondo_nodes, macondo_file}
use Rattle.macondo_file.specs.Row.{macondo_row, to_macondo}
use Rattle.macondo_file.specs.Spelling.{SpellsMacondo}
use Rattle.lxd_file.specs.File.{runs, child, lxd_node, lxd_nodes, lxd_file}
use Rattle.lxd_file.specs.Row.{lxd_row, to_lxd}
use Rattle.lxd_file.specs.Spelling.{SpellsLxd}
use Rattle.alphagrams.specs.Alphagrams.{NeverDescends, AlphagramLexicon, AlphaMeans}
use Rattle.alphagrams.proofs.MeaningLaws.{alpha-means}
use Rattle.guarantees.specs.Demand3.{CountedLoad, Wrote, loaded_nodes}
use Rattle.guarantees.proofs.Demand3Laws.{demand_3}
use Rattle.guarantees.specs.Starred.{five_nodes, labels}

few : (p : ℕ) → p < length five_nodes → count kbwg five_nodes p < count_limit
unfolding words words_within in_order spelled run
few zero h = lit< tt
few (suc zero) h = lit< tt
few (suc (suc zero)) h = lit< tt
few (suc (suc (suc zero))) h = lit< tt
few (suc (suc (suc (suc zero)))) h = lit< tt
few (suc (suc (suc (suc (suc p))))) h = absurd (omega arith)

pub G-counts : Counts count_limit five_nodes
unfolding first_of largest_arc last_ends leads_up
G-counts = record { fit = refl; loopless = upward-loopless five_nodes refl; few = few }

-- G as a KWG file, cut inside nodes, with a piece of no bytes, and among them one that is a byte longer than what is missing
abbrev pub G-pieces : List (List ℕ)
G-pieces =
    (0x02 ∷ 0x00 ∷ 0x40 ∷ 0x00 ∷ 0x00 ∷ [])
    ∷ (0x00 ∷ 0x40 ∷ [])
    ∷ replicate 14 0xFF
    ∷ []
    ∷ (0x00 ∷ 0x04 ∷ 0x00 ∷ 0x80 ∷ 0x01 ∷ 0x04 ∷ 0x00 ∷ 0x40 ∷ 0x02 ∷ 0x00 ∷ 0x00 ∷ 0xC0 ∷ 0x02 ∷ [])
    ∷ []

-- lent nodes and counts, longer than G, and bytes for the files
abbrev lent : List ℕ
lent = replicate 6 7

abbrev counted : List ℕ
counted = 3 ∷ 0 ∷ 3 ∷ 1 ∷ 1 ∷ 7 ∷ []

-- the same nodes and counts at the head of other lists
abbrev other_nodes : List ℕ
other_nodes = five_nodes ++ replicate 3 0xFFFFFFFF

abbrev other_counts : List ℕ
other_counts = 3 ∷ 0 ∷ 3 ∷ 1 ∷ 1 ∷ 5 ∷ 6 ∷ []

abbrev bytes : List ℕ
bytes = replicate 90 7

G-counted : IsCounted count_limit five_nodes lent 10 (gives []) counted
unfolding first_of largest_arc last_ends table words words_within in_order spelled run
G-counted = all refl G-counts.loopless few

pub G-ready : CountedLoad 20 Kwg lent G-pieces count_limit 5 counted
unfolding load_pieces fed_pieces feed_all begin feed finish first_of holding state_after nodes_after whole_nodes part_node first_misfit
    fitting fits zeros largest_arc last_ends ascends
G-ready = record { loads = refl; lent_counts = lent; lent_work = 10; counts = G-counted; ascending = refl }

-- "5+ piece longer than what is missing", and left out
G-answers : (fed_pieces 20 Kwg lent G-pieces).answers ≡ gives [] ∷ gives [] ∷ refused 5 [] ∷ gives [] ∷ gives [] ∷ []
unfolding fed_pieces feed_all begin feed first_of holding state_after nodes_after whole_nodes part_node first_misfit fitting fits zeros
G-answers = refl

G-lent : GraphLent five_nodes other_nodes other_counts
unfolding table words words_within in_order spelled run
G-lent = record { nodes-are = refl; counts-are = refl }

abbrev G-macondo : Format → Written
G-macondo f = to_macondo five_nodes labels [] f 40 bytes

-- a title and a letter over FF, with a byte in Windows-1252: the letters oe as one
abbrev title : List ℕ
title = 0x152 ∷ []

abbrev lxd_labels : List ℕ
lxd_labels = 0x3F ∷ 0x152 ∷ 0x42 ∷ []

abbrev G-lxd : Written
G-lxd = to_lxd five_nodes lxd_labels title [] 40 bytes

-- node 1's arc is 0, so the gaddag begins at node 0
macondo-answers : ((G-macondo dawg).answer ≡ gives (57 ∷ [])) × ((G-macondo gaddag).answer ≡ gives (73 ∷ []))
unfolding to_macondo macondo_row first_of largest_arc last_ends ascends deeper run inserted_all table met block_at letters letter_of
    arcs_of set_of bit_set blocks letter_sets block_of macondo_nodes macondo_file big_endians
macondo-answers = (refl, refl)

lxd-answer : G-lxd.answer ≡ gives (84 ∷ [])
unfolding to_lxd lxd_row first_of largest_arc last_ends deeper run met block_at runs child lxd_node lxd_nodes lxd_file entries byte_of node_bytes
    words words_within in_order spelled
lxd-answer = refl

-- the files, and the words that they spell
file_of : (w : Written) (n : ℕ) → w.answer ≡ gives (n ∷ []) → Wrote w (take n w.bytes)
file_of w n e = record { size = n; answered = e; bytes = refl }

dawg-file : Wrote (G-macondo dawg) (take 57 (G-macondo dawg).bytes)
dawg-file = file_of (G-macondo dawg) 57 macondo-answers.0

gaddag_file : Wrote (G-macondo gaddag) (take 73 (G-macondo gaddag).bytes)
gaddag_file = file_of (G-macondo gaddag) 73 macondo-answers.1

lxd-file : Wrote G-lxd (take 84 G-lxd.bytes)
lxd-file = file_of G-lxd 84 lxd-answer

abbrev words_of_dawg : List Word
words_of_dawg = (1 ∷ []) ∷ (1 ∷ 2 ∷ []) ∷ (2 ∷ 2 ∷ []) ∷ []

abbrev words_of_gaddag : List Word
words_of_gaddag = (0 ∷ 1 ∷ []) ∷ (0 ∷ 1 ∷ 2 ∷ []) ∷ (0 ∷ 2 ∷ 2 ∷ []) ∷ []

abbrev words_of_lxd : List Word
words_of_lxd = (0x152 ∷ []) ∷ (0x152 ∷ 0x42 ∷ []) ∷ (0x42 ∷ 0x42 ∷ []) ∷ []

spelled-dawg : SpellsMacondo (take 57 (G-macondo dawg).bytes) labels words_of_dawg
unfolding words words_within in_order spelled run
spelled-dawg = ((demand_3 count_limit).macondo five_nodes labels [] dawg 40 bytes (take 57 (G-macondo dawg).bytes) dawg-file).1

spelled_gaddag : SpellsMacondo (take 73 (G-macondo gaddag).bytes) labels words_of_gaddag
unfolding words words_within in_order spelled run
spelled_gaddag = ((demand_3 count_limit).macondo five_nodes labels [] gaddag 40 bytes (take 73 (G-macondo gaddag).bytes) gaddag_file).1

spelled-lxd : SpellsLxd (take 84 G-lxd.bytes) title [] words_of_lxd
unfolding words words_within in_order spelled run
spelled-lxd = ((demand_3 count_limit).lxd five_nodes lxd_labels title [] 40 bytes (take 84 G-lxd.bytes) lxd-file).1

-- every premise at once, with what it brings
pub record Met : Type 0 where
  pub answers : (fed_pieces 20 Kwg lent G-pieces).answers ≡ gives [] ∷ gives [] ∷ refused 5 [] ∷ gives [] ∷ gives [] ∷ []
  pub ready : CountedLoad 20 Kwg lent G-pieces count_limit 5 counted
  pub numbered : WordNumbers count_limit five_nodes (loaded_nodes 20 Kwg lent G-pieces) counted 2
  pub lent_longer : WordNumbers count_limit five_nodes other_nodes other_counts 2
  pub dawg-written : Wrote (G-macondo dawg) (take 57 (G-macondo dawg).bytes)
  pub dawg-spelled : SpellsMacondo (take 57 (G-macondo dawg).bytes) labels words_of_dawg
  pub gaddag_written : Wrote (G-macondo gaddag) (take 73 (G-macondo gaddag).bytes)
  pub gaddag_spelled : SpellsMacondo (take 73 (G-macondo gaddag).bytes) labels words_of_gaddag
  pub lxd-written : Wrote G-lxd (take 84 G-lxd.bytes)
  pub lxd-spelled : SpellsLxd (take 84 G-lxd.bytes) title [] words_of_lxd

pub G-met : Met
unfolding load_pieces fed_pieces feed_all begin feed finish first_of holding state_after nodes_after whole_nodes part_node first_misfit
    fitting fits zeros largest_arc last_ends
G-met =
    let demand = demand_3 count_limit in
    record {
      answers = G-answers;
      ready = G-ready;
      numbered = demand.numbering 20 Kwg lent G-pieces 5 counted G-ready 2 (omega arith) (omega arith);
      lent_longer = demand.lending 20 Kwg lent G-pieces 5 counted G-ready other_nodes other_counts G-lent 2 (omega arith) (omega arith);
      dawg-written = dawg-file;
      dawg-spelled = spelled-dawg;
      gaddag_written = gaddag_file;
      gaddag_spelled = spelled_gaddag;
      lxd-written = lxd-file;
      lxd-spelled = spelled-lxd;
    }

never-descends : AlphagramLexicon five_nodes
unfolding words words_within in_order spelled run
never-descends w m = all_mem NeverDescends (words kbwg five_nodes 2) w (tt, ((omega arith, tt), ((omega arith, tt), tt))) m

pub G-alpha : (tally : List ℕ) → length tally ≤ 64 → AlphaMeans five_nodes tally
unfolding ascends
G-alpha tally short = alpha-means five_nodes (fit five_nodes G-counts.fit) G-counts.loopless refl never-descends tally short
