-- What the program `wordlist` prints for an input; from document 01, "Five nodes to check by".
use Rattle.std.specs.Prelude.{◌≡◌, true, false, List, [], ◌∷◌, ◌++◌, ℕ, suc, ◌*◌, ◌≤◌, ◌<◌, eqb, ltb, length, take}
use Rattle.answers.specs.Answers.{Answer, gives, nothing, refused}
use Rattle.node.specs.Nodes.{kbwg}
use Rattle.node.specs.declared.Layout.TheVariants.{Kwg}
use Rattle.graph.specs.Runs.{Graph, start_node}
use Rattle.graph.specs.Words.{Word, words}
use Rattle.graph.specs.Counting.{IsCounted, count_row, count_limit}
use Rattle.graph.specs.Lent.{WorkKept}
use Rattle.pieces.specs.Pieces.{LoadOutcome, load_whole}
use Rattle.listing.specs.Lines.{line, refusal_line}

-- ---- the words
-- "each word from the start (none if its arc is 0)"
unfoldable pub start_words : Graph → List Word
start_words g = elim (eqb (start_node g 0) 0) [ true ↦ [] | false ↦ words kbwg g (start_node g 0) ]

-- "a word of over 256 tiles is 16"
abbrev pub most_tiles : ℕ
most_tiles = 256

-- the words with their numbers, from number i on; "A refusal .. ends the output"
unfoldable pub listed : ℕ → List Word → List ℕ
listed i [] = []
listed i (w ∷ ws) = elim (ltb most_tiles (length w)) [ true ↦ refusal_line 16 | false ↦ line i w ++ listed (suc i) ws ]

-- ---- loading and counting
-- "reads a KWG of up to 4,096 nodes"
abbrev pub most_nodes : ℕ
most_nodes = 4_096

-- of four bytes each
abbrev pub most_bytes : ℕ
most_bytes = 16_384

-- "with lists long enough": for the most nodes, their counts, and two numbers a node to count in
pub record LongEnough (lent_nodes lent_counts lent_work : List ℕ) : Type 0 where
  pub nodes : most_nodes ≤ length lent_nodes
  pub counts : most_nodes ≤ length lent_counts
  pub work : 2 * most_nodes ≤ length lent_work

-- The first bytes of an input, as many as a buffer has room for, were read into it: so many.
abbrev pub ReadInto : List ℕ → ℕ → List ℕ → Type 0
ReadInto buffer read input = take (length buffer) input ≡ take read buffer

-- the load of a whole input, over lent nodes
abbrev pub load_input : List ℕ → List ℕ → LoadOutcome
load_input input lent_nodes = load_whole (length input) Kwg lent_nodes input

-- its answer: begin's refusal, or else what finish answers
abbrev pub last_answer : Answer → Answer → Answer
last_answer (refused n vs) finished = refused n vs
last_answer (gives vs) finished = finished
last_answer nothing finished = finished

abbrev pub load_answer : LoadOutcome → Answer
load_answer l = last_answer l.begun l.finished

-- an answer that refuses by this number, whatever it carries
abbrev pub RefusesBy : Answer → ℕ → Type 0
RefusesBy (refused m vs) n = m ≡ n
RefusesBy (gives vs) n = ⊥
RefusesBy nothing n = ⊥

-- the work list once a graph was counted
abbrev pub CountWork : Graph → List ℕ → List ℕ → List ℕ → Type 0
CountWork g lent_counts lent_work work = WorkKept (count_row g (length lent_counts) (length lent_work)) (2 * length g) lent_work work

-- What opening an input ends in: a refusal's number, or a graph that loads and counts.
pub data Ends : Type 0 where
  refuses : ℕ → Ends
  lists : Graph → Ends

-- How opening an input ends, over lent nodes, counts and work, and these lists then.
module _ (input lent_nodes lent_counts lent_work : List ℕ) where
  pub data Opens : Ends → List ℕ → List ℕ → List ℕ → Type 0 where
    -- "a longer input is 2"
    longer : most_bytes < length input → Opens (refuses 2) lent_nodes lent_counts lent_work
    unloaded : {n : ℕ} → length input ≤ most_bytes → RefusesBy (load_answer (load_input input lent_nodes)) n
        → Opens (refuses n) (load_input input lent_nodes).nodes lent_counts lent_work
    uncounted : {n size : ℕ} {r : Answer} {counts work : List ℕ} → length input ≤ most_bytes
        → load_answer (load_input input lent_nodes) ≡ gives (size ∷ [])
        → IsCounted count_limit (take size (load_input input lent_nodes).nodes) lent_counts (length lent_work) r counts → RefusesBy r n
        → CountWork (take size (load_input input lent_nodes).nodes) lent_counts lent_work work
        → Opens (refuses n) (load_input input lent_nodes).nodes counts work
    counted : {size : ℕ} {counts work : List ℕ} → length input ≤ most_bytes → load_answer (load_input input lent_nodes) ≡ gives (size ∷ [])
        → IsCounted count_limit (take size (load_input input lent_nodes).nodes) lent_counts (length lent_work) (gives []) counts
        → CountWork (take size (load_input input lent_nodes).nodes) lent_counts lent_work work
        → Opens (lists (take size (load_input input lent_nodes).nodes)) (load_input input lent_nodes).nodes counts work

-- ---- what is printed
-- "A refusal prints `refused`, tab, number"; else the words from the start, numbered from 0
abbrev pub printed : Ends → List ℕ
printed (refuses n) = refusal_line n
printed (lists g) = listed 0 (start_words g)

-- The whole output for an input. It is determined (`WholeOutput`).
pub record Prints (input lent_nodes lent_counts lent_work output : List ℕ) : Type 0 where
  pub enough : LongEnough lent_nodes lent_counts lent_work
  pub ends : Ends
  pub nodes : List ℕ
  pub counts : List ℕ
  pub work : List ℕ
  pub opens : Opens input lent_nodes lent_counts lent_work ends nodes counts work
  pub is : output ≡ printed ends
