-- What the calls leave, in the terms of their definitions.
use Rattle.std.specs.Prelude.{◌≡◌, Bool, true, false, Result, Ok, Err, Option as Maybe, None, Some, List, [], ◌∷◌, ◌++◌, ℕ, ◌+◌, ◌≤◌, eqb, length, get_or, drop}
use Rattle.std.specs.declared.ops.ControlFlow.{ControlFlow}
use Rattle.std.specs.declared.ops.ControlFlow.TheVariants.{Continue, Break}
use Rattle.std.proofs.Math.Option.{Option, none, some}
use Rattle.laws.specs.Lists.{join_all}
use Rattle.answers.specs.Answers.{Answer, gives, Refusal as Why, refusing}
use Rattle.load.specs.Said.{begin_why, finish_why}
use Rattle.count.specs.Said.{count_refusal}
use Rattle.endian.specs.Puts.{Puts}
use Rattle.graph.specs.Runs.{Graph, start_node}
use Rattle.graph.specs.Words.{Word}
use Rattle.graph.specs.Counting.{IsCounted, count_limit}
use Rattle.pieces.specs.Pieces.{LoadOutcome}
use Rattle.listing.specs.Wordlist.{Ends, refuses, lists, start_words, load_answer, RefusesBy, CountWork, LongEnough, ReadInto, Opens, Prints}
use Rattle.listing.specs.Blocks.{line_for, goes_on, longest, Block}
use Rattle.listing.specs.Printing.{Next, output_blocks}
use Rattle.listing.specs.declared.opening.Unprinted.{Unprinted}
use Rattle.listing.specs.declared.opening.Unprinted.TheVariants.{Refusal, Words}
use Rattle.listing.specs.declared.opening.OpenRefusal.{OpenRefusal}
use Rattle.listing.specs.declared.opening.OpenRefusal.TheVariants as O
use Rattle.listing.specs.declared.opening.StartWords.{StartWords}
use Rattle.listing.specs.declared.blocks.BlockFilled.{BlockFilled}
use Rattle.listing.specs.declared.blocks.BlockMade.{BlockMade}

-- bytes at the front of a list, so many, and its old ones after them
pub record AtFront (bytes before after : List ℕ) (written : ℕ) : Type 0 where
  pub size : written ≡ length bytes
  pub stored : after ≡ bytes ++ drop (length bytes) before

-- ---- opening
-- why an input is not listed: "a longer input is 2", or as the calls refuse it
abbrev pub open_why : OpenRefusal → Why
open_why O.TooLong = refusing 2 []
open_why (O.Begin why) = begin_why why
open_why (O.Finish why) = finish_why why
open_why (O.Count why) = count_refusal why

-- what is to be printed then
abbrev pub unprinted_by : Result StartWords OpenRefusal → Unprinted
unprinted_by (Ok w) = Words w.start w.count 0
unprinted_by (Err why) = Refusal (open_why why).number

abbrev pub LoadSaid : Result ℕ OpenRefusal → Answer → Type 0
LoadSaid (Ok n) a = a ≡ gives (n ∷ [])
LoadSaid (Err why) a = RefusesBy a (open_why why).number

pub record LoadsAs (l : LoadOutcome) (r : Result ℕ OpenRefusal) (nodes : List ℕ) : Type 0 where
  pub said : LoadSaid r (load_answer l)
  pub table : nodes ≡ l.nodes

-- the start, and the words from it by the counts
abbrev pub at_start : List ℕ → List ℕ → Unprinted
at_start nodes counts = Words (start_node nodes 0) (elim (eqb (start_node nodes 0) 0) [ true ↦ 0 | false ↦ get_or counts (start_node nodes 0) 0 ]) 0

abbrev pub CountSaid : Unprinted → Answer → Graph → Type 0
CountSaid (Refusal n) a g = RefusesBy a n
CountSaid (Words s c i) a g = (a ≡ gives []) × (s ≡ start_node g 0) × (c ≡ length (start_words g)) × (i ≡ 0)

pub record CountsAs (g : Graph) (lent_counts lent_work : List ℕ) (r : Unprinted) (counts work : List ℕ) : Type 0 where
  pub answer : Answer
  pub said : CountSaid r answer g
  pub counted : IsCounted count_limit g lent_counts (length lent_work) answer counts
  pub free : CountWork g lent_counts lent_work work

-- a refusal's number, or all words: the start, how many there are from it, and 0 to go on from
abbrev pub OpenSaid : Unprinted → Ends → Type 0
OpenSaid (Refusal n) (refuses m) = n ≡ m
OpenSaid (Words s c i) (lists g) = (s ≡ start_node g 0) × (c ≡ length (start_words g)) × (i ≡ 0)
OpenSaid (Refusal n) (lists g) = ⊥
OpenSaid (Words s c i) (refuses m) = ⊥

pub record Opening (input lent_nodes lent_counts lent_work : List ℕ) (r : Unprinted) (nodes counts work : List ℕ) : Type 0 where
  pub enough : LongEnough lent_nodes lent_counts lent_work
  pub ends : Ends
  pub said : OpenSaid r ends
  pub opens : Opens input lent_nodes lent_counts lent_work ends nodes counts work

-- the opening of every input of which so many bytes were read into a buffer
abbrev pub OpensRead : List ℕ → ℕ → List ℕ → List ℕ → List ℕ → Unprinted → List ℕ → List ℕ → List ℕ → Type 0
OpensRead buffer read lent_nodes lent_counts lent_work r nodes counts work =
    ((input : List ℕ) → ReadInto buffer read input → Opening input lent_nodes lent_counts lent_work r nodes counts work)

-- ---- blocks
-- the place after a line, and whether the list goes on
abbrev pub end_of : ControlFlow ℕ ℕ → ℕ
end_of (Continue end) = end
end_of (Break end) = end

abbrev pub continues : ControlFlow ℕ ℕ → Bool
continues (Continue end) = true
continues (Break end) = false

pub record PutWord (number : ℕ) (walked : Word × Answer) (before : List ℕ) (at : ℕ) (after : List ℕ) (r : ControlFlow ℕ ℕ) : Type 0 where
  pub more : continues r ≡ goes_on walked.1
  pub puts : Puts (line_for number walked.0 walked.1) before at after (end_of r)
  pub within : end_of r ≤ at + longest

pub record FillsBlock (b : Block) (before after : List ℕ) (r : BlockFilled) : Type 0 where
  pub next : r.next ≡ b.next
  pub front : AtFront b.bytes before after r.written

-- the next block at the front of the lent bytes and what is left after it, or the lent bytes as before where nothing was left
abbrev pub Makes : Option Next → List ℕ → List ℕ → Maybe BlockMade → Type 0
Makes (some b) before after (Some m) = AtFront b.bytes before after m.written × (m.unprinted ≡ b.unprinted)
Makes none before after None = after ≡ before
Makes (some b) before after None = ⊥
Makes none before after (Some m) = ⊥

-- ---- the program
-- What the calls come to, whatever is read and lent: their blocks join to the whole output, and no other bytes are that.
pub record WholeOutput : Type 0 where
  pub joins : (input buffer : List ℕ) (read : ℕ) (lent_nodes lent_counts lent_work nodes counts work : List ℕ) (u : Unprinted)
      → ReadInto buffer read input
      → OpensRead buffer read lent_nodes lent_counts lent_work u nodes counts work
      → Prints input lent_nodes lent_counts lent_work (join_all (output_blocks nodes counts u))
  pub once : (input lent_nodes lent_counts lent_work : List ℕ) {a b : List ℕ} → Prints input lent_nodes lent_counts lent_work a
      → Prints input lent_nodes lent_counts lent_work b
      → a ≡ b
