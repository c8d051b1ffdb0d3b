-- Words in play, from document 02, C-17.
use Rattle.std.specs.Prelude.{Bool, true, false, not, List, [], ◌∷◌, ℕ, zero, suc, ◌*◌, ◌/◌, ◌%◌, ◌^◌, eqb, ltb, leb, length, get_or, set}
use Rattle.std.specs.Int.Bits.{bit_xor}
use Rattle.laws.specs.Bits.{has_bit}
use Rattle.laws.specs.Lists.{filtered}
use Rattle.answers.specs.Answers.{Answer, gives, nothing, refused}
use Rattle.graph.specs.Runs.{Graph}
use Rattle.graph.specs.Words.{Word}
use Rattle.lookup.specs.Steps.{Try, on, stop, ◌>>=◌, require, lent}
use Rattle.lookup.specs.Walks.{word_index}
use Rattle.in_play.specs.declared.Move.{Move}
use Rattle.in_play.specs.declared.Move.TheVariants as M

-- ---- the record
-- "Bit n mod 8 of lent byte n / 8 records word number n of the start node."
abbrev pub in_play : List ℕ → ℕ → Bool
in_play bits n = has_bit (get_or bits (n / 8) 0) (n % 8)

-- the record with that bit turned over, and no other: an arrival finds it clear, a leaving set
unfoldable pub turned : List ℕ → ℕ → List ℕ
turned bits n = set bits (n / 8) (bit_xor (get_or bits (n / 8) 0) (2 ^ (n % 8)))

-- so many numbers in a row, from the first on
abbrev pub up_from : ℕ → ℕ → List ℕ
up_from first zero = []
up_from first (suc n) = first ∷ up_from (suc first) n

-- "words not yet in play": their numbers, of so many words
unfoldable pub not_in_play : List ℕ → ℕ → List ℕ
not_in_play bits total = filtered (λ n. not (in_play bits n)) (up_from 0 total)

-- ---- the checks, in their order
-- how many words the start has: "14 for a start not lent"; "A start node 0 is a lexicon of no words."
unfoldable pub start_count : Graph → List ℕ → ℕ → Try ℕ
start_count nodes counts start = do
  _ ← lent nodes start
  elim (eqb start 0) [ true ↦ on 0 | false ↦ lent counts start ]

-- "a refusal of word numbers, 29 for a word not in the lexicon"
abbrev pub number_of : Answer → Try ℕ
number_of (gives []) = stop (refused 29 [])
number_of (gives (n ∷ ns)) = on n
number_of nothing = stop (refused 29 [])
number_of (refused k vs) = stop (refused k vs)

-- the word's number and the start's count, with so many bytes lent; limit is the greatest count: "11 for too few bits, a refusal of word
-- numbers, 29 for a word not in the lexicon or whose number isn't below the start's count"
unfoldable pub in_lexicon : ℕ → Graph → List ℕ → ℕ → Word → ℕ → Try (ℕ × ℕ)
in_lexicon limit nodes counts start word bytes = do
  total ← start_count nodes counts start
  _ ← require (leb total (8 * bytes)) (refused 11 [])
  n ← number_of (word_index limit nodes counts start word)
  _ ← require (ltb n total) (refused 29 [])
  on (n, total)

-- "30 for an arrival of a word in play, 31 for leaving when it isn't"
abbrev pub allowed : Move → Bool → Try Bool
allowed M.Arrives there = require (not there) (refused 30 [])
allowed M.Leaves there = require there (refused 31 [])

-- ---- the call
pub record Played : Type 0 where
  pub answer : Answer
  pub bits : List ℕ

-- "the answer has the number of words not yet in play and the lowest number among them, or none"
abbrev pub remaining : ℕ → List ℕ → Answer
remaining count [] = gives (count ∷ [])
remaining count (lowest ∷ ns) = gives (count ∷ lowest ∷ [])

-- what a record of so many words answers
abbrev pub recorded : ℕ → List ℕ → Played
recorded total bits = record { answer = remaining (length (not_in_play bits total)) (not_in_play bits total); bits = bits }

-- "A refused call changes no bit."
abbrev pub played : List ℕ → Try (ℕ × ℕ) → Played
played bits (stop r) = record { answer = r; bits = bits }
played bits (on (n, total)) = recorded total (turned bits n)

-- the move of word n, one of so many
abbrev pub moved_by : Move → List ℕ → ℕ → ℕ → Try (ℕ × ℕ)
moved_by move bits n total = allowed move (in_play bits n) >>= λ _. on (n, total)

unfoldable pub play : ℕ → Move → Graph → List ℕ → ℕ → Word → List ℕ → Played
play limit move nodes counts start word bits =
    played bits (in_lexicon limit nodes counts start word (length bits) >>= λ found. moved_by move bits found.0 found.1)
