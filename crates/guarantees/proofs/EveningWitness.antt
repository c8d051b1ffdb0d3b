-- An evening over the five nodes of document 01, whose words from node 2 are 1; 1 2; 2 2: the answers are computed, and the premises of what is
-- promised are met, over the record as it is and over one whose bits past the count are set.
use mathlib.Core.Path.{◌≡◌, refl}
use mathlib.Core.Bool.{false}
use mathlib.Core.List.{List, [], ◌∷◌}
use Prim.Native.Nat.{ℕ, zero, suc, ◌%◌, ◌<◌}
use native.Mathlib.Omega.{arith}
use lib.ListN.{length, replicate}
use Rattle.laws.specs.Bits.{zero_bit}
use Rattle.laws.specs.Same.{same}
use Rattle.laws.specs.Tables.{table}
use Rattle.endian.specs.Bytes.{whole_nodes, part_node}
use Rattle.answers.specs.Answers.{Answer, gives, refused, first_of}
use Rattle.node.specs.Nodes.{fits}
use Rattle.node.specs.declared.Layout.TheVariants.{Kwg}
use Rattle.graph.specs.Runs.{run, largest_arc, last_ends}
use Rattle.graph.specs.Words.{Word, in_order, spelled, words_within, words}
use Rattle.graph.specs.Counting.{counts, count_limit}
use Rattle.load.specs.Repacking.{fitting, first_misfit}
use Rattle.load.specs.Loading.{begin, feed, finish, holding, state_after, nodes_after, zeros}
use Rattle.pieces.specs.Pieces.{load_pieces, fed_pieces, feed_all}
use Rattle.lookup.specs.Steps.{lent, difference, sum}
use Rattle.lookup.specs.Walks.{find_in, arc_of, words_between, passed, passed_after, passed_first, number_ending, index_from, index_of_word, word_index}
use Rattle.in_play.specs.InPlay.{in_play, turned, not_in_play, start_count, in_lexicon, play}
use Rattle.in_play.specs.declared.Move.TheVariants as M
use Rattle.evening.specs.History.{Call, Evening, play_all, lexicon, count_after, numbers_after, answer_after, answers_after}
use Rattle.evening.specs.Trusted.{Trusted}
use Rattle.guarantees.specs.Starred.{five_nodes}
use Rattle.guarantees.proofs.EveningLaws.{evening}
use Rattle.guarantees.proofs.PageWitness.{G-own}
use Rattle.guarantees.proofs.Witness.{G-pieces, G-ready}

abbrev arrival : Word → Call
arrival w = record { move = M.Arrives; word = w }

abbrev leaving : Word → Call
leaving w = record { move = M.Leaves; word = w }

-- 1 arrives, twice; 2 2 leaves, and is not there; 2 is no word; 1 2 and 2 2 arrive, then all are in play; 1 leaves
abbrev calls : List Call
calls =
    arrival (1 ∷ [])
    ∷ arrival (1 ∷ [])
    ∷ leaving (2 ∷ 2 ∷ [])
    ∷ arrival (2 ∷ [])
    ∷ arrival (1 ∷ 2 ∷ [])
    ∷ arrival (2 ∷ 2 ∷ [])
    ∷ leaving (1 ∷ [])
    ∷ []

abbrev answers : List Answer
answers =
    gives (2 ∷ 1 ∷ [])
    ∷ refused 30 []
    ∷ refused 31 []
    ∷ refused 29 []
    ∷ gives (1 ∷ 2 ∷ [])
    ∷ gives (0 ∷ [])
    ∷ gives (1 ∷ 0 ∷ [])
    ∷ []

abbrev evening_over : List ℕ → Evening
evening_over first = play_all count_limit five_nodes (counts five_nodes) 2 calls first

-- a record of one byte whose bits past the count are set, one of no bytes, and start 0
pub record EveningMet : Type 0 where
  pub by-calls : evening_over (0xF8 ∷ []) ≡ record { answers = answers; bits = 0xFE ∷ [] }
  pub by_history : answers_after (lexicon five_nodes 2) [] calls ≡ answers
  pub trusted : Trusted (lexicon five_nodes 2) (0xF8 ∷ []) calls (evening_over (0xF8 ∷ []))
  pub too_few : Trusted (lexicon five_nodes 2) [] calls (evening_over [])
  pub no_words : Trusted [] [] calls (play_all count_limit five_nodes (counts five_nodes) 0 calls [])

empty : (k : ℕ) → k < 3 → in_play (0xF8 ∷ []) k ≡ false
empty zero h = refl
empty (suc zero) h = refl
empty (suc (suc zero)) h = refl
empty (suc (suc (suc k))) h = absurd (omega arith)

-- from a start, over a record
G-evening : (start : ℕ) → start < 5 → (first : List ℕ) → ((k : ℕ) → k < length (lexicon five_nodes start) → in_play first k ≡ false)
    → Trusted (lexicon five_nodes start) first calls (play_all count_limit five_nodes (counts five_nodes) start calls first)
unfolding load_pieces fed_pieces feed_all begin feed finish first_of holding state_after nodes_after whole_nodes part_node first_misfit
    fitting fits zeros largest_arc last_ends
G-evening start h first none =
    evening count_limit 20 Kwg (replicate 6 7) G-pieces 5 (3 ∷ 0 ∷ 3 ∷ 1 ∷ 1 ∷ 7 ∷ []) G-ready five_nodes (counts five_nodes) G-own start h first none calls

pub G-plays : EveningMet
unfolding play_all play in_lexicon start_count turned not_in_play word_index index_of_word index_from number_ending passed_first passed_after passed words_between arc_of
    find_in lent difference sum table words words_within in_order spelled run same count_after numbers_after answer_after answers_after first_of
G-plays =
    record {
      by-calls = refl;
      by_history = refl;
      trusted = G-evening 2 (omega arith) (0xF8 ∷ []) empty;
      too_few = G-evening 2 (omega arith) [] (λ k h. zero_bit (k % 8));
      no_words = G-evening 0 (omega arith) [] (λ k h. zero_bit (k % 8));
    }
