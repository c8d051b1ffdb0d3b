-- A list of calls: begin, feeds, finish; and what document 01 says it comes to ("Loading", second paragraph).
use Rattle.std.specs.Prelude.{◌≡◌, true, false, List, [], ◌∷◌, ◌++◌, map, ℕ, ◌+◌, ltb, length, take, drop}
use Rattle.std.proofs.Math.Option.{Option, none, some}
use Rattle.answers.specs.Answers.{Answer, refused, first_of}
use Rattle.node.specs.declared.Layout.{Layout}
use Rattle.graph.specs.Runs.{Graph}
use Rattle.load.specs.Repacking.{misfit_answer}
use Rattle.load.specs.declared.repack.Misfit.{Misfit}
use Rattle.load.specs.Loading.{begin_row, begin, Feeds, feed, finish, misfit_in, state_after, nodes_after}
use Rattle.load.specs.declared.loader.Loader.{Loader}

-- ---- the calls, one after the other
pub record FedAll : Type 0 where
  pub answers : List Answer
  pub state : Loader
  pub nodes : Graph

unfoldable pub feed_all : Loader → Graph → List (List ℕ) → FedAll
feed_all s nodes [] = record { answers = []; state = s; nodes = nodes }
feed_all s nodes (p ∷ ps) =
    let first = feed s nodes p in
    let rest = feed_all first.state first.nodes ps in
    record { answers = first.answer ∷ rest.answers; state = rest.state; nodes = rest.nodes }

-- ---- what they come to
-- "a feed's piece is added at their end where both together are no longer than the length given to begin, else left out"
unfoldable pub joined_onto : ℕ → List ℕ → List ℕ → List ℕ
joined_onto announced bytes piece = elim (ltb announced (length bytes + length piece)) [ true ↦ bytes | false ↦ bytes ++ piece ]

-- "The joined bytes are none at first"
unfoldable pub joined_from : ℕ → List ℕ → List (List ℕ) → List ℕ
joined_from announced bytes [] = bytes
joined_from announced bytes (p ∷ ps) = joined_from announced (joined_onto announced bytes p) ps

-- "it answers 6 for the first node that doesn't fit among the bytes joined before it; else 5 for a piece left out; else 6 for the
-- first such node once the piece is joined, one begun in an earlier piece included; else it accepts"
abbrev pub piece_answer : Option Misfit → ℕ → Layout → List ℕ → List ℕ → Answer
piece_answer (some m) announced layout bytes piece = misfit_answer (some m)
piece_answer none announced layout bytes piece =
    elim (ltb announced (length bytes + length piece)) [
      | true ↦ refused 5 []
      | false ↦ misfit_answer (misfit_in layout 0 (bytes ++ piece))
    ]

unfoldable pub feed_answers : ℕ → Layout → List ℕ → List (List ℕ) → List Answer
feed_answers announced layout bytes [] = []
feed_answers announced layout bytes (p ∷ ps) =
    piece_answer (misfit_in layout 0 bytes) announced layout bytes p ∷ feed_answers announced layout (joined_onto announced bytes p) ps

module _ (announced : ℕ) (layout : Layout) (nodes : Graph) (pieces : List (List ℕ)) where
  -- "After a refused begin each feed answers 4 and its piece is left out."
  unfoldable pub joined_bytes : List ℕ
  joined_bytes = elim (first_of (begin_row announced (length nodes))) [ some r ↦ [] | none ↦ joined_from announced [] pieces ]

  -- what the feeds answer
  unfoldable pub feeds_answer : List Answer
  feeds_answer =
      elim (first_of (begin_row announced (length nodes))) [
        | some r ↦ map (λ p. refused 4 []) pieces
        | none ↦ feed_answers announced layout [] pieces
      ]

module _ (announced : ℕ) (layout : Layout) (nodes : Graph) where
  -- begin, and the feeds of the pieces
  unfoldable pub fed_pieces : List (List ℕ) → FedAll
  fed_pieces pieces = feed_all (begin announced layout (length nodes)).state nodes pieces

  -- begin, and one feed of the bytes
  unfoldable pub one_feed : List ℕ → Feeds
  one_feed bytes = feed (begin announced layout (length nodes)).state nodes bytes

  -- the feeds of the pieces end as one feed of the bytes
  pub record EndsAsOneFeed (pieces : List (List ℕ)) (bytes : List ℕ) : Type 0 where
    pub state : (fed_pieces pieces).state ≡ (one_feed bytes).state
    pub table : (fed_pieces pieces).nodes ≡ (one_feed bytes).nodes
    pub finished :
        finish (fed_pieces pieces).state (fed_pieces pieces).nodes ≡ finish (one_feed bytes).state (one_feed bytes).nodes

-- the claim about every list of calls
pub record LoadsAsWhole (announced : ℕ) (layout : Layout) (nodes : Graph) (pieces : List (List ℕ)) : Type 0 where
  pub ends : EndsAsOneFeed announced layout nodes pieces (joined_bytes announced layout nodes pieces)
  pub answered : (fed_pieces announced layout nodes pieces).answers ≡ feeds_answer announced layout nodes pieces
  -- "With no such node all joined bytes are taken, those after the last whole node are held, and the whole nodes stand in the
  -- table; with one, the nodes before it."
  pub taken : first_of (begin_row announced (length nodes)) ≡ none
      → (fed_pieces announced layout nodes pieces).state ≡ state_after announced layout 0 (joined_bytes announced layout nodes pieces)
  pub placed : (fed_pieces announced layout nodes pieces).nodes ≡ nodes_after layout 0 (joined_bytes announced layout nodes pieces) nodes

-- ---- a file of the announced length, cut into pieces anyhow
-- the bytes up to the end of each piece, after those that came before
unfoldable pub up_to_each : List ℕ → List (List ℕ) → List (List ℕ)
up_to_each before [] = []
up_to_each before (p ∷ ps) = (before ++ p) ∷ up_to_each (before ++ p) ps

pub record LoadsHoweverCut (layout : Layout) (nodes : Graph) (file : List ℕ) (pieces : List (List ℕ)) : Type 0 where
  pub ends : EndsAsOneFeed (length file) layout nodes pieces file
  -- each feed answers as one feed of all the bytes up to its end
  pub answered : (fed_pieces (length file) layout nodes pieces).answers
      ≡ map (λ bytes. (one_feed (length file) layout nodes bytes).answer) (up_to_each [] pieces)

-- ---- begin, feeds and finish together
-- What begin, each feed and finish answer, the state after the last feed, and the nodes after finish.
pub record LoadOutcome : Type 0 where
  pub begun : Answer
  pub fed : List Answer
  pub state : Loader
  pub finished : Answer
  pub nodes : Graph

unfoldable pub load_pieces : ℕ → Layout → Graph → List (List ℕ) → LoadOutcome
load_pieces announced layout nodes pieces =
    let all = fed_pieces announced layout nodes pieces in
    let last = finish all.state all.nodes in
    record {
      begun = (begin announced layout (length nodes)).answer;
      fed = all.answers;
      state = all.state;
      finished = last.answer;
      nodes = last.nodes;
    }

-- all bytes as one piece
abbrev pub load_whole : ℕ → Layout → Graph → List ℕ → LoadOutcome
load_whole announced layout nodes bytes = load_pieces announced layout nodes (bytes ∷ [])

-- pieces of so many bytes each, and the rest as a last one; a piece past the end has the bytes that are there
unfoldable pub cut_at : List ℕ → List ℕ → List (List ℕ)
cut_at [] bytes = bytes ∷ []
cut_at (c ∷ cs) bytes = take c bytes ∷ cut_at cs (drop c bytes)
