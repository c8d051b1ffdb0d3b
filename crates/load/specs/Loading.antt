-- Loading a file: begin, feed and finish, each on every state and piece; from document 01, "Loading" and the rows begin, feed and finish.
use Rattle.std.specs.Prelude.{Bool, true, false, ◌||◌, not, List, [], ◌∷◌, ◌++◌, ℕ, ◌+◌, ◌*◌, ◌/◌, ◌%◌, max, eqb, ltb, length, get_or, take, drop, set, Option as Maybe, None, Some}
use Rattle.std.specs.List.{list_all}
use Rattle.std.proofs.Math.Option.{Option, none, some}
use Rattle.std.proofs.lemmas.List.Edits.{sets}
use Rattle.laws.specs.Cases.{is_some}
use Rattle.answers.specs.Answers.{Answer, gives, refusing, Row, first_of}
use Rattle.node.specs.Nodes.{kbwg}
use Rattle.node.specs.Said.{bit_layout}
use Rattle.node.specs.declared.Layout.{Layout}
use Rattle.graph.specs.Runs.{Graph}
use Rattle.graph.specs.Checks.{nodes_row}
use Rattle.endian.specs.Bytes.{whole_nodes, part_node}
use Rattle.load.specs.Repacking.{first_misfit, fitting, misfit_refusal, misfit_answer}
use Rattle.load.specs.declared.repack.Misfit.{Misfit}
use Rattle.load.specs.declared.loader.Loader.{Loader}

-- ---- the state
-- "up to 3 held bytes with unused places 0"
abbrev pub places : List ℕ → List ℕ
places part = sets (0 ∷ 0 ∷ 0 ∷ []) 0 part

-- "all joined bytes are taken, those after the last whole node are held"
unfoldable pub holding : ℕ → Layout → ℕ → List ℕ → Loader
holding announced layout taken part =
    record {
      announced = announced;
      layout = layout;
      taken = taken;
      held = places part;
      held_count = length part;
      kept = None;
    }

-- "After refusal 6 on node i, the bytes taken are 4 × i, none are held"
unfoldable pub stopped : ℕ → Layout → Misfit → Loader
stopped announced layout m =
    record {
      announced = announced;
      layout = layout;
      taken = 4 * m.node;
      held = places [];
      held_count = 0;
      kept = Some m;
    }

-- "nothing taken, held or kept"
abbrev pub fresh_loader : ℕ → Layout → Loader
fresh_loader announced layout = holding announced layout 0 []

-- ---- the rows of checks
-- "1 length 0 or no multiple of 4; 2+ over 67,108,864; 3+ node buffer under max(length / 4, 2)"
abbrev pub begin_row : ℕ → ℕ → Row
begin_row announced lent_nodes =
    (eqb announced 0 || not (eqb (announced % 4) 0), refusing 1 [])
    ∷ (ltb 67_108_864 announced, refusing 2 [])
    ∷ (ltb lent_nodes (max (announced / 4) 2), refusing 3 [])
    ∷ []

-- "unused places 0"
unfoldable pub zeros : List ℕ → Bool
zeros bs = list_all (λ b. eqb b 0) bs

-- "4+ length that begin refuses for this buffer, taken above length, or held bytes not taken mod 4, or an unused place not 0"
abbrev pub sound_row : Loader → ℕ → Row
sound_row s lent_nodes =
    (is_some (first_of (begin_row s.announced lent_nodes)), refusing 4 [])
    ∷ (ltb s.announced s.taken, refusing 4 [])
    ∷ (not (eqb s.held_count (s.taken % 4)), refusing 4 [])
    ∷ (not (zeros (drop s.held_count s.held)), refusing 4 [])
    ∷ []

-- "a refusal 6 once met"
abbrev pub kept_misfit : Maybe Misfit → Option Misfit
kept_misfit None = none
kept_misfit (Some m) = some m

-- "then a kept 6": one more check where a misfit is kept
abbrev pub kept_row : Option Misfit → Row
kept_row none = []
kept_row (some m) = (true, misfit_refusal m) ∷ []

-- the row "feed, finish"
abbrev pub state_row : Loader → ℕ → Row
state_row s lent_nodes = sound_row s lent_nodes ++ kept_row (kept_misfit s.kept)

-- "5+ piece longer than what is missing"
abbrev pub feed_row : Loader → ℕ → List ℕ → Row
feed_row s lent_nodes piece = state_row s lent_nodes ++ (ltb s.announced (s.taken + length piece), refusing 5 []) ∷ []

-- "7+ bytes missing; 8 largest arc (carried) at least the node count; 9 last node no end"
abbrev pub finish_row : Loader → Graph → Row
finish_row s nodes =
    state_row s (length nodes) ++ (ltb s.taken s.announced, refusing 7 []) ∷ nodes_row (take (s.announced / 4) nodes)

-- ---- the calls
-- What a call answers, and the state after it.
pub record Begins : Type 0 where
  pub answer : Answer
  pub state : Loader

-- "A refused begin gives a state of length 0 with the layout asked for and nothing taken, held or kept."
abbrev pub begins : Option Answer → ℕ → Layout → Begins
begins none announced layout = record { answer = gives []; state = fresh_loader announced layout }
begins (some r) announced layout = record { answer = r; state = fresh_loader 0 layout }

-- "begin gives a state, and each feed hands a new one back"
unfoldable pub begin : ℕ → Layout → ℕ → Begins
begin announced layout lent_nodes = begins (first_of (begin_row announced lent_nodes)) announced layout

-- What a feed answers, and the state and the nodes after it.
pub record Feeds : Type 0 where
  pub answer : Answer
  pub state : Loader
  pub nodes : Graph

-- the state after bytes of which the first begins node i
abbrev pub state_at : Option Misfit → ℕ → Layout → ℕ → List ℕ → Loader
state_at none announced layout i bytes = holding announced layout (4 * i + length bytes) (part_node bytes)
state_at (some m) announced layout i bytes = stopped announced layout m

-- the first node that does not fit among the bytes
abbrev pub misfit_in : Layout → ℕ → List ℕ → Option Misfit
misfit_in layout i bytes = first_misfit (bit_layout layout) kbwg i (whole_nodes bytes)

unfoldable pub state_after : ℕ → Layout → ℕ → List ℕ → Loader
state_after announced layout i bytes = state_at (misfit_in layout i bytes) announced layout i bytes

-- "A feed writes each node that it completes and no other."
unfoldable pub nodes_after : Layout → ℕ → List ℕ → Graph → Graph
nodes_after layout i bytes nodes = sets nodes i (fitting (bit_layout layout) kbwg (whole_nodes bytes))

-- the held bytes, then the piece
abbrev pub held_then : Loader → List ℕ → List ℕ
held_then s piece = take s.held_count s.held ++ piece

-- "After 4 or 5 the state and the nodes are as before the call"; after a kept 6 too, since "later bytes are ignored"
abbrev pub feeds : Option Answer → Loader → Graph → List ℕ → Feeds
feeds (some r) s nodes piece = record { answer = r; state = s; nodes = nodes }
feeds none s nodes piece =
    record {
      answer = misfit_answer (misfit_in s.layout (s.taken / 4) (held_then s piece));
      state = state_after s.announced s.layout (s.taken / 4) (held_then s piece);
      nodes = nodes_after s.layout (s.taken / 4) (held_then s piece) nodes;
    }

-- "each feed hands a new one back"
unfoldable pub feed : Loader → Graph → List ℕ → Feeds
feed s nodes piece = feeds (first_of (feed_row s (length nodes) piece)) s nodes piece

-- What a finish answers, and the nodes after it.
pub record Finishes : Type 0 where
  pub answer : Answer
  pub nodes : Graph

-- "answers their number N. A one-node file that finish doesn't refuse gets its copy as node 1 (N = 2)."
abbrev pub finishes : Option Answer → Bool → Loader → Graph → Finishes
finishes (some r) one s nodes = record { answer = r; nodes = nodes }
finishes none true s nodes = record { answer = gives (2 ∷ []); nodes = set nodes 1 (get_or nodes 0 0) }
finishes none false s nodes = record { answer = gives (s.announced / 4 ∷ []); nodes = nodes }

-- "Finish judges the nodes and answers their number N."
unfoldable pub finish : Loader → Graph → Finishes
finish s nodes = finishes (first_of (finish_row s nodes)) (eqb s.announced 4) s nodes
