-- Words in play over a whole evening, from document 02, C-17: "A player must be able to trust this over the whole evening: for every list of
-- these calls with one start node over one record, empty at first, that nobody else writes, on a graph that loads, counts and ascends, lent
-- with its own counts, the count is the lexicon's count less the words whose last accepted call was an arrival."
use Rattle.std.specs.Prelude.{List, ℕ, ◌<◌}
use Rattle.node.specs.declared.Layout.{Layout}
use Rattle.graph.specs.Runs.{Graph}
use Rattle.lookup.specs.GraphLent.{GraphLent}
use Rattle.evening.specs.History.{Call, play_all, lexicon}
use Rattle.evening.specs.Trusted.{EmptyAtFirst, Trusted}
use Rattle.guarantees.specs.Demand3.{CountedLoad, loaded_graph}

-- The limit is the lowest count that is too many. Node and count lists may be lent longer than N, and every node is a start node, node 0 too.
abbrev pub TrustedEvening : ℕ → Type 0
TrustedEvening limit =
    (announced : ℕ) (layout : Layout) (lent : Graph) (pieces : List (List ℕ)) (n : ℕ) (counted : List ℕ)
    → CountedLoad announced layout lent pieces limit n counted
    → (nodes counts : List ℕ) → GraphLent (loaded_graph announced layout lent pieces n) nodes counts
    → (start : ℕ) → start < n
    → (first : List ℕ) → EmptyAtFirst (lexicon (loaded_graph announced layout lent pieces n) start) first
    → (calls : List Call)
    → Trusted (lexicon (loaded_graph announced layout lent pieces n) start) first calls (play_all limit nodes counts start calls first)
