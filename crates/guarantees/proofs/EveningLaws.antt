-- An evening can be trusted. The idea: it is a law of the crate that owns evenings; here is only that a graph that loads and counts has what
-- that asks.
use Prim.Native.Nat.{ℕ}
use Rattle.evening.proofs.EveningLaws.{played-trusted}
use Rattle.guarantees.specs.Demand3.{loaded_graph}
use Rattle.guarantees.specs.Evening.{TrustedEvening}
use Rattle.guarantees.proofs.Demand3Laws.{loaded-counts, loaded-inside}

-- for counts of any width
pub evening : (limit : ℕ) → TrustedEvening limit
evening limit announced layout lent pieces n counted r nodes counts is start inside first empty calls =
    played-trusted limit (loaded_graph announced layout lent pieces n) (loaded-counts announced layout lent pieces limit n counted r) r.ascending
    nodes counts is start (loaded-inside announced layout lent pieces limit n counted r start inside) first empty calls
