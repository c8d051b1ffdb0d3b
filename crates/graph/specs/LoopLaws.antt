-- Steps and paths between nodes: where they begin and lead, and which nodes no loop can be reached from.
use Rattle.std.specs.Prelude.{◌≡◌, refl, ℕ, ◌<◌, length}
use Rattle.std.proofs.Common.{sym}
use Rattle.node.specs.Nodes.{BitLayout, kbwg}
use Rattle.graph.specs.Runs.{Graph}
use Rattle.graph.specs.Loops.{Step, by-arc, by-run, Reach, once, then, Loops, Clear}
use Rattle.graph.specs.ChecksLaws.{Closed}
use Rattle.graph.specs.WordsEquation.{Reach_trans}

pub step-inside : {g : Graph} {p q : ℕ} → Closed g → Step kbwg g p q → q < length g
step-inside {g} {p} k (by-arc h n) = k.arcs p h
step-inside {g} {p} k (by-run h e) = k.runs p h e

module _ (y : BitLayout) where
  -- a path begins at a node
  pub Reach-inside : {g : Graph} {p q : ℕ} → Reach y g p q → p < length g
  Reach-inside (once (by-arc h n)) = h
  Reach-inside (once (by-run h e)) = h
  Reach-inside (then (by-arc h n) r) = h
  Reach-inside (then (by-run h e) r) = h

  module _ (g : Graph) where
    pub clear_where_loopless : ((q : ℕ) → Loops y g q → ⊥) → (p : ℕ) → Clear y g p
    clear_where_loopless h p = record { itself = h p; below = λ q r. h q }

    -- a node that leads to clear nodes only is clear
    module _ (p : ℕ) (next : (q : ℕ) → Step y g p q → Clear y g q) where
      loops-after : {q : ℕ} → q ≡ p → Reach y g p q → ⊥
      loops-after {q} e (once s) = (next q s).itself (once (rw (sym e) at s))
      loops-after e (then s r) = (next _ s).itself (Reach_trans y r (once (rw (sym e) at s)))

      pub clear_above : Clear y g p
      clear_above = record { itself = loops-after refl; below = λ q r. reached r }
        where
          reached : {q : ℕ} → Reach y g p q → Loops y g q → ⊥
          reached {q} (once s) l = (next q s).itself l
          reached {q} (then s r) l = (next _ s).below q r l
