-- The state of the walk: what the marks, the stack and the counts say of each other.
use Rattle.std.specs.Prelude.{◌≡◌, Bool, ◌⊎◌, List, ℕ, suc, ◌+◌, ◌*◌, ◌/◌, ◌≤◌, ◌<◌, leb, min, length, get_or, Option, Some, None, Result, Ok, Err}
use Rattle.std.specs.List.{list_any}
use Rattle.node.specs.Nodes.{kbwg}
use Rattle.graph.specs.Runs.{Graph}
use Rattle.graph.specs.Words.{count}
use Rattle.graph.specs.Loops.{Step, Loops, Clear}
use Rattle.graph.specs.Lent.{Kept}
use Rattle.loops.specs.NodeMarks.{mark, done, stacked, OnStack, sum_over, mets}
use Rattle.count.specs.declared.walk.LoopMet.{LoopMet}

-- ---- the marks
-- 1 for the mark of a node that is done
abbrev pub is_done : ℕ → ℕ
is_done m = min 1 (m / done)

-- how many nodes are done
abbrev pub dones : Graph → List ℕ → ℕ
dones g w = sum_over is_done w (length g)

-- ---- the walk
-- node k is on the stack, which is the walk's path
pub record OnPath (g : Graph) (w : List ℕ) (size k : ℕ) : Type 0 where
  pub on : OnStack (stacked (length g) w) size k
  pub marked : mark w k ≡ suc on.place

-- place i of the stack holds a node that is marked so
pub record Entry (g : Graph) (w : List ℕ) (i : ℕ) : Type 0 where
  pub node : stacked (length g) w i < length g
  pub marked : mark w (stacked (length g) w i) ≡ suc i

module _ (limit : ℕ) (g : Graph) where
  -- node k is counted, up to the limit, and no loop can be reached from it
  pub record Done (c w : List ℕ) (k : ℕ) : Type 0 where
    pub marked : mark w k ≡ done
    pub clear : Clear kbwg g k
    pub counted : get_or c k 0 ≡ min (count kbwg g k) limit

  pub record CountWalk (c w : List ℕ) (size : ℕ) : Type 0 where
    pub room : 2 * length g ≤ length w
    pub room-counts : length g ≤ length c
    pub entries : (i : ℕ) → i < size → Entry g w i
    pub path : (i : ℕ) → suc i < size → Step kbwg g (stacked (length g) w i) (stacked (length g) w (suc i))
    pub marks : (k : ℕ) → k < length g → (mark w k ≡ 0) ⊎ (Done c w k ⊎ OnPath g w size k)
    pub tallied : size ≤ mets g w

  -- what a step keeps, and that it brings the walk on
  pub record StepTaken (c w c' w' : List ℕ) (size : ℕ) : Type 0 where
    pub walk : CountWalk c' w' size
    pub met : (k : ℕ) → k < length g → (mark w k ≡ 0 → ⊥) → mark w' k ≡ 0 → ⊥
    pub on : mets g w + dones g w < mets g w' + dones g w'
    pub counts-kept : Kept (length g) c c'
    pub work-kept : Kept (2 * length g) w w'

  -- every node is counted
  pub record AllDone (c w c' w' : List ℕ) : Type 0 where
    pub clear : (p : ℕ) → p < length g → Clear kbwg g p
    pub counted : (p : ℕ) → p < length g → get_or c' p 0 ≡ min (count kbwg g p) limit
    pub counts-kept : Kept (length g) c c'
    pub work-kept : Kept (2 * length g) w w'

-- some node loops
pub record LoopFound (g : Graph) (c w c' w' : List ℕ) : Type 0 where
  pub node : ℕ
  pub loops : Loops kbwg g node
  pub counts-kept : Kept (length g) c c'
  pub work-kept : Kept (2 * length g) w w'

-- ---- what the functions of the walk answer
abbrev pub NextIs : Graph → List ℕ → ℕ → Option ℕ → Type 0
NextIs g w p (Some q) = Step kbwg g p q × (mark w q ≡ done → ⊥)
NextIs g w p None = (q : ℕ) → Step kbwg g p q → mark w q ≡ done

abbrev pub StepIs : ℕ → Graph → List ℕ → List ℕ → List ℕ → List ℕ → Result ℕ LoopMet → Type 0
StepIs limit g c w c' w' (Ok size) = StepTaken limit g c w c' w' size
StepIs limit g c w c' w' (Err _) = LoopFound g c w c' w'

abbrev pub WalkedIs : ℕ → Graph → List ℕ → List ℕ → List ℕ → List ℕ → Result Unit LoopMet → Type 0
WalkedIs limit g c w c' w' (Ok _) = AllDone limit g c w c' w'
WalkedIs limit g c w c' w' (Err _) = LoopFound g c w c' w'

-- whether a count is at least the limit
abbrev pub reaches_limit : ℕ → List ℕ → Bool
reaches_limit limit c = list_any (λ n. leb limit n) c
