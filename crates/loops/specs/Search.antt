-- The search on the lent lists: what its functions need and answer.
use Rattle.std.specs.Prelude.{◌≡◌, ◌≢◌, ◌⊎◌, List, ℕ, suc, ◌+◌, ◌-◌, ◌*◌, ◌≤◌, ◌<◌, min, length, set, Option, Some, None}
use Rattle.node.specs.Nodes.{kbwg}
use Rattle.graph.specs.Runs.{Graph}
use Rattle.graph.specs.Loops.{Step, LowestLoop}
use Rattle.graph.specs.Counting.{Loopless}
use Rattle.graph.specs.Lent.{Kept}
use Rattle.loops.specs.NodeMarks.{mark, done, stacked, OnStack, node_pushed, mets}
use Rattle.loops.specs.Stack.{SearchStack}
use Rattle.loops.specs.declared.next.NextMark.{NextMark}
use Rattle.loops.specs.declared.search.LoopSearch.{LoopSearch}

-- the lowest node that loops; none where none does
abbrev pub LowestIs : Graph → Option ℕ → Type 0
LowestIs g (Some r) = LowestLoop kbwg g r
LowestIs g None = Loopless g

-- ---- the node with the lowest mark of those that p leads to
-- the mark where there is such a step, and done where there is none
abbrev pub MarkIs : List ℕ → Type 0 → ℕ → ℕ → Type 0
MarkIs w NoStep q r = (NoStep × (r ≡ done)) ⊎ ((NoStep → ⊥) × (r ≡ mark w q))

pub record LowestNext (g : Graph) (w : List ℕ) (p : ℕ) (r : NextMark) : Type 0 where
  pub found : r.mark ≢ done → Step kbwg g p r.node × (mark w r.node ≡ r.mark)
  pub least : (q : ℕ) → Step kbwg g p q → r.mark ≤ mark w q

-- ---- the search: counts hold the place from which the node at a place was met
pub record SearchState (g : Graph) (c w : List ℕ) (s : LoopSearch) : Type 0 where
  pub room : 2 * length g ≤ length w
  pub room-counts : length g ≤ length c
  pub stack : SearchStack g (mark w) (stacked (length g) w) s.size (mark c) s.top s.low
  pub tallied : s.size ≤ mets g w

-- falls with each step: a node is met, or the last open one is passed
abbrev pub search_left : Graph → List ℕ → ℕ → ℕ
search_left g w top = (length g - mets g w) * suc (length g) + top

pub record SearchStepped (g : Graph) (c w c' w' : List ℕ) (s s' : LoopSearch) : Type 0 where
  pub state : SearchState g c' w' s'
  pub met : (k : ℕ) → k < length g → mark w k ≢ 0 → mark w' k ≢ 0
  pub less : search_left g w' s'.top < search_left g w s.top
  pub counts-kept : Kept (length g) c c'
  pub work-kept : Kept (2 * length g) w w'

-- ---- what the functions of a step answer
pub record NodeMet (n : ℕ) (c w : List ℕ) (s : LoopSearch) (q : ℕ) (c' w' : List ℕ) (r : LoopSearch) : Type 0 where
  pub counts-are : c' ≡ set c s.size s.top
  pub work-is : w' ≡ node_pushed w n s.size q
  pub size_is : r.size ≡ s.size + 1
  pub top-is : r.top ≡ s.size + 1
  pub low-is : r.low ≡ s.low

-- the nodes at places from i on and below j are done, and nothing else is written
pub record Released (n : ℕ) (w : List ℕ) (i j : ℕ) (w' : List ℕ) : Type 0 where
  pub kept : Kept n w w'
  pub all : (k : ℕ) → i ≤ k → k < j → mark w' (stacked n w k) ≡ done
  pub others : (x : ℕ) → (mark w' x ≡ mark w x) ⊎ ((v : OnStack (stacked n w) j x) × (i ≤ v.place))

-- p counts among the looping nodes unless all that it leads to is done
abbrev pub LowIs : ℕ → ℕ → ℕ → ℕ → Type 0
LowIs low p m r = ((m ≡ done) × (r ≡ low)) ⊎ ((m ≢ done) × (r ≡ min low p))
