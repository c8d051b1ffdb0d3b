-- What a walk keeps of the nodes in a work list: a mark for each, and above the marks a stack of nodes.
use Rattle.std.specs.Prelude.{◌≡◌, List, ℕ, zero, suc, ◌+◌, ◌<◌, min, length, get_or, set}
use Rattle.graph.specs.Runs.{Graph}

abbrev pub mark : List ℕ → ℕ → ℕ
mark w k = get_or w k 0

-- the mark of a node that is done: the largest number that a mark holds, and no place of the stack. A node that is not met has mark 0
abbrev pub done : ℕ
done = 4_294_967_295

-- the node at place i of the stack above n marks
abbrev pub stacked : ℕ → List ℕ → ℕ → ℕ
stacked n w i = get_or w (n + i) 0

-- x is on a stack of so many nodes, where A is the node at a place
pub record OnStack (A : ℕ → ℕ) (size x : ℕ) : Type 0 where
  pub place : ℕ
  pub within : place < size
  pub holds : A place ≡ x

-- the same place of a stack with more nodes, or fewer
abbrev pub resized : {A : ℕ → ℕ} {m n x : ℕ} (v : OnStack A m x) → v.place < n → OnStack A n x
resized v h = record { place = v.place; within = h; holds = v.holds }

-- the work list with q put on the stack of so many nodes above n marks
abbrev pub node_pushed : List ℕ → ℕ → ℕ → ℕ → List ℕ
node_pushed w n size q = set (set w q (size + 1)) (n + size) q

-- the sum of f over the first n numbers
unfoldable pub sum_over : (ℕ → ℕ) → List ℕ → ℕ → ℕ
sum_over f w zero = 0
sum_over f w (suc n) = sum_over f w n + f (get_or w n 0)

-- 1 for the mark of a node that is met
abbrev pub is_met : ℕ → ℕ
is_met m = min 1 m

-- how many nodes are met
abbrev pub mets : Graph → List ℕ → ℕ
mets g w = sum_over is_met w (length g)
