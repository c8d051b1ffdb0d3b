-- The search's stack of nodes that are met and not done: what their marks and their places say of each other.
use Rattle.std.specs.Prelude.{◌≡◌, ◌≢◌, ◌⊎◌, ℕ, suc, ◌≤◌, ◌<◌, length}
use Rattle.node.specs.Nodes.{kbwg}
use Rattle.graph.specs.Runs.{Graph}
use Rattle.graph.specs.Loops.{Step, Reach, Loops}
use Rattle.loops.specs.NodeMarks.{done, OnStack}

-- R is the mark of a node, A the node at a place of a stack of so many, and B the place from which that was met, counted from 1; 0 is none
module _ (g : Graph) (R A : ℕ → ℕ) (size : ℕ) where
  -- a node of the stack is open, with its own place as its mark, until all nodes that it leads to are met; then it is passed, with a lower one
  abbrev pub IsOpen : ℕ → Type 0
  IsOpen j = R (A j) ≡ suc j

  pub record StackPlace (B : ℕ → ℕ) (j : ℕ) : Type 0 where
    pub node : A j < length g
    pub marked : R (A j) ≢ 0
    pub own : R (A j) ≤ suc j
    -- a lower mark is the place of a node that can be reached
    pub reaches : (i : ℕ) → i < j → R (A j) ≡ suc i → Reach kbwg g (A j) (A i)
    -- what a passed node leads to is done, or stands on the stack no lower than its mark
    pub leads : R (A j) ≤ j → (q : ℕ) → Step kbwg g (A j) q → (R q ≡ done) ⊎ ((v : OnStack A size q) × (R (A j) ≤ suc v.place))
    pub below : B j ≤ j
    pub from : (i : ℕ) → B j ≡ suc i → Step kbwg g (A i) (A j)
    -- no open node stands between a node and the one from which it was met
    pub between : (i : ℕ) → i < j → IsOpen i → i < B j
    -- which is open still, or has a mark as low
    pub parent : (i : ℕ) → B j ≡ suc i → IsOpen i ⊎ ((R (A j) ≤ j) × (R (A i) ≤ R (A j)))

  -- the last open node stands at place top, counted from 1; 0 where none is open. The lowest node that is passed and loops is low; N where none does
  pub record SearchStack (B : ℕ → ℕ) (top low : ℕ) : Type 0 where
    pub few : size ≤ length g
    pub places : (j : ℕ) → j < size → StackPlace B j
    pub differ : (i j : ℕ) → i < size → j < size → A i ≡ A j → i ≡ j
    pub marks : (x : ℕ) → x < length g → (R x ≡ 0) ⊎ ((R x ≡ done) ⊎ OnStack A size x)
    pub closed : (x q : ℕ) → R x ≡ done → Step kbwg g x q → R q ≡ done
    pub last : (j : ℕ) → j < size → IsOpen j → j < top
    pub at_top : (j : ℕ) → top ≡ suc j → (j < size) × IsOpen j
    pub low-loops : (low ≡ length g) ⊎ Loops kbwg g low
    -- what loops and is lower is not met yet, or open
    pub lower-left : (x : ℕ) → Loops kbwg g x → x < low → (R x ≡ 0) ⊎ ((v : OnStack A size x) × IsOpen v.place)
