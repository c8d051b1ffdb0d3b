-- Nodes that can be reached from themselves, from document 01, "Counting and numbers".
use Rattle.std.specs.Prelude.{◌≡◌, false, ◌≢◌, ℕ, suc, ◌≤◌, ◌<◌, length}
use Rattle.node.specs.Nodes.{BitLayout, arc, is_end}
use Rattle.graph.specs.Runs.{Graph, node}

module _ (y : BitLayout) where
  -- "by an arc that is not 0 or by p+1 after a node that is not an end"
  pub data Step (g : Graph) (p : ℕ) : ℕ → Type 0 where
    by-arc : p < length g → arc y (node g p) ≢ 0 → Step g p (arc y (node g p))
    by-run : p < length g → is_end y (node g p) ≡ false → Step g p (suc p)

  -- "can be reached": by one step or more
  pub data Reach (g : Graph) : ℕ → ℕ → Type 0 where
    once : {p q : ℕ} → Step g p q → Reach g p q
    then : {p q r : ℕ} → Step g p q → Reach g q r → Reach g p r

  -- "can be reached from itself"
  abbrev pub Loops : Graph → ℕ → Type 0
  Loops g p = Reach g p p

  -- 02, C-14: "the lowest-numbered node that can be reached from itself"
  pub record LowestLoop (g : Graph) (p : ℕ) : Type 0 where
    pub loops : Loops g p
    pub least : (q : ℕ) → Loops g q → p ≤ q

  -- neither p nor a node that can be reached from it loops
  pub record Clear (g : Graph) (p : ℕ) : Type 0 where
    pub itself : Loops g p → ⊥
    pub below : (q : ℕ) → Reach g p q → Loops g q → ⊥
