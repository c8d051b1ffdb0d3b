-- Numbers in the bytes of a file: "files are little-endian" (document 01, "Nodes and words"), "Macondo (big-endian)".
use Rattle.std.specs.Prelude.{List, [], ◌∷◌, ◌++◌, ℕ, zero, suc, ◌+◌, ◌*◌, ◌/◌, ◌%◌, ◌^◌, get_or, take, drop}

-- ---- the lowest byte first, four bytes a number
abbrev pub from_bytes : ℕ → ℕ → ℕ → ℕ → ℕ
from_bytes a b c d = a + b * 2 ^ 8 + c * 2 ^ 16 + d * 2 ^ 24

abbrev pub to_bytes : ℕ → List ℕ
to_bytes v = v % 2 ^ 8 ∷ v / 2 ^ 8 % 2 ^ 8 ∷ v / 2 ^ 16 % 2 ^ 8 ∷ v / 2 ^ 24 % 2 ^ 8 ∷ []

-- the node that begins at byte i
abbrev pub node_at : List ℕ → ℕ → ℕ
node_at s i = from_bytes (get_or s i 0) (get_or s (i + 1) 0) (get_or s (i + 2) 0) (get_or s (i + 3) 0)

-- the whole nodes
unfoldable pub whole_nodes : List ℕ → List ℕ
whole_nodes [] = []
whole_nodes (a ∷ []) = []
whole_nodes (a ∷ b ∷ []) = []
whole_nodes (a ∷ b ∷ c ∷ []) = []
whole_nodes (a ∷ b ∷ c ∷ d ∷ r) = from_bytes a b c d ∷ whole_nodes r

-- "those after the last whole node"
unfoldable pub part_node : List ℕ → List ℕ
part_node [] = []
part_node (a ∷ []) = a ∷ []
part_node (a ∷ b ∷ []) = a ∷ b ∷ []
part_node (a ∷ b ∷ c ∷ []) = a ∷ b ∷ c ∷ []
part_node (a ∷ b ∷ c ∷ d ∷ r) = part_node r

unfoldable pub node_bytes : List ℕ → List ℕ
node_bytes [] = []
node_bytes (v ∷ vs) = to_bytes v ++ node_bytes vs

-- ---- the highest byte first, n bytes a number
abbrev pub big_endian : ℕ → ℕ → List ℕ
big_endian zero v = []
big_endian (suc n) v = big_endian n (v / 256) ++ v % 256 ∷ []

-- numbers one after the other
unfoldable pub big_endians : ℕ → List ℕ → List ℕ
big_endians n [] = []
big_endians n (v ∷ vs) = big_endian n v ++ big_endians n vs

-- the number that the bytes write, after the number so far
abbrev pub from_big : ℕ → List ℕ → ℕ
from_big v [] = v
from_big v (b ∷ bs) = from_big (v * 256 + b) bs

-- the first k numbers of n bytes each
abbrev pub big_numbers : ℕ → ℕ → List ℕ → List ℕ
big_numbers n zero bs = []
big_numbers n (suc k) bs = from_big 0 (take n bs) ∷ big_numbers n k (drop n bs)
