-- The search trees of the keys: where a search goes by the bits of a key, and that it comes to every key.
use Rattle.std.specs.Prelude.{◌≡◌, List, ℕ, ◌+◌, ◌-◌, ◌*◌, ◌/◌, ◌%◌, ◌≤◌, ◌<◌, length, get_or, set}
use Rattle.dictionary.specs.Keys.{key_at}

-- the tree of a key among n of them: the place of its root
unfoldable pub tree_of : ℕ → ℕ → ℕ
tree_of n key = (key % 0x100000000 / 256 + key % 0x100000000 % 256 + key / 0x100000000) % n

-- the place of the link of key i that the lowest of some bits chooses
abbrev pub link_place : ℕ → ℕ → ℕ → ℕ
link_place n i bits = n + 4 * i + 2 + bits % 2

-- a link stands at place p: it is a root, or one of the last two numbers of a key
abbrev pub LinkAt : ℕ → ℕ → Type 0
LinkAt n p = n ≤ p → 2 ≤ (p - n) % 4

-- a search at the link at one place, with some bits left, comes to that at another, with `rest` left: a link of i + 1 leads to key i
pub data Path (n : ℕ) (d : List ℕ) : ℕ → ℕ → ℕ → ℕ → Type 0 where
  here : {p bits : ℕ} → Path n d p bits p bits
  on : {p bits q rest : ℕ} (i : ℕ) → get_or d p 0 ≡ i + 1 → Path n d (link_place n i bits) (bits / 2) q rest → Path n d p bits q rest

-- it comes to a link that leads to key j
pub record PathTo (n : ℕ) (d : List ℕ) (p bits j : ℕ) : Type 0 where
  pub last : ℕ
  pub rest : ℕ
  pub way : Path n d p bits last rest
  pub leads : get_or d last 0 ≡ j + 1

-- the first k keys make n trees: links lead to later keys among them, the search for each comes to it, no key stands twice, and a low half is
-- one of 32 bits
pub record Tree (n : ℕ) (d : List ℕ) (k : ℕ) : Type 0 where
  pub room : 5 * n ≤ length d
  pub few : k ≤ n
  pub later : (p j : ℕ) → p < n + 4 * k → LinkAt n p → get_or d p 0 ≡ j + 1 → (j < k) × (p < n + 4 * j)
  pub reached : (j : ℕ) → j < k → PathTo n d (tree_of n (key_at n d j)) (key_at n d j) j
  pub once : (i j : ℕ) → i < k → j < k → key_at n d i ≡ key_at n d j → i ≡ j
  pub low : (i : ℕ) → i < k → get_or d (n + 4 * i) 0 < 0x100000000

-- the dictionary with key i stored, its links leading nowhere, and with the link at a place leading to it
abbrev pub stored : ℕ → List ℕ → ℕ → ℕ → List ℕ
stored n d i key =
    set (set (set (set d (n + 4 * i) (key % 0x100000000)) (n + 4 * i + 1) (key / 0x100000000)) (n + 4 * i + 2) 0) (n + 4 * i + 3) 0

abbrev pub added : ℕ → List ℕ → ℕ → ℕ → ℕ → List ℕ
added n d place i key = stored n (set d place (i + 1)) i key
