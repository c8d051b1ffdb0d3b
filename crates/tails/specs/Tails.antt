-- The tails of runs in a work list: the entries of a shelf, each by its key.
use Rattle.std.specs.Prelude.{◌≡◌, ◌⊎◌, List, [], ◌∷◌, ◌++◌, ℕ, suc, ◌+◌, ◌*◌, ◌≤◌, ◌<◌, eqb, length, get_or, take, drop, Option, Some, None}
use Rattle.laws.specs.Lists.{All}
use Rattle.graph.specs.Words.{Word}
use Rattle.dictionary.specs.Keys.{keys_in}
use Rattle.dictionary.specs.Tree.{Tree}
use Rattle.built.specs.Built.{node_of}
use Rattle.built.specs.Lexicon.{Lexicon, ListWord}
use Rattle.built.specs.Listed.{list_bytes}
use Rattle.shelf.specs.Shelf.{ShelfEntry, Shelf, SoundShelf}
use Rattle.shelf.specs.Shelving.{close, shelved}
use Rattle.shelf.specs.ShelvingLaws.{OpenWord}

-- the most tails that a graph has nodes for is below this
abbrev pub tail_limit : ℕ
tail_limit = 16777216

-- the node of an entry, with its child's number as the arc
abbrev pub tail_node : ShelfEntry → ℕ
tail_node e = node_of e.tile e.accepts (eqb e.next 0) e.child

unfoldable pub key_of : ShelfEntry → ℕ
key_of e = e.next * 0x100000000 + tail_node e

-- the keys of a shelf, by number
unfoldable pub keys_of : Shelf → List ℕ
keys_of [] = []
keys_of (e ∷ d) = keys_of d ++ key_of e ∷ []

-- an entry's fields fit its node
pub record Narrow (e : ShelfEntry) : Type 0 where
  pub tile : e.tile < 64
  pub child : e.child < tail_limit

-- keys stand for the entries of a shelf
pub record Shelves (keys : List ℕ) (sh : Shelf) : Type 0 where
  pub are : keys ≡ keys_of sh
  pub valid : SoundShelf sh
  pub narrow : All Narrow sh

-- a dictionary with room for n tails has k of them, those of a shelf
pub record HoldsTails (n : ℕ) (dict : List ℕ) (k : ℕ) (sh : Shelf) : Type 0 where
  pub small : n ≤ tail_limit
  pub few : k < n
  pub size : k ≡ length sh
  pub tree : Tree n dict k
  pub shelves : Shelves (keys_in n dict k) sh

-- the numbers of the open word, and no tail past them
abbrev pub Behind : List ℕ → List ℕ → Type 0
Behind behind xs = (d : ℕ) → get_or behind d 0 ≡ get_or xs d 0

-- a word that can be closed
pub record Closing (w : Word) (behind : List ℕ) (n : ℕ) (dict : List ℕ) (k : ℕ) (sh : Shelf) (xs : List ℕ) : Type 0 where
  pub holds : HoldsTails n dict k sh
  pub begun : OpenWord sh w xs
  pub each : length xs ≡ suc (length w)
  pub long : length behind ≡ 65
  pub numbers : Behind behind xs
  pub fine : ListWord 64 w
  -- every tile has room for a tail, or there is room for as many as a graph has nodes for
  pub room : (k + length w < n) ⊎ (n ≡ tail_limit)

pub record Closable (w : Word) (kept : ℕ) (behind : List ℕ) (n : ℕ) (dict : List ℕ) (k : ℕ) : Type 0 where
  pub sh : Shelf
  pub xs : List ℕ
  pub closing : Closing w behind n dict k sh xs
  pub within : kept ≤ length w

-- what closing a word leaves
pub record WordClosed (w : Word) (kept : ℕ) (sh : Shelf) (xs : List ℕ) (n : ℕ) (behind dict : List ℕ) (k : ℕ) : Type 0 where
  pub holds : HoldsTails n dict k (close sh (drop kept w) (drop kept xs)).shelf
  pub long : length behind ≡ 65
  pub numbers : Behind behind (take kept xs ++ (close sh (drop kept w) (drop kept xs)).number ∷ [])

abbrev pub WordClosedAs : Word → ℕ → Shelf → List ℕ → ℕ → List ℕ → List ℕ → Option ℕ → Type 0
WordClosedAs w kept sh xs n behind dict (Some k) = WordClosed w kept sh xs n behind dict k
WordClosedAs w kept sh xs n behind dict None = tail_limit ≤ suc (length (close sh (drop kept w) (drop kept xs)).shelf)

unfoldable pub WordCloses : Word → ℕ → List ℕ → ℕ → List ℕ → ℕ → List ℕ → List ℕ → Option ℕ → Type 0
WordCloses w kept behind n dict k behind' dict' r =
    (sh : Shelf) (xs : List ℕ) → Closing w behind n dict k sh xs → WordClosedAs w kept sh xs n behind' dict' r

-- the work list has the tails of a shelf from place 2n on, four numbers each: first the node, of 32 bits, and the tail after it
pub record TailsIn (n : ℕ) (work : List ℕ) (sh : Shelf) : Type 0 where
  pub small : n ≤ tail_limit
  pub room : 6 * n ≤ length work
  pub few : length sh < n
  pub shelves : Shelves (keys_in n (drop n work) (length sh)) sh
  pub low : (i : ℕ) → i < length sh → get_or work (2 * n + 4 * i) 0 < 0x100000000

-- what closing all words leaves
abbrev pub WordsClosedAs : List Word → ℕ → List ℕ → Option ℕ → Type 0
WordsClosedAs ws n work (Some i) = TailsIn n work (shelved ws).shelf × (i ≡ (shelved ws).number)
WordsClosedAs ws n work None = tail_limit ≤ suc (length (shelved ws).shelf)

unfoldable pub WordsClose : List ℕ → ℕ → List ℕ → Option ℕ → Type 0
WordsClose list n work r = (ws : List Word) → Lexicon 64 ws → list ≡ list_bytes ws → WordsClosedAs ws n work r
