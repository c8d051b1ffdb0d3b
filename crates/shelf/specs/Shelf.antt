-- Runs as a program can keep them: numbered entries, each a run's first node and the number of what follows it in the run. One entry
-- is kept once, so a number stands for the words of a run, and the graph is made from numbers alone. A reader need not believe any of it:
-- `shelf-built` says what it comes to.
use Rattle.std.specs.Prelude.{◌≡◌, Bool, true, false, not, ◌⊎◌, ◌≢◌, ℕ, suc, ◌≤◌, ◌<◌, eqb, length}
use mathlib.Core.List.{List, [], ◌∷◌, ◌++◌, map, Memᴰ}
use Rattle.laws.specs.Lists.{is_empty, filtered, join_all}
use Rattle.graph.specs.Runs.{Graph}
use Rattle.graph.specs.Words.{Word}
use Rattle.export.specs.Blocks.{met, block_at}
use Rattle.built.specs.Branches.{Branch, branch}
use Rattle.built.specs.BranchLaws.{words_of_all, empty_word}
use Rattle.built.specs.Built.{node_of}

-- child and next are numbers of entries, or 0
pub record ShelfEntry : Type 0 where
  pub tile : ℕ
  pub accepts : Bool
  pub child : ℕ
  pub next : ℕ

-- the newest first: its number is how many there are
abbrev pub Shelf : Type 0
Shelf = List ShelfEntry

-- the entries of the run of a number
unfoldable pub run_entries : Shelf → ℕ → List ShelfEntry
run_entries [] n = []
run_entries (e ∷ d) n = elim (eqb n (suc (length d))) [ true ↦ e ∷ run_entries d e.next | false ↦ run_entries d n ]

-- the branches, and the words, that a number stands for
unfoldable pub tail_of : Shelf → ℕ → List Branch
tail_of [] n = []
tail_of (e ∷ d) n =
    elim (eqb n (suc (length d))) [
      | true ↦ branch e.tile (empty_word e.accepts ++ words_of_all (tail_of d e.child)) ∷ tail_of d e.next
      | false ↦ tail_of d n
    ]

abbrev pub number_words : Shelf → ℕ → List Word
number_words d n = words_of_all (tail_of d n)

-- the first tile of the branches, if any, is above t
abbrev pub FirstAbove : ℕ → List Branch → Type 0
FirstAbove t [] = Unit
FirstAbove t (b ∷ bs) = t < b.first

-- an entry that may be put on a shelf
pub record MayStand (d : Shelf) (e : ShelfEntry) : Type 0 where
  pub child-known : e.child ≤ length d
  pub next_known : e.next ≤ length d
  pub some : (e.accepts ≡ true) ⊎ (e.child ≢ 0)
  pub rises : FirstAbove e.tile (tail_of d e.next)
  pub new : Memᴰ e d → ⊥

abbrev pub SoundShelf : Shelf → Type 0
SoundShelf [] = Unit
SoundShelf (e ∷ d) = MayStand d e × SoundShelf d

-- ---- the graph from numbers
-- the runs that a run leads to
unfoldable pub child_numbers : Shelf → ℕ → List ℕ
child_numbers d n = filtered (λ c. not (eqb c 0)) (map (λ (e : ShelfEntry). e.child) (run_entries d n))

-- the nodes of a run; `to` gives the place of a number's run
unfoldable pub entry_nodes : (ℕ → ℕ) → List ShelfEntry → List ℕ
entry_nodes to [] = []
entry_nodes to (e ∷ es) = node_of e.tile e.accepts (is_empty es) (to e.child) ∷ entry_nodes to es

-- the runs from a number, in the order in which they are first met
abbrev pub numbers_met : Shelf → ℕ → List ℕ
numbers_met d n = met eqb (child_numbers d) 64 [] n

-- where the run of a number c stands among them, or 0 where c is 0
unfoldable pub arc_of_number : Shelf → ℕ → ℕ → ℕ
arc_of_number d n c = elim (eqb c 0) [ true ↦ 0 | false ↦ block_at eqb (λ m. length (run_entries d m)) 2 (numbers_met d n) c ]

unfoldable pub numbered_graph : Shelf → ℕ → Graph
numbered_graph d n =
    node_of 0 false true (arc_of_number d n n) ∷ node_of 0 false true 0
    ∷ join_all (map (λ m. entry_nodes (arc_of_number d n) (run_entries d m)) (numbers_met d n))
