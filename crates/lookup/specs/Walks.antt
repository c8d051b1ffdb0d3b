-- The walks of run lookup and of both word-number conversions, from document 01, "Counting and numbers", and for the words of a run before a
-- tile from 02, C-16.
use Rattle.std.specs.Prelude.{true, false, ◌&&◌, not, List, [], ◌∷◌, ℕ, zero, suc, ◌-◌, eqb, ltb, drop}
use Rattle.answers.specs.Answers.{Answer, gives, nothing, refused}
use Rattle.lookup.specs.Steps.{Try, on, stop, ◌>>=◌, answer, require, lent_part, lent, difference, sum}
use Rattle.node.specs.Nodes.{tile, arc, accepts, accepts_bit, kbwg, is_end}
use Rattle.graph.specs.Runs.{Graph, node}
use Rattle.graph.specs.Words.{Word}

-- the place of "the first node of the run with the tile", in the run that begins at the head of the nodes left, at place p
unfoldable pub find_in : Graph → ℕ → ℕ → Try ℕ
find_in [] p t = stop (refused 14 [])
find_in (v ∷ vs) p t =
    elim (eqb (tile kbwg v) t) [
      | true ↦ on p
      | false ↦ elim (is_end kbwg v) [ true ↦ stop nothing | false ↦ find_in vs (suc p) t ]
    ]

-- where the arc of node v leads: the first place of a run; "Arc 0 means no arc"
unfoldable pub arc_of : ℕ → Try ℕ
arc_of v = elim (eqb (arc kbwg v) 0) [ true ↦ stop nothing | false ↦ on (arc kbwg v) ]

-- a step of a walk that reads no counts: the node with the tile in the run that the arc of p leads to
unfoldable pub step_to : Graph → ℕ → ℕ → Try ℕ
step_to g p t = do
  v ← lent g p
  first ← arc_of v
  find_in (drop first g) first t

-- the words of a run from its place p on that come before its place q: the count of p less that of q, "the run's first count first"
unfoldable pub words_between : List ℕ → ℕ → ℕ → Try ℕ
words_between counts p q = do
  first ← lent counts p
  other ← lent counts q
  difference first other

-- ---- run lookup with counts (02, C-16)
module _ (g : Graph) (counts : List ℕ) where
  -- in the run from p: the node with the tile, and "how many words of the run come before it"; "Counts are read only for a tile found"
  unfoldable pub passed : ℕ → ℕ → Try (ℕ × ℕ)
  passed p t = do
    q ← find_in (drop p g) p t
    before ← words_between counts p q
    on (q, before)

  -- from node v: in the run that its arc leads to
  unfoldable pub passed_after : ℕ → ℕ → Try (ℕ × ℕ)
  passed_after v t = do
    first ← arc_of v
    passed first t

  -- from place p
  unfoldable pub passed_from : ℕ → ℕ → Try (ℕ × ℕ)
  passed_from p t = do
    v ← lent g p
    passed_after v t

  -- a word's first tile, whose run begins at the start itself: none from start 0, and the start's count must be lent, whatever the tile
  unfoldable pub passed_first : ℕ → ℕ → Try (ℕ × ℕ)
  passed_first start t = do
    _ ← require (not (eqb start 0)) nothing
    _ ← lent counts start
    passed start t

-- ---- `get_word_index`; limit is the greatest number: no sum is above it, and as the number of a word it means none
-- the word that ends at node v, with idx words before it
unfoldable pub number_ending : ℕ → ℕ → ℕ → Answer
number_ending limit v idx = elim (accepts kbwg v && not (eqb idx limit)) [ true ↦ gives (idx ∷ []) | false ↦ nothing ]

module _ (limit : ℕ) (g : Graph) (counts : List ℕ) where
  -- the tiles after one that led to node v, with idx words before it: run lookup's answer "for each further tile"
  unfoldable pub index_from : ℕ → ℕ → Word → Answer
  index_from v idx [] = number_ending limit v idx
  index_from v idx (t ∷ w) = answer do
    here ← sum limit idx (accepts_bit kbwg v)
    (q, before) ← passed_after g counts v t
    next ← sum limit here before
    on (index_from (node g q) next w)

  -- "answers a number, or none where the Rust gives `!0`; start 0 and the empty word give none"
  unfoldable pub index_of_word : ℕ → Word → Answer
  index_of_word start [] = nothing
  index_of_word start (t ∷ w) = answer do
    (q, before) ← passed_first g counts start t
    on (index_from (node g q) before w)

-- ---- `get_word_by_index`
-- what the walk does at a node of the run: its tile ends the word, or comes before a word of the arc, with the number left
pub data Turn : Type 0 where
  last : ℕ → Turn
  down : ℕ → ℕ → Turn

module _ (counts : List ℕ) where
  -- the words that begin at node v itself, `words_here` in the Rust
  unfoldable pub words_here : ℕ → ℕ → Try ℕ
  words_here v p = elim (is_end kbwg v) [ true ↦ lent counts p | false ↦ words_between counts p (suc p) ]

  -- along the run that begins at the head of the nodes left, at place p
  unfoldable pub turn_in : Graph → ℕ → ℕ → Try Turn
  turn_in [] p idx = stop (refused 14 [])
  turn_in (v ∷ vs) p idx =
      elim (eqb idx 0 && accepts kbwg v) [
        | true ↦ on (last v)
        | false ↦ words_here v p >>= λ here.
            elim (ltb idx here) [
              | true ↦ on (down v (idx - accepts_bit kbwg v))
              | false ↦ elim (is_end kbwg v) [ true ↦ stop nothing | false ↦ turn_in vs (suc p) (idx - here) ]
            ]
      ]

  -- the tiles put and the answer, with room for so many more tiles and n put before
  unfoldable pub word_from : Graph → ℕ → ℕ → ℕ → ℕ → Word × Answer
  word_from g zero n p idx = ([], elim (turn_in (drop p g) p idx) [ on t ↦ refused 16 [] | stop r ↦ r ])
  word_from g (suc room) n p idx =
      elim (turn_in (drop p g) p idx) [
        | stop r ↦ ([], r)
        | on t ↦ elim t [
          | last v ↦ (tile kbwg v ∷ [], gives (suc n ∷ []))
          | down v left ↦ let r = word_from g room (suc n) (arc kbwg v) left in (tile kbwg v ∷ r.0, r.1)
        ]
      ]

-- ---- the calls, over what is lent
-- "Run lookup is `seek`, where -1 is none."; it answers "with the node found, how many words of the run come before it" (02, C-16)
unfoldable pub seek : Graph → List ℕ → ℕ → ℕ → Answer
seek g counts p t = answer do
  (q, before) ← passed_from (lent_part g) (lent_part counts) p t
  on (gives (q ∷ before ∷ []))

-- "`get_word_index` answers a number, or none"
unfoldable pub word_index : ℕ → Graph → List ℕ → ℕ → Word → Answer
word_index limit g counts p w = index_of_word limit (lent_part g) (lent_part counts) p w

-- the tiles put, and the answer, for a buffer of so many tiles
unfoldable pub word_by_index : List ℕ → Graph → ℕ → ℕ → ℕ → Word × Answer
word_by_index counts g room p idx = word_from (lent_part counts) (lent_part g) room 0 p idx
