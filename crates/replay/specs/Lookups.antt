-- What lookups reply to the words and the bytes of a case: the fields of the flat answer, and then the tiles put.
use Rattle.std.specs.Prelude.{List, [], ◌∷◌, ◌++◌, ℕ, ◌%◌, eqb, length, get_or, take, drop}
use Rattle.base.specs.Numbers.{flag}
use Rattle.answers.specs.Answers.{Answer}
use Rattle.graph.specs.Words.{Word}
use Rattle.graph.specs.Counting.{count_limit}
use Rattle.lookup.specs.Walks.{seek, word_index, word_by_index}
use Rattle.cursor.specs.RunSteps.{moves}
use Rattle.stored.specs.Inputs.{pick}
use Rattle.flat.specs.FlatLookups.{flat_sought, flat_cursor, flat_index, flat_word}
use Rattle.flat.specs.declared.lookups.FlatSought.{FlatSought}
use Rattle.flat.specs.declared.lookups.FlatCursor.{FlatCursor}
use Rattle.flat.specs.declared.lookups.FlatIndex.{FlatIndex}
use Rattle.flat.specs.declared.lookups.FlatWord.{FlatWord}

-- ---- the fields of the flat answers, in their order
abbrev pub sought_fields : FlatSought → List ℕ
sought_fields r = r.refusal ∷ flag r.found ∷ r.place ∷ r.before ∷ []

abbrev pub cursor_fields : FlatCursor → List ℕ
cursor_fields r = r.refusal ∷ flag r.done ∷ r.at ∷ []

abbrev pub index_fields : FlatIndex → List ℕ
index_fields r = r.refusal ∷ flag r.found ∷ r.number ∷ []

abbrev pub word_fields : FlatWord → List ℕ
word_fields r = r.refusal ∷ flag r.found ∷ r.tiles ∷ []

-- ---- the replies
-- P TILE N, N nodes and the counts
unfoldable pub seek_reply : List ℕ → List ℕ
seek_reply ws =
    let n = get_or ws 2 0 in
    let graph = drop 3 ws in
    sought_fields (flat_sought (seek (take n graph) (drop n graph) (get_or ws 0 0) (get_or ws 1 0 % 256)))

-- P, and the nodes
unfoldable pub step_reply : List ℕ → List ℕ
step_reply ws = cursor_fields (flat_cursor (moves (drop 1 ws) (get_or ws 0 0)))

-- P N, N nodes and the counts; the tiles of the word
unfoldable pub index_reply : List ℕ → List ℕ → List ℕ
index_reply ws tiles =
    let n = get_or ws 1 0 in
    let graph = drop 2 ws in
    index_fields (flat_index (word_index count_limit (take n graph) (drop n graph) (get_or ws 0 0) tiles))

-- the walk for P INDEX N, N nodes and the counts, and room for so many tiles
unfoldable pub word_walk : List ℕ → ℕ → Word × Answer
word_walk ws room =
    let n = get_or ws 2 0 in
    let graph = drop 3 ws in
    word_by_index (drop n graph) (take n graph) room (get_or ws 0 0) (get_or ws 1 0)

-- 165 is no tile
unfoldable pub unmarked : List ℕ → List ℕ
unmarked [] = []
unmarked (t ∷ ts) = pick (eqb t 165) [] (t ∷ unmarked ts)

-- the fields, and the tiles that the walk put into the lent word
unfoldable pub word_reply_in : List ℕ → List ℕ → List ℕ
word_reply_in ws lent =
    let walk = word_walk ws (length lent) in
    word_fields (flat_word walk.1) ++ unmarked (walk.0 ++ drop (length walk.0) lent)

-- the tiles put before none or a refusal included
unfoldable pub word_reply : List ℕ → List ℕ
word_reply ws = word_fields (flat_word (word_walk ws 514).1) ++ (word_walk ws 514).0
