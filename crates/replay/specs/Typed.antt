-- What reading words as viewers type them replies to the words and the bytes of a case: the fields of the flat answer, and then what was put.
use Rattle.std.specs.Prelude.{List, [], ◌∷◌, ◌++◌, ℕ, min, length, get_or, take, drop}
use Rattle.base.specs.Numbers.{flag}
use Rattle.answers.specs.Answers.{Answer}
use Rattle.typed.specs.Texts.{next_word}
use Rattle.typed.specs.Batches.{Batch, batch_answer, read_words}
use Rattle.flat.specs.FlatTyped.{flat_typed, flat_typed_list}
use Rattle.flat.specs.declared.typing.FlatTyped.{FlatTyped}
use Rattle.flat.specs.declared.typing.FlatTypedList.{FlatTypedList}
use Rattle.replay.specs.Lookups.{unmarked}

-- ---- the fields of the flat answers, in their order
abbrev pub typed_fields : FlatTyped → List ℕ
typed_fields r = r.refusal ∷ flag r.found ∷ r.bad ∷ r.start ∷ r.end ∷ r.after ∷ r.tiles ∷ []

abbrev pub typed_list_fields : FlatTypedList → List ℕ
typed_list_fields r = r.refusal ∷ flag r.found ∷ r.bad ∷ r.words ∷ r.tiles ∷ r.after ∷ []

-- ---- one word
-- the walk for AT ROOM L, L bytes of the label file and the text, and room for so many tiles
unfoldable pub typed_walk : List ℕ → List ℕ → ℕ → List ℕ × Answer
typed_walk ws bs room =
    let n = get_or ws 2 0 in
    next_word (take n bs) (drop n bs) room (get_or ws 0 0)

-- the fields, and the tiles that the walk put into the lent word
unfoldable pub typed_reply_in : List ℕ → List ℕ → List ℕ → List ℕ
typed_reply_in ws bs lent =
    let walk = typed_walk ws bs (length lent) in
    typed_fields (flat_typed walk.1) ++ unmarked (walk.0 ++ drop (length walk.0) lent)

-- with room for as many tiles as the case asks for, 64 at most; the tiles put before a refusal included
unfoldable pub typed_reply : List ℕ → List ℕ → List ℕ
typed_reply ws bs = let walk = typed_walk ws bs (min (get_or ws 1 0) 64) in typed_fields (flat_typed walk.1) ++ walk.0

-- ---- as many words as there is room for
-- the batch for AT ROOM SIZES L, L bytes of the label file and the text, and room for so many words and so many tiles
unfoldable pub typed_batch : List ℕ → List ℕ → ℕ → ℕ → Batch
typed_batch ws bs slots room =
    let n = get_or ws 3 0 in
    read_words (take n bs) (drop n bs) slots room (get_or ws 0 0)

-- the fields, the words' numbers of tiles, and the tiles of the words
unfoldable pub typed_list_reply_in : List ℕ → List ℕ → ℕ → ℕ → List ℕ
typed_list_reply_in ws bs slots room =
    let b = typed_batch ws bs slots room in
    typed_list_fields (flat_typed_list (batch_answer b)) ++ (b.sizes ++ b.tiles)

-- with room for as many as the case asks for, 16 words and 64 tiles at most
unfoldable pub typed_list_reply : List ℕ → List ℕ → List ℕ
typed_list_reply ws bs = typed_list_reply_in ws bs (min (get_or ws 2 0) 16) (min (get_or ws 1 0) 64)
