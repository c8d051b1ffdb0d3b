-- The words of a list of bytes and its row of checks, from document 02, C-18: "The list is one length byte and that many tiles per word."
use Rattle.std.specs.Prelude.{Bool, true, false, ◌&&◌, ◌||◌, not, List, [], ◌∷◌, ◌++◌, map, ℕ, zero, suc, eqb, ltb, length, take, drop}
use Rattle.laws.specs.Lists.{some_of, join_all}
use Rattle.answers.specs.Answers.{refusing, Row}
use Rattle.graph.specs.Words.{Word}

-- the words, at most `left` of them
unfoldable pub words_ahead : ℕ → List ℕ → List Word
words_ahead zero bytes = []
words_ahead (suc left) [] = []
words_ahead (suc left) (n ∷ bytes) = take n bytes ∷ words_ahead left (drop n bytes)

-- a word takes a byte or more
unfoldable pub words_listed : List ℕ → List Word
words_listed bytes = words_ahead (length bytes) bytes

-- the bytes of words
abbrev pub list_bytes : List Word → List ℕ
list_bytes ws = join_all (map (λ w. length w ∷ w) ws)

-- whether the second word is above the first
abbrev pub word_below : Word → Word → Bool
word_below [] [] = false
word_below [] (b ∷ v) = true
word_below (a ∷ u) [] = false
word_below (a ∷ u) (b ∷ v) = ltb a b || (eqb a b && word_below u v)

-- "not 1 to 63"
abbrev pub no_tile : ℕ → Bool
no_tile t = eqb t 0 || ltb 63 t

-- "32 for a length not 1 to 64, a list that ends inside a word or a tile not 1 to 63; 33 for a word not above the one before": of a word's
-- length byte, and the bytes after it
abbrev pub word_row : Word → ℕ → List ℕ → Row
word_row before n bytes =
    (eqb n 0 || ltb 64 n, refusing 32 [])
    ∷ (ltb (length bytes) n, refusing 32 [])
    ∷ (some_of no_tile (take n bytes), refusing 32 [])
    ∷ (not (word_below before (take n bytes)), refusing 33 [])
    ∷ []

-- "both met word by word in list order": the rows of the words after the word `before`, one after the other
unfoldable pub rows_ahead : ℕ → Word → List ℕ → Row
rows_ahead zero before bytes = []
rows_ahead (suc left) before [] = []
rows_ahead (suc left) before (n ∷ bytes) = word_row before n bytes ++ rows_ahead left (take n bytes) (drop n bytes)

abbrev pub rows_after : Word → List ℕ → Row
rows_after before bytes = rows_ahead (length bytes) before bytes

-- before the first word there is the empty one, which is below every other
unfoldable pub list_row : List ℕ → Row
list_row bytes = rows_after [] bytes
