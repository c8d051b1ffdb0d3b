-- The words of a list that is a lexicon's, by their places.
use Rattle.std.specs.Prelude.{◌≡◌, List, [], ◌∷◌, ℕ, suc, ◌+◌, length, get_or}
use Rattle.graph.specs.Words.{Word}
use Rattle.built.specs.Lexicon.{Lexicon}
use Rattle.built.specs.Listed.{list_bytes}

-- the bytes are those of a lexicon
abbrev pub IsLexicon : List ℕ → Type 0
IsLexicon l = (ws : List Word) × Lexicon 64 ws × (l ≡ list_bytes ws)

-- words before a place, the last first, and words from there on make the list
unfoldable pub rejoined : List Word → List Word → List Word
rejoined [] ws = ws
rejoined (v ∷ us) ws = rejoined us (v ∷ ws)

-- the place after words, the last first
unfoldable pub place_after : List Word → ℕ
place_after [] = 0
place_after (v ∷ us) = place_after us + suc (length v)

-- the word before a place: the empty one before the first
abbrev pub last_of : List Word → Word
last_of [] = []
last_of (v ∷ us) = v

-- the place of each word, and that after them, keeps how many tiles the word before it has
abbrev pub Back : List ℕ → List Word → Type 0
Back marks [] = get_or marks 0 0 ≡ 0
Back marks (v ∷ us) = (get_or marks (place_after (v ∷ us)) 0 ≡ length v) × Back marks us

-- what marking leaves: of the lexicon's words the last stands at the place answered, with a way back from it
pub record MarkedAs (ws : List Word) (marks : List ℕ) (r : ℕ) : Type 0 where
  pub before : List Word
  pub last : Word
  pub all : rejoined before (last ∷ []) ≡ ws
  pub place : r ≡ place_after before
  pub back : Back marks before

abbrev pub Marked : List ℕ → List ℕ → ℕ → Type 0
Marked l marks r = (ws : List Word) → Lexicon 64 ws → l ≡ list_bytes ws → MarkedAs ws marks r
