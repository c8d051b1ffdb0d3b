-- The word that a tally of letters asks for: its letters in ascending order, each as often as tallied.
use Rattle.std.specs.Prelude.{◌≡◌, true, ◌≢◌, ◌⊎◌, ◌↔◌, ℕ, zero, suc, ◌≤◌, ◌<◌, drop, replicate}
use mathlib.Core.List.{List, [], ◌∷◌, ◌++◌, Memᴰ}
use Rattle.laws.specs.Bits.{has_bit}
use Rattle.answers.specs.Answers.{gives}
use Rattle.node.specs.Nodes.{kbwg, arc, accepts}
use Rattle.graph.specs.Runs.{Graph, node}
use Rattle.graph.specs.Words.{Word, words}
use Rattle.letters.specs.AlphaSets.{accepts_alpha, cross_set}

-- the letters from t on
unfoldable pub alphagram_from : ℕ → List ℕ → Word
alphagram_from t [] = []
alphagram_from t (n ∷ ns) = replicate n t ++ alphagram_from (suc t) ns

-- "Tally entry 0 is unread"
abbrev pub alphagram : List ℕ → Word
alphagram tally = alphagram_from 1 (drop 1 tally)

-- a word that is read below a node: the node itself for no tiles, else a word from its arc
abbrev pub ReadBelow : Graph → ℕ → Word → Type 0
ReadBelow g p [] = accepts kbwg (node g p) ≡ true
ReadBelow g p (t ∷ w) = (arc kbwg (node g p) ≢ 0) × Memᴰ (t ∷ w) (words kbwg g (arc kbwg (node g p)))

-- a word whose tiles never descend: its letters in ascending order
abbrev pub NeverDescends : Word → Type 0
NeverDescends [] = Unit
NeverDescends (a ∷ []) = Unit
NeverDescends (a ∷ b ∷ w) = (a ≤ b) × NeverDescends (b ∷ w)

-- a lexicon of alphagrams, our term: no word from the start descends
abbrev pub AlphagramLexicon : Graph → Type 0
AlphagramLexicon g = (w : Word) → Memᴰ w (words kbwg g (arc kbwg (node g 0))) → NeverDescends w

-- the tally with one t more
unfoldable pub one_more : ℕ → List ℕ → List ℕ
one_more zero [] = 1 ∷ []
one_more zero (n ∷ ns) = suc n ∷ ns
one_more (suc t) [] = 0 ∷ one_more t []
one_more (suc t) (n ∷ ns) = n ∷ one_more t ns

-- `accepts_alpha` answers yes
abbrev pub Accepted : Graph → List ℕ → Type 0
Accepted g tally = accepts_alpha g tally ≡ gives (1 ∷ [])

-- What the calls say of a tally of at most 64 entries: `accepts_alpha` answers 1 or 0, 1 exactly where the tally's letters are a word from
-- the start ("an empty tally accepts as node 0 does"); bit t above 0 of the cross set is set exactly where the tally with one t more
-- is accepted
pub record AlphaMeans (g : Graph) (tally : List ℕ) : Type 0 where
  pub answers : Accepted g tally ⊎ (accepts_alpha g tally ≡ gives (0 ∷ []))
  pub accepts-means : Accepted g tally ↔ ReadBelow g 0 (alphagram tally)
  pub set : ℕ
  pub cross-says : cross_set g tally ≡ gives (set ∷ [])
  pub cross-means : (t : ℕ) → 0 < t → t < 64 → has_bit set t ≡ true ↔ Accepted g (one_more t tally)
