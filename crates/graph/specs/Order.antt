-- The order of words, from document 01, "Nodes and words", and how far two words are the same.
use Rattle.std.specs.Prelude.{true, false, List, [], ◌∷◌, ℕ, suc, ◌<◌, eqb}
use Rattle.laws.specs.Lists.{All}
use Rattle.graph.specs.Words.{Word}

infix 20 ◌≺◌
-- "Words compare by tiles, a prefix first."
pub data ◌≺◌ : Word → Word → Type 0 where
  prefix : {b : ℕ} {v : Word} → [] ≺ (b ∷ v)
  lower : {a b : ℕ} {u v : Word} → a < b → (a ∷ u) ≺ (b ∷ v)
  later : {a : ℕ} {u v : Word} → u ≺ v → (a ∷ u) ≺ (a ∷ v)

-- each word is below all that come after it
abbrev pub Ascending : List Word → Type 0
Ascending [] = Unit
Ascending (w ∷ ws) = All (w ≺◌) ws × Ascending ws

-- how many tiles two words share before they part
unfoldable pub shared : Word → Word → ℕ
shared [] w = 0
shared (s ∷ v) [] = 0
shared (s ∷ v) (t ∷ u) = elim (eqb s t) [ true ↦ suc (shared v u) | false ↦ 0 ]
