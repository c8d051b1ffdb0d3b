-- The word lists that a lexicon is built from.
use Rattle.std.specs.Prelude.{List, ℕ, ◌≤◌, ◌<◌, length}
use Rattle.laws.specs.Lists.{All}
use Rattle.graph.specs.Words.{Word}
use Rattle.graph.specs.Order.{Ascending}

-- words of 1 to `longest` tiles, each tile 1 to 63
pub record ListWord (longest : ℕ) (w : Word) : Type 0 where
  pub some : 1 ≤ length w
  pub short : length w ≤ longest
  pub tiles : All (λ t. (1 ≤ t) × (t < 64)) w

-- each above the one before
pub record Lexicon (longest : ℕ) (ws : List Word) : Type 0 where
  pub ascending : Ascending ws
  pub fine : All (ListWord longest) ws
