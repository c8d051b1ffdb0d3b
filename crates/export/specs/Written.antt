-- What a writer leaves of the bytes that it is lent, from document 01, "Files for other programs".
use Rattle.std.specs.Prelude.{List, [], ◌∷◌, ◌++◌, ℕ, length, drop}
use Rattle.std.proofs.Math.Option.{Option, none, some}
use Rattle.answers.specs.Answers.{Answer, gives}

-- What the call answers, and the bytes after it.
pub record Written : Type 0 where
  pub answer : Answer
  pub bytes : List ℕ

-- "A written file answers its length. A refusal writes no file byte."
abbrev pub written : Option Answer → List ℕ → List ℕ → Written
written (some r) file lent = record { answer = r; bytes = lent }
written none file lent = record { answer = gives (length file ∷ []); bytes = file ++ drop (length file) lent }
