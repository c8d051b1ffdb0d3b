-- What the call's answers say, and what its parts leave.
use Rattle.std.specs.Prelude.{◌≡◌, List, [], ◌∷◌, ℕ, ◌≤◌, ◌<◌, length, Result}
use Rattle.answers.specs.Answers.{Answer, gives, Refusal, refusing, said_result, first_of}
use Rattle.graph.specs.Runs.{Graph}
use Rattle.graph.specs.Words.{Word}
use Rattle.export.specs.BlocksLaws.{Low}
use Rattle.built.specs.Built.{built}
use Rattle.built.specs.Build.{built_row, Building, building}
use Rattle.built.specs.Lexicon.{Lexicon}
use Rattle.built.specs.Listed.{list_bytes}
use Rattle.shelf.specs.Shelf.{Shelf, child_numbers, numbered_graph}
use Rattle.tails.specs.Tails.{TailsIn}
use Rattle.word_list.specs.Checks.{list_why}
use Rattle.build.specs.declared.BuildRefusal.{BuildRefusal}
use Rattle.build.specs.declared.BuildRefusal.TheVariants as R

abbrev pub build_why : BuildRefusal → Refusal
build_why (R.List r) = list_why r
build_why R.WorkTooShort = refusing 11 []
build_why R.TooManyNodes = refusing 25 []
build_why R.NodesTooShort = refusing 11 []

abbrev pub said_built : Result ℕ BuildRefusal → Answer
said_built r = said_result (λ n. gives (n ∷ [])) build_why r

-- the call's result in the terms of its definition
abbrev pub built_as : Result ℕ BuildRefusal → Graph → Building
built_as r nodes = record { answer = said_built r; nodes = nodes }

-- what it answers and leaves past its first checks, where this is the graph
abbrev pub past_checks : Graph → Graph → Building
past_checks g lent = building (first_of (built_row g (length lent))) g lent

-- the tail of a list's own run, whose chains end
pub record IsRoot (sh : Shelf) (n : ℕ) (work : List ℕ) (root : ℕ) : Type 0 where
  pub tails : TailsIn n work sh
  pub some : 0 < root
  pub known : root ≤ length sh
  pub low : Low (child_numbers sh) 64 root

abbrev pub HasRoot : ℕ → List ℕ → ℕ → Type 0
HasRoot n work root = (sh : Shelf) × IsRoot sh n work root

abbrev pub RunBuilds : ℕ → List ℕ → ℕ → Graph → Graph → Result ℕ BuildRefusal → Type 0
RunBuilds n work root lent nodes r = (sh : Shelf) → IsRoot sh n work root → built_as r nodes ≡ past_checks (numbered_graph sh root) lent

abbrev pub WordsBuild : List ℕ → Graph → Graph → Result ℕ BuildRefusal → Type 0
WordsBuild list lent nodes r = (ws : List Word) → Lexicon 64 ws → list ≡ list_bytes ws → built_as r nodes ≡ past_checks (built ws) lent
