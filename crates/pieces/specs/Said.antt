-- What a load in pieces leaves: the terms of its definition, with each feed's answer as a number.
use Rattle.std.specs.Prelude.{List, map, ℕ, length, take}
use Rattle.std.proofs.lemmas.List.Edits.{sets}
use Rattle.answers.specs.Answers.{Answer, refusal_in}
use Rattle.graph.specs.Runs.{Graph}
use Rattle.load.specs.Said.{said_begin, said_finish}
use Rattle.load.specs.declared.loader.Loader.{Loader}
use Rattle.pieces.specs.Pieces.{LoadOutcome}
use Rattle.pieces.specs.declared.Loaded.{Loaded}

-- the numbers of the answers at the front of a lent list, as many as it has room for; "entries past that stay"
abbrev pub answers_stored : List ℕ → List Answer → List ℕ
answers_stored lent answers = sets lent 0 (take (length lent) (map refusal_in answers))

pub record LoadLeft : Type 0 where
  pub begun : Answer
  pub answers : List ℕ
  pub state : Loader
  pub finished : Answer
  pub nodes : Graph

-- what a load leaves, over a list lent for the feeds' answers
abbrev pub load_leaves : List ℕ → LoadOutcome → LoadLeft
load_leaves lent l = record { begun = l.begun; answers = answers_stored lent l.fed; state = l.state; finished = l.finished; nodes = l.nodes }

-- what the call left: its result and the two lists
abbrev pub loaded_as : Loaded → List ℕ → Graph → LoadLeft
loaded_as r answers nodes =
    record {
      begun = said_begin r.begun;
      answers = answers;
      state = r.loader;
      finished = said_finish r.finished;
      nodes = nodes;
    }
