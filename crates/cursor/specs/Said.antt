-- What a step of the cursor says, and the cursor after it.
use Rattle.std.specs.Prelude.{◌≡◌, ℕ, Result, Option as Maybe}
use Rattle.answers.specs.Answers.{Answer, said_result, said_option}
use Rattle.lookup.specs.Refusals.{not_lent_refusal}
use Rattle.lookup.specs.Said.{said_number}
use Rattle.lookup.specs.declared.refusals.NotLent.{NotLent}
use Rattle.cursor.specs.RunSteps.{Moves, moves}
use Rattle.cursor.specs.declared.Moved.{Moved}
use Rattle.cursor.specs.declared.RunCursor.{RunCursor}

abbrev pub said_step : Result (Maybe ℕ) NotLent → Answer
said_step r = said_result (said_option said_number) not_lent_refusal r

-- a step's result in the terms of its definition
abbrev pub moved_as : Moved → Moves
moved_as r = record { answer = said_step r.answer; at = r.at }

-- A cursor's step: what it says, and the cursor after it, over the same nodes.
pub record Advances (before after : RunCursor) (r : Result (Maybe ℕ) NotLent) : Type 0 where
  pub said : said_step r ≡ (moves before.nodes.now before.at).answer
  pub cursor : after ≡ record { nodes = before.nodes; at = (moves before.nodes.now before.at).at }
