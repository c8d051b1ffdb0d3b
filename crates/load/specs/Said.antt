-- What the answers of begin, feed and finish say.
use Rattle.std.specs.Prelude.{[], ◌∷◌, ℕ, Result, Ok, Err}
use Rattle.std.proofs.Math.Option.{Option}
use Rattle.answers.specs.Answers.{Answer, gives, Refusal, refusing, said_result, refusal_of}
use Rattle.graph.specs.Runs.{Graph}
use Rattle.graph.specs.Checks.{nodes_why}
use Rattle.load.specs.Repacking.{misfit_refusal}
use Rattle.load.specs.Loading.{stopped, Begins, Feeds, Finishes}
use Rattle.load.specs.declared.repack.Misfit.{Misfit}
use Rattle.load.specs.declared.refusals.BeginRefusal.{BeginRefusal}
use Rattle.load.specs.declared.refusals.BeginRefusal.TheVariants.{NotWholeNodes, OverLimit, NodesTooShort}
use Rattle.load.specs.declared.refusals.StateRefusal.{StateRefusal}
use Rattle.load.specs.declared.refusals.StateRefusal.TheVariants.{BadState, DoesNotFit}
use Rattle.load.specs.declared.refusals.FeedRefusal.{FeedRefusal}
use Rattle.load.specs.declared.refusals.FeedRefusal.TheVariants as Feed
use Rattle.load.specs.declared.refusals.FinishRefusal.{FinishRefusal}
use Rattle.load.specs.declared.refusals.FinishRefusal.TheVariants as Finish
use Rattle.load.specs.declared.loader.Loader.{Loader}
use Rattle.load.specs.declared.loader.Begun.{Begun}
use Rattle.load.specs.declared.loader.Fed.{Fed}

-- what begin refuses by
abbrev pub begin_why : BeginRefusal → Refusal
begin_why NotWholeNodes = refusing 1 []
begin_why OverLimit = refusing 2 []
begin_why NodesTooShort = refusing 3 []

abbrev pub begin_refusal : Result Unit BeginRefusal → Option Answer
begin_refusal r = refusal_of begin_why r

abbrev pub said_begin : Result Unit BeginRefusal → Answer
said_begin r = said_result (λ _. gives []) begin_why r

-- what feed and finish refuse a state by
abbrev pub state_why : StateRefusal → Refusal
state_why BadState = refusing 4 []
state_why (DoesNotFit m) = misfit_refusal m

abbrev pub state_refusal : Result Unit StateRefusal → Option Answer
state_refusal r = refusal_of state_why r

abbrev pub feed_why : FeedRefusal → Refusal
feed_why (Feed.State why) = state_why why
feed_why Feed.TooLong = refusing 5 []

abbrev pub said_feed : Result Unit FeedRefusal → Answer
said_feed r = said_result (λ _. gives []) feed_why r

abbrev pub finish_why : FinishRefusal → Refusal
finish_why (Finish.State why) = state_why why
finish_why Finish.Missing = refusing 7 []
finish_why (Finish.Nodes why) = nodes_why why

abbrev pub said_finish : Result ℕ FinishRefusal → Answer
said_finish r = said_result (λ n. gives (n ∷ [])) finish_why r

-- A call's result in the terms of its definition.
abbrev pub begun_as : Begun → Begins
begun_as r = record { answer = said_begin r.answer; state = r.loader }

abbrev pub feeds_as : Result Unit FeedRefusal → Loader → Graph → Feeds
feeds_as r state nodes = record { answer = said_feed r; state = state; nodes = nodes }

abbrev pub fed_as : Fed → Graph → Feeds
fed_as r nodes = feeds_as r.answer r.loader nodes

abbrev pub finished_as : Result ℕ FinishRefusal → Graph → Finishes
finished_as r nodes = record { answer = said_finish r; nodes = nodes }

-- the state that a read piece leaves: the one read, or the one that keeps the node that stopped it
abbrev pub left_by : Loader → Result Loader Misfit → Loader
left_by s (Ok after) = after
left_by s (Err m) = stopped s.announced s.layout m
