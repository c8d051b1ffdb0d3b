-- `opening::load_input` meets its contract: what begin refuses by, or else what finish answers.
use Rattle.std.proofs.Common.{refl, ap}
use Rattle.std.specs.Prelude.{Ok, Err}
use Rattle.std.proofs.lemmas.Result.{err_from_is_err_and}
use Rattle.load.specs.Said.{said_begin, said_finish}
use Rattle.listing.specs.Wordlist.{load_input}
use Rattle.listing.specs.declared.opening.OpenRefusal.TheVariants as O
use Rattle.listing.proofs.OpeningLaws.{Answered, whole-load, load_refused_by-begin, load-past-begin, refuses-by}
use Rattle.listing.proofs.opening.load_input.Goals as goal
use Rattle.listing.proofs.opening.load_input.Goals.{After-begin-begun, After-feed-fed, After-finish-finished, Start}

-- begin, one feed and finish, once all three are done
module _ (c : After-finish-finished) where
  abbrev from : Start
  from = (goal.at.After-finish-finished c).Start

  abbrev begun : After-begin-begun
  begun = (goal.at.After-finish-finished c).After-begin-begun

  abbrev fed : After-feed-fed
  fed = (goal.at.After-finish-finished c).After-feed-fed

  answered : Answered (load_input from.args.input.now from.args.nodes.now) begun.begin-begun.result.answer c.finish-finished.result c.finish-finished.new.nodes
  answered =
      whole-load from.args.input.now from.args.nodes.now begun.begin-begun.result fed.feed-fed.result c.finish-finished.result
      begun.begin-begun.ensures fed.feed-fed.ensures c.finish-finished.ensures

pub returns-in_err-begun : goal.returns-in_err-begun
returns-in_err-begun c =
    let p = err_from_is_err_and c.from_residual.result c.from_residual.ensures.1 in
    rw (p.1, p.2) (load_refused_by-begin (answered (goal.at.returns-in_err-begun c).After-finish-finished) _ c.in_err-begun.was)

pub returns-in_err-finished : goal.returns-in_err-finished
returns-in_err-finished c =
    let p = err_from_is_err_and c.from_residual-in_err-finished.result c.from_residual-in_err-finished.ensures.1 in
    let why = c.in_err-finished.field-0.0 in
    rw (p.1, p.2) (load-past-begin (answered (goal.at.returns-in_err-finished c).After-finish-finished) (Err (O.Finish why))
    (ap said_begin c.in_ok-begun.was) (refuses-by _ (ap said_finish c.in_err-finished.was) refl))

pub returns : goal.returns
returns c =
    load-past-begin (answered (goal.at.returns c).After-finish-finished) (Ok c.in_ok-finished.field-0)
    (ap said_begin c.in_ok-begun.was) (ap said_finish c.in_ok-finished.was)
