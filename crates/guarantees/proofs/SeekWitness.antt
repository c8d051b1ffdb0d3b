-- The five nodes of document 01 in run lookup: two of their words begin before B. They meet the premises of what `seek` promises, and what it
-- names is computed.
use mathlib.Core.Path.{◌≡◌, refl, ◌∙◌}
use mathlib.Core.List.{[], ◌∷◌}
use native.Mathlib.Omega.{arith}
use Rattle.answers.specs.Answers.{gives, nothing, first_of}
use Rattle.graph.specs.Runs.{run, ascends, largest_arc, last_ends}
use Rattle.graph.specs.Words.{in_order, spelled, words_within, words}
use Rattle.graph.specs.Counting.{counts}
use Rattle.lookup.specs.Steps.{lent}
use Rattle.lookup.specs.Walks.{find_in, arc_of, step_to, seek}
use Rattle.lookup.specs.WordsBefore.{words_before, named_before}
use Rattle.lookup.proofs.WordsBeforeLaws.{seek-names}
use Rattle.guarantees.specs.Starred.{five_nodes}
use Rattle.guarantees.proofs.PageWitness.{G-own}

named : named_before five_nodes 0 2 ≡ gives (3 ∷ 2 ∷ [])
unfolding lent find_in arc_of step_to words_before named_before words words_within in_order spelled run
named = refl

-- from node 0, for B and for a letter that is not there
pub record SeekMet : Type 0 where
  pub before-B : seek five_nodes (counts five_nodes) 0 2 ≡ gives (3 ∷ 2 ∷ [])
  pub not_there : named_before five_nodes 0 3 ≡ nothing

pub G-sought : SeekMet
unfolding first_of ascends largest_arc last_ends lent find_in arc_of step_to named_before
G-sought = record { before-B = seek-names five_nodes (counts five_nodes) 0 2 five_nodes refl refl G-own (omega arith) ∙ named; not_there = refl }
