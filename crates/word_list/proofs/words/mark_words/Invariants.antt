-- `words::mark_words` meets its contract: the words passed are marked, and they and those left are the lexicon's.
use mathlib.Core.Path.{◌≡◌}
use mathlib.Core.List.{List}
use Prim.Native.Nat.{◌-◌}
use lib.ListN.{length}
use Rattle.graph.specs.Words.{Word}
use Rattle.built.specs.Listed.{list_bytes}
use Rattle.built.specs.Lexicon.{Lexicon}
use Rattle.word_list.proofs.MarkLaws.{Marking}
use Rattle.word_list.proofs.words.mark_words.Given as goal

abbrev pub invariant-loop-at : goal.invariant-loop-at
invariant-loop-at l =
    (ws : List Word) → Lexicon 64 ws → l.list ≡ list_bytes ws → Marking ws l.marks l.last l.before l.at

abbrev pub decreases-loop-at : goal.decreases-loop-at
decreases-loop-at l = length l.list - l.at
