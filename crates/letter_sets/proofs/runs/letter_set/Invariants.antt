-- The loop's invariant: the set, joined with that of the nodes left, is the run's.
use Rattle.std.specs.Prelude.{◌≡◌, bit_or}
use Rattle.letter_sets.specs.Letters.{set_by}
use Rattle.letter_sets.proofs.runs.letter_set.Given as goal

abbrev pub invariant-loop-i : goal.invariant-loop-i
invariant-loop-i l = bit_or l.set (set_by l.ranks l.nodes l.i) ≡ set_by l.ranks l.nodes l.p
