-- The walk from there gives the answer of the whole.
use Rattle.std.proofs.Common.{◌≡◌, drop}
use Rattle.letters.specs.AlphaSets.{along, cross_from}
use Rattle.letters.proofs.AlphaLaws.{at_letter, at_copy}
use Rattle.letters.proofs.alpha.cross_from.Given as goal

abbrev pub invariant-letters : goal.invariant-letters
invariant-letters l = at_letter l.nodes l.tally l.letter l.p l.answer ≡ cross_from l.nodes l.tally

abbrev pub invariant-copies : goal.invariant-copies
invariant-copies l = at_copy l.nodes l.tally l._left l.letter l.p l.answer ≡ cross_from l.nodes l.tally

abbrev pub invariant-run : goal.invariant-run
invariant-run l =
    along l.nodes l.tally l.letter (λ q u. at_copy l.nodes l.tally l._left l.letter q u) (drop l.i l.nodes) l.i l.answer ≡ cross_from l.nodes l.tally
