-- What is left of the run gives the answer of the whole.
use Rattle.std.proofs.Common.{◌≡◌, drop}
use Rattle.letters.specs.AlphaSets.{closing}
use Rattle.letters.proofs.alpha.closing.Given as goal

abbrev pub invariant-loop-i : goal.invariant-loop-i
invariant-loop-i l = closing (drop l.i l.nodes) l.answer ≡ closing (drop l.p l.nodes) l.set
