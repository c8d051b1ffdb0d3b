-- The letters left, and the copies left before them, lead where the whole leads.
use Rattle.std.proofs.Common.{◌≡◌, drop}
use Rattle.letters.specs.AlphaSets.{spent}
use Rattle.letters.proofs.AlphaLaws.{spending}
use Rattle.letters.proofs.alpha.completes_alpha_cross_set.Given as goal

abbrev pub invariant-copies : goal.invariant-copies
invariant-copies l =
    spent l.nodes l.next_letter (drop l.next_letter l.tally) l.p-2 ≡ spending l.nodes l.tally l.left l.letter l.p

abbrev pub decreases-copies : goal.decreases-copies
decreases-copies l = l.left

abbrev pub invariant-letters : goal.invariant-letters
invariant-letters l =
    spent l.nodes l.next_letter (drop l.next_letter l.tally) l.p-2 ≡ spent l.nodes l.letter (drop l.letter l.tally) l.p
