-- The loop's invariant: the key that is looked for, if it is there, is ahead.
use Rattle.std.specs.Prelude.{◌-◌, ◌*◌}
use Rattle.dictionary.proofs.SearchLaws.{Seeking}
use Rattle.dictionary.proofs.number_key.Given as goal

abbrev pub invariant-loop-number : goal.invariant-loop-number
invariant-loop-number l = Seeking l.n l.dict l.count l.key l.link l.bits

abbrev pub decreases-loop-number : goal.decreases-loop-number
decreases-loop-number l = 5 * l.n - l.link
