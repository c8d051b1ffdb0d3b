-- `tail_key` meets its contract: the sum of the fields at their places is the node, and the tail after it stands above 32 bits.
use native.Mathlib.Omega.{arith}
use Rattle.tails.specs.Tails.{key_of}
use Rattle.tails.proofs.tail_key.Goals as goal

pub returns : goal.returns
unfolding key_of
returns c = omega arith
