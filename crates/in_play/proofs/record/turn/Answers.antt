-- `in_play::turn` meets its contract: the shifted 1 is the bit's worth.
use Rattle.std.proofs.Common.{arith, ◌%◌, ◌^◌}
use Rattle.std.proofs.Math.Pow.{shl_exact}
use native.Mathlib.Nat.{one-mul}
use lib.Dec.{lit<}
use Rattle.in_play.specs.InPlay.{turned}
use Rattle.in_play.proofs.record.turn.Goals as goal

pub returns : goal.returns
unfolding turned
returns c = let k = c.args.n % 8 in rw (shl_exact 1 k 8 (lit< tt) (omega arith), one-mul (2 ^ k))
