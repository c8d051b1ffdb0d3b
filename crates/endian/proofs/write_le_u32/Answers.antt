-- `write_le_u32` meets its contract: the four bytes are stored one by one, the lowest first.
use native.Mathlib.Omega.{arith}
use native.Mathlib.Numerals.{add-one, add-two, add-three}
use lib.ListN.{length-set}
use Rattle.endian.proofs.write_le_u32.Goals as goal

pub bounds-bytes-p-2 : goal.bounds-bytes-p-2
bounds-bytes-p-2 c = simp length-set (omega arith)

pub bounds-bytes-p-3 : goal.bounds-bytes-p-3
bounds-bytes-p-3 c = simp length-set (omega arith)

pub returns : goal.returns
returns c = simp (add-one, add-two, add-three)
