-- `write_be_u32` meets its contract: the four bytes stored one by one are those of the number, the highest first.
use native.Mathlib.Omega.{arith}
use native.Mathlib.Numerals.{add-one, add-two, add-three}
use lib.ListN.{length-set}
use native.Mathlib.Nat.{div-div-eq-div-mul}
use Rattle.endian.proofs.write_be_u32.Goals as goal

pub bounds-bytes-p-2 : goal.bounds-bytes-p-2
bounds-bytes-p-2 c = simp length-set (omega arith)

pub bounds-bytes-p-3 : goal.bounds-bytes-p-3
bounds-bytes-p-3 c = simp length-set (omega arith)

pub bounds-bytes-p-4 : goal.bounds-bytes-p-4
bounds-bytes-p-4 c = simp length-set (omega arith)

pub returns : goal.returns
returns c = simp (add-one, add-two, add-three, div-div-eq-div-mul)
