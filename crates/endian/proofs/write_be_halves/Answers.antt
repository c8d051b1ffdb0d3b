-- `write_be_halves` meets its contract: the bytes of the high half and then of the low one are those of the whole number.
use native.Mathlib.Omega.{arith}
use mathlib.Core.Path.{◌∙◌}
use Rattle.endian.proofs.BigStores.{stores_halves}
use Rattle.endian.proofs.write_be_halves.Goals as goal

pub returns : goal.returns
returns c =
    let lower = c in
    let higher = lower in
    let s = higher in
    let a = s.args in
    lower.write_be_u32-2.ensures
    ∙ rw higher.write_be_u32.ensures (stores_halves a.bytes.now a.p a.high a.low (omega (arith, s.ranges)))
