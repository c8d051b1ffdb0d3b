-- `lines::put_refusal` meets its contract: a refusal's line is its three parts, put one after the other.
use native.Mathlib.Omega.{arith}
use mathlib.Core.Path.{refl, ap}
use Prim.Native.Nat.{◌+◌}
use lib.ListN.{length}
use lib.Seq.{length-sets}
use Rattle.endian.specs.Puts.{Puts, put-size, put_both}
use Rattle.listing.specs.Lines.{refused_tab, refusal_line}
use Rattle.listing.proofs.LinesLaws.{refusal-parts}
use Rattle.listing.proofs.lines.put_refusal.Goals as goal
use Rattle.listing.proofs.lines.put_refusal.Goals.{After-put_number-end, After-write_bytes, Start}

pub write_bytes-requires : goal.write_bytes-requires
write_bytes-requires c = omega (arith, c.requires, refusal-parts c.args.number)

-- the states after the words and after the number
abbrev start : After-write_bytes → Start
start s = (goal.at.After-write_bytes s).Start

abbrev words-put : After-put_number-end → After-write_bytes
words-put s = (goal.at.After-put_number-end s).After-write_bytes

pub overflow_add-at : goal.overflow_add-at
overflow_add-at c = let s = start (goal.at.overflow_add-at c).After-write_bytes in omega (arith, s.requires, refusal-parts s.args.number)

pub put_number-end-requires : goal.put_number-end-requires
put_number-end-requires c =
    let w = (goal.at.put_number-end-requires c).After-write_bytes in
    let s = start w in
    let l = ap length w.write_bytes.ensures in
    omega (arith, s.requires, refusal-parts s.args.number, l, length-sets s.args.out.now s.args.at refused_tab)

pub put_byte-requires : goal.put_byte-requires
put_byte-requires c =
    let n = (goal.at.put_byte-requires c).After-put_number-end in
    let w = words-put n in
    let s = start w in
    let p = n.put_number-end.ensures in
    let l = ap length w.write_bytes.ensures in
    let m = length-sets s.args.out.now s.args.at refused_tab in
    omega (arith, s.requires, refusal-parts s.args.number, p.place, put-size p, l, m)

pub returns : goal.returns
unfolding refusal_line
returns c =
    let n = (goal.at.returns c).After-put_number-end in
    let w = words-put n in
    let a = (start w).args in
    let first : Puts refused_tab a.out.now a.at _ (a.at + 8) = record { place = refl; stored = w.write_bytes.ensures } in
    put_both (put_both first n.put_number-end.ensures) c.put_byte.ensures
