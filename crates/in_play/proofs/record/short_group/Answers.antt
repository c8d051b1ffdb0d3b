-- `in_play::short_group` meets its contract: the bytes past those given are 0.
use Rattle.std.proofs.Common.{ℕ, ◌≡◌, ◌∙◌, arith, ◌-◌, ◌++◌, length, replicate, length-append}
use Rattle.std.proofs.lemmas.List.{drop-replicate, length-replicate}
use Rattle.std.specs.Int.{w64, from_le_bytes}
use Rattle.in_play.proofs.GroupLaws.{joined_eight, joined_zeros}
use Rattle.in_play.proofs.record.short_group.Goals as goal

pub returns : goal.returns
returns c =
    let bytes = c.args.bytes.now in
    let n = length bytes in
    let zeros = replicate (8 - n) 0 in
    let stored : c.from_le_bytes.result ≡ from_le_bytes w64 (bytes ++ zeros) =
    c.from_le_bytes.ensures ∙ rw (c.copy_from_slice.ensures.after, drop-replicate {X = ℕ} n 8 0) in
    stored ∙ joined_eight (bytes ++ zeros) (omega (arith, length-append bytes zeros, length-replicate {A = ℕ} (8 - n) 0)) ∙ joined_zeros bytes (8 - n)
