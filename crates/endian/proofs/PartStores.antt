-- A part of a list written over by as many values is those values stored one by one.
use Rattle.std.proofs.Common.{◌≡◌, ℕ, ◌+◌, ◌≤◌, List, ◌++◌, length, take, ap, append_assoc}
use Rattle.std.proofs.lemmas.List.{drop-drop}
use Rattle.std.proofs.lemmas.List.Edits.{sets, sets-eq}
use borrow.Rule.Slice.PartMut.{put_mid}

pub part-stored : (l : List ℕ) (i k : ℕ) (ws vs : List ℕ) → ws ≡ vs → k ≡ length vs → i + length vs ≤ length l → put_mid i k l ws ≡ sets l i vs
part-stored l i k ws vs e n h = rw (e, n, sets-eq vs l i h, append_assoc) (ap (λ r. take i l ++ (vs ++ r)) (drop-drop (length vs) i l))
