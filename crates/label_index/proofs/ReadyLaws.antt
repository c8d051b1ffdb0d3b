-- The label file is read: the numbers of its lines in order are the first in the room lent for them.
use Rattle.std.proofs.Common.{◌≡◌, ℕ, List, ◌≤◌, ◌<◌, ◌/◌, refl, ap, arith, length, take, length-take-le, get_or-take, Ok}
use Rattle.label_index.specs.Index.{first_in, FirstBytes}
use Rattle.label_index.specs.Said.{FileRead}
use Rattle.label_index.proofs.SearchLaws.{entry}

-- a number of the part that is in use
first-same : (n i : ℕ) (order : List ℕ) → i < n → first_in (take n order) i ≡ first_in order i
first-same n i order h = ap (λ k. k / 262144) (get_or-take n order i 0 h)

pub read_firsts : {file starts order : List ℕ} {n : ℕ} → FileRead file starts order (Ok n) → 256 ≤ length order
    → FirstBytes (length (take n order)) (take n order)
read_firsts {file} {starts} {order} {n} x h =
    let index = x.index n refl in
    let few = index.few in
    let k = x.count n refl in
    let size = length-take-le n order (omega arith) in
    record {
      lent = omega arith;
      bytes = λ i l.
          let e = first-same n i order (omega arith) in
          let q = entry index i (omega arith) in
          let b = q.sound.byte in let a = q.first in omega arith;
    }
