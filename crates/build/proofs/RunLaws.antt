-- Along the tails of a run.
use mathlib.Core.Path.{◌≡◌, refl, ap, ◌∙◌}
use mathlib.Core.List.{List, [], ◌∷◌}
use Prim.Native.Nat.{ℕ, ◌+◌, ◌≤◌, ◌<◌}
use native.Mathlib.Omega.{arith}
use lib.ListN.{length}
use Rattle.shelf.specs.Shelf.{Shelf, run_entries}
use Rattle.shelf.specs.ShelfBuilt.{entries_below}
use Rattle.tails.specs.Tails.{TailsIn}
use Rattle.tails.specs.TailsLaws.{TailAt, tail_at}
use Rattle.node.specs.Nodes.{kbwg, arc}
use Rattle.tails.specs.KeyLaws.{node-fields}
use Rattle.build.specs.Numbering.{run_length, node_at, after_at}

pub entries-zero : (sh : Shelf) → run_entries sh 0 ≡ []
unfolding run_entries
entries-zero [] = refl
entries-zero (e ∷ sh) = entries_below e sh 0 (omega arith) ∙ entries-zero sh

-- tails of the run from i are passed up to that at hand, at most as many as the numbers that they fell
pub record Passing (sh : Shelf) (i at passed : ℕ) : Type 0 where
  pub known : at ≤ length sh
  pub whole : passed + run_length sh at ≡ run_length sh i
  pub fallen : passed + at ≤ i

pub passing-starts : (sh : Shelf) (i : ℕ) → i ≤ length sh → Passing sh i i 0
passing-starts sh i h = record { known = h; whole = omega arith; fallen = omega arith }

module _ {n : ℕ} {work : List ℕ} {sh : Shelf} (t : TailsIn n work sh) {i at passed : ℕ} (p : Passing sh i at passed) where
  pub passing-goes : 0 < at → Passing sh i (after_at n work at) (passed + 1)
  passing-goes h =
      let r = tail_at t at h p.known in
      let e = r.next-is in
      let b = r.next-below in
      let k = p.known in
      let f = p.fallen in
      let w = p.whole in
      let c = ap length r.chain-is in
      let d = ap (λ x. run_length sh x) e in
      record { known = omega arith; whole = omega arith; fallen = omega arith }

  pub passing-done : at ≡ 0 → passed ≡ run_length sh i
  passing-done z = let w = p.whole in let c = ap (λ x. run_length sh x) z in let d = ap length (entries-zero sh) in omega arith

-- the arc of a tail's node is its child
pub entry-child : {n : ℕ} {work : List ℕ} {sh : Shelf} {i : ℕ} (r : TailAt n work sh i) → arc kbwg (node_at n work i) ≡ r.entry.child
entry-child r = ap (arc kbwg) r.node-is ∙ (node-fields r.entry r.narrow).arc-is
