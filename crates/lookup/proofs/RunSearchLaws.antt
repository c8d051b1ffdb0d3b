-- The search for a tile along a run, node by node.
use mathlib.Core.Path.{◌≡◌}
use mathlib.Core.Bool.{true, false}
use mathlib.Core.Logic.{◌≢◌}
use mathlib.Core.List.{[], ◌∷◌}
use Prim.Native.Nat.{ℕ, suc, ◌+◌, ◌≤◌, ◌<◌}
use native.Mathlib.Omega.{arith}
use native.Mathlib.Numerals.{add-one}
use borrow.Author.Tests.{eq-eqb, ne_eqb}
use lib.Dec.{eqb}
use lib.ListN.{length, drop, drop_of_length-le, length-drop}
use lib.Seq.{drop-cons}
use Rattle.laws.specs.Cases.{split}
use Rattle.answers.specs.Answers.{nothing, refused}
use Rattle.node.specs.Nodes.{kbwg, tile, is_end}
use Rattle.graph.specs.Runs.{Graph, node}
use Rattle.lookup.specs.Steps.{on, stop}
use Rattle.lookup.specs.StepsLaws.{on_eq, stop-on}
use Rattle.lookup.specs.Walks.{find_in}

-- ---- at a node of the run
module _ (g : Graph) (i t : ℕ) where
  pub find-out : length g ≤ i → find_in (drop i g) i t ≡ stop (refused 14 [])
  unfolding find_in
  find-out h = rw (drop_of_length-le g h)

  module _ (h : i < length g) where
    pub find-here : tile kbwg (node g i) ≡ t → find_in (drop i g) i t ≡ on i
    unfolding find_in
    find-here e = rw (drop-cons g i 0 h) (rw (eq-eqb (tile kbwg (node g i)) t e, find_in))

    module _ (n : tile kbwg (node g i) ≢ t) where
      pub find_absent : is_end kbwg (node g i) ≡ true → find_in (drop i g) i t ≡ stop nothing
      unfolding find_in
      find_absent e = rw (drop-cons g i 0 h) (rw (ne_eqb (tile kbwg (node g i)) t n, find_in) (rw e))

      pub find-next : is_end kbwg (node g i) ≡ false → find_in (drop i g) i t ≡ find_in (drop (i + 1) g) (i + 1) t
      unfolding find_in
      find-next e = rw add-one (rw (drop-cons g i 0 h) (rw (ne_eqb (tile kbwg (node g i)) t n, find_in) (rw e)))

-- ---- a node that is found is lent
pub found_between : (vs : Graph) (p t q : ℕ) → find_in vs p t ≡ on q → (p ≤ q) × (q < p + length vs)
unfolding find_in
found_between [] p t q e = stop-on e
found_between (v ∷ vs) p t q e =
    split (eqb (tile kbwg v) t)
    (λ y. let z = on_eq (rw (y, find_in) at e) in (omega arith, omega arith))
    (λ n. split (is_end kbwg v)
    (λ y. stop-on (rw y at (rw (n, find_in) at e)))
    (λ m. let k = found_between vs (suc p) t q (rw m at (rw (n, find_in) at e)) in (omega arith, omega arith)))

pub found-lent : (g : Graph) (p t q : ℕ) → find_in (drop p g) p t ≡ on q → q < length g
found-lent g p t q e = let k = found_between (drop p g) p t q e in let l = length-drop p g in omega arith
