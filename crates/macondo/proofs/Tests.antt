-- Runs that ascend, a node at a time.
use Rattle.std.specs.Prelude.{◌≡◌, Bool, true, false, ◌&&◌, ◌||◌, [], ◌∷◌, ℕ, suc, ltb, leb, length, drop}
use Rattle.std.proofs.Common.{◌+◌, ◌≤◌, ◌<◌, sym, ap, refl, arith, add-one, drop-cons, le-leb, ltb-true, ltb-false}
use Rattle.std.proofs.lemmas.Bool.{lt-leb}
use Rattle.laws.specs.Cases.{split}
use Rattle.node.specs.Nodes.{kbwg, tile, is_end}
use Rattle.graph.specs.Runs.{Graph, node, ascends}

-- the tiles that may come after a node that is no end are those above its own
pub higher : (a t : ℕ) → leb (a + 1) t ≡ ltb a t
higher a t = split (ltb a t) (λ h. rw h (le-leb (a + 1) t (let l = ltb-true a t h in omega arith))) (λ h. rw h (lt-leb (a + 1) t (let l = ltb-false a t h in omega arith)))

-- ---- whether the nodes ascend, and the first has this tile or a higher one
abbrev pub ascends_from : ℕ → Graph → Bool
ascends_from lowest [] = true
ascends_from lowest (v ∷ l) = leb lowest (tile kbwg v) && ascends kbwg (v ∷ l)

pub from_any : (g : Graph) → ascends_from 0 g ≡ ascends kbwg g
unfolding ascends
from_any [] = refl
from_any (v ∷ l) = rw (le-leb 0 (tile kbwg v) (omega arith))

module _ (lowest : ℕ) (g : Graph) (i : ℕ) (h : i < length g) where
  pub first_falls : tile kbwg (node g i) < lowest → ascends_from lowest (drop i g) ≡ false
  first_falls k = rw (drop-cons g i 0 h) (rw (lt-leb lowest (tile kbwg (node g i)) k))

  after_first : (next v : ℕ) (l : Graph) → ((t : ℕ) → leb next t ≡ is_end kbwg v || ltb (tile kbwg v) t) → ascends kbwg (v ∷ l) ≡ ascends_from next l
  unfolding ascends
  after_first next v [] a = refl
  after_first next v (w ∷ l) a = ap (◌&& ascends kbwg (w ∷ l)) (sym (a (tile kbwg w)))

  pub first_passes : lowest ≤ tile kbwg (node g i) → (next : ℕ) → ((t : ℕ) → leb next t ≡ is_end kbwg (node g i) || ltb (tile kbwg (node g i)) t)
      → ascends_from lowest (drop i g) ≡ ascends_from next (drop (i + 1) g)
  first_passes k next a =
      rw (drop-cons g i 0 h, add-one) (rw (le-leb lowest (tile kbwg (node g i)) k) (after_first next (node g i) (drop (suc i) g) a))
