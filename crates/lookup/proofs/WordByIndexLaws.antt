-- The walk from a number to its word: a turn at a node of a run, and turn by turn.
use mathlib.Core.Path.{◌≡◌}
use mathlib.Core.Bool.{true, false, ◌&&◌}
use mathlib.Core.List.{List, [], ◌∷◌}
use Prim.Native.Nat.{ℕ, zero, suc, ◌+◌, ◌-◌, ◌≤◌, ◌<◌}
use native.Mathlib.Omega.{arith}
use native.Mathlib.Numerals.{add-one}
use borrow.Author.Tests.{lt-ltb, le-ltb}
use lib.Dec.{eqb}
use lib.ListN.{length, drop, drop_of_length-le}
use lib.Seq.{drop-cons}
use Rattle.answers.specs.Answers.{Answer, gives, nothing, refused}
use Rattle.node.specs.Nodes.{kbwg, tile, arc, accepts, accepts_bit, is_end}
use Rattle.graph.specs.Runs.{Graph, node}
use Rattle.lookup.specs.Steps.{on, stop, ◌>>=◌}
use Rattle.lookup.specs.Walks.{Turn, last, down, words_here, turn_in, word_from}

-- ---- a turn at a node
module _ (counts : List ℕ) (g : Graph) (p idx : ℕ) where
  pub turn-out : length g ≤ p → turn_in counts (drop p g) p idx ≡ stop (refused 14 [])
  unfolding turn_in
  turn-out h = rw (drop_of_length-le g h)

  module _ (h : p < length g) where
    pub turn_last : eqb idx 0 && accepts kbwg (node g p) ≡ true → turn_in counts (drop p g) p idx ≡ on (last (node g p))
    unfolding turn_in
    turn_last l = rw (drop-cons g p 0 h) (rw (l, turn_in))

    module _ (l : eqb idx 0 && accepts kbwg (node g p) ≡ false) where
      pub turn-stop : {r : Answer} → words_here counts (node g p) p ≡ stop r → turn_in counts (drop p g) p idx ≡ stop r
      unfolding turn_in
      turn-stop e = rw (drop-cons g p 0 h) (rw (l, turn_in) (rw e))

      module _ {n : ℕ} (e : words_here counts (node g p) p ≡ on n) where
        pub turn-down : {b : ℕ} → b ≡ accepts_bit kbwg (node g p) → idx < n → turn_in counts (drop p g) p idx ≡ on (down (node g p) (idx - b))
        unfolding turn_in
        turn-down f k = rw f (rw (drop-cons g p 0 h) (rw (l, turn_in) (rw e (rw (lt-ltb idx n k, ◌>>=◌)))))

        module _ (k : n ≤ idx) where
          pub turn-none : is_end kbwg (node g p) ≡ true → turn_in counts (drop p g) p idx ≡ stop nothing
          unfolding turn_in
          turn-none y = rw (drop-cons g p 0 h) (rw (l, turn_in) (rw e (rw (le-ltb idx n k, ◌>>=◌) (rw y))))

          pub turn-next : is_end kbwg (node g p) ≡ false → turn_in counts (drop p g) p idx ≡ turn_in counts (drop (p + 1) g) (p + 1) (idx - n)
          unfolding turn_in
          turn-next y = rw add-one (rw (drop-cons g p 0 h) (rw (l, turn_in) (rw e (rw (le-ltb idx n k, ◌>>=◌) (rw y)))))

-- ---- turn by turn
module _ (counts : List ℕ) (g : Graph) where
  pub word-stop : (room n p idx : ℕ) {r : Answer} → turn_in counts (drop p g) p idx ≡ stop r → word_from counts g room n p idx ≡ ([], r)
  unfolding word_from
  word-stop zero n p idx e = rw e
  word-stop (suc room) n p idx e = rw (e, word_from)

  pub word-full : (room n p idx : ℕ) {t : Turn} → turn_in counts (drop p g) p idx ≡ on t → room ≡ 0 → word_from counts g room n p idx ≡ ([], refused 16 [])
  unfolding word_from
  word-full zero n p idx e z = rw e
  word-full (suc room) n p idx e z = absurd (omega arith)

  pub word-last : (room n p idx : ℕ) {v : ℕ} → turn_in counts (drop p g) p idx ≡ on (last v) → 0 < room
      → word_from counts g room n p idx ≡ (tile kbwg v ∷ [], gives ((n + 1) ∷ []))
  unfolding word_from
  word-last zero n p idx e z = absurd (omega arith)
  word-last (suc room) n p idx e z = rw (add-one, e, word_from)

  pub word-down : (room n p idx : ℕ) {v k : ℕ} → turn_in counts (drop p g) p idx ≡ on (down v k) → 0 < room
      → let r = word_from counts g (room - 1) (n + 1) (arc kbwg v) k in word_from counts g room n p idx ≡ (tile kbwg v ∷ r.0, r.1)
  unfolding word_from
  word-down zero n p idx e z = absurd (omega arith)
  word-down (suc room) n p idx e z = let o : suc room - 1 ≡ room = omega arith in rw (add-one, o, e, word_from)

  pub word_next : (room n p idx q k : ℕ) → turn_in counts (drop p g) p idx ≡ turn_in counts (drop q g) q k
      → word_from counts g room n p idx ≡ word_from counts g room n q k
  unfolding word_from
  word_next zero n p idx q k e = rw e
  word_next (suc room) n p idx q k e = rw (e, word_from)
