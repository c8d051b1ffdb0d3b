-- The walk by number, whatever it is lent: it answers how many tiles it put, each is below 64, it is refused by 16 only where they fill
-- the buffer, and a shorter buffer cuts it there.
use Rattle.std.specs.Prelude.{◌≡◌, ◌&&◌, eqb, ltb, leb, length, take, drop}
use Rattle.std.proofs.Math.Path.{refl, ap}
use Rattle.std.proofs.Common.{sym, ◌∙◌, take_at}
use mathlib.Core.List.{List, [], ◌∷◌}
use Prim.Native.Nat.{ℕ, zero, suc, zero-le, ◌+◌, ◌-◌, ◌≤◌, ◌<◌}
use native.Mathlib.Omega.{arith}
use Rattle.laws.specs.Buffers.{Filled}
use Rattle.laws.specs.Cases.{split}
use Rattle.laws.specs.Lists.{All}
use Rattle.answers.specs.Answers.{Answer, gives, nothing, refused}
use Rattle.answers.specs.RowLaws.{gives≢refused}
use Rattle.node.specs.Nodes.{kbwg, arc, accepts, is_end}
use Rattle.graph.specs.Runs.{Graph}
use Rattle.graph.specs.Words.{Word}
use Rattle.lookup.specs.Steps.{Try, on, stop, ◌>>=◌, lent, difference, lent_part}
use Rattle.lookup.specs.StepsLaws.{Comes, then-Comes}
use Rattle.lookup.specs.Walks.{Turn, last, down, words_between, words_here, turn_in, word_from, word_by_index}

-- ---- no step ends the walk with a value or by 16
Stops : Answer → Type 0
Stops (gives vs) = ⊥
Stops nothing = Unit
Stops (refused n vs) = n < 16

abbrev StepEnds : {A : Type 0} → Try A → Type 0
StepEnds x = Comes (λ _. Unit) Stops x

then-ends : {A B : Type 0} (x : Try A) (f : A → Try B) → StepEnds x → ((a : A) → StepEnds (f a)) → StepEnds (x >>= f)
then-ends x f h k = then-Comes (λ _. Unit) (λ _. Unit) Stops x f h (λ a _ _. k a)

lent-ends : (l : List ℕ) (i : ℕ) → StepEnds (lent l i)
unfolding Stops lent
lent-ends l i = split (ltb i (length l)) (λ t. rw (t, lent) tt) (λ t. rw (t, lent) (omega arith))

difference-ends : (a b : ℕ) → StepEnds (difference a b)
unfolding Stops difference
difference-ends a b = split (leb b a) (λ t. rw (t, difference) tt) (λ t. rw (t, difference) (omega arith))

module _ (counts : List ℕ) where
  between_ends : (p q : ℕ) → StepEnds (words_between counts p q)
  unfolding words_between
  between_ends p q =
      then-ends (lent counts p) _ (lent-ends counts p) (λ c. then-ends (lent counts q) _ (lent-ends counts q) (λ d. difference-ends c d))

  here-ends : (v p : ℕ) → StepEnds (words_here counts v p)
  unfolding words_here
  here-ends v p = split (is_end kbwg v) (λ t. rw (t, words_here) (lent-ends counts p)) (λ t. rw (t, words_here) (between_ends p (suc p)))

  turn-ends : (g : Graph) (p idx : ℕ) → StepEnds (turn_in counts g p idx)
  unfolding Stops turn_in
  turn-ends [] p idx = omega arith
  turn-ends (v ∷ g) p idx =
      split (eqb idx 0 && accepts kbwg v)
      (λ t. rw (t, turn_in) tt)
      (λ t. rw (t, turn_in) (then-ends (words_here counts v p) _ (here-ends v p)
      (λ here. split (ltb idx here)
      (λ u. rw u tt)
      (λ u. rw u (split (is_end kbwg v)
      (λ e. rw e tt)
      (λ e. rw e (turn-ends g (suc p) (idx - here))))))))

-- ---- what a walk leaves
-- a tile of a node is below 64
abbrev pub Tiles : Word → Type 0
Tiles w = All (◌< 64) w

pub record WalkLeaves (room n : ℕ) (x : Word × Answer) : Type 0 where
  pub fits : length x.0 ≤ room
  pub tiles : Tiles x.0
  pub given : (m : ℕ) → x.1 ≡ gives (m ∷ []) → m ≡ n + length x.0
  pub full : {vs : List ℕ} → x.1 ≡ refused 16 vs → length x.0 ≡ room

-- a walk that puts nothing
stopped : (room n : ℕ) (r : Answer) → StepEnds {A = Turn} (stop r) → WalkLeaves room n ([], r)
unfolding Stops
stopped room n (gives vs) h = absurd h
stopped room n nothing h = record { fits = zero-le; tiles = tt; given = λ m e. cc; full = λ e. cc }
stopped room n (refused k vs) h =
    record {
      fits = zero-le;
      tiles = tt;
      given = λ m e. gives≢refused (sym e);
      full = λ e. let i : k ≡ 16 = cc in absurd (omega arith);
    }

module _ (counts : List ℕ) (g : Graph) where
  filled : (n p idx : ℕ) (t : Try Turn) → turn_in counts (drop p g) p idx ≡ t → StepEnds t → WalkLeaves 0 n (word_from counts g 0 n p idx)
  unfolding word_from Stops
  filled n p idx (on t) e h =
      rw (e, word_from) (record { fits = zero-le; tiles = tt; given = λ m i. gives≢refused (sym i); full = λ i. refl })
  filled n p idx (stop r) e h = rw (e, word_from) (stopped 0 n r h)

  onward : (room n p idx : ℕ) → ((m q j : ℕ) → WalkLeaves room m (word_from counts g room m q j)) → (t : Try Turn)
      → turn_in counts (drop p g) p idx ≡ t
      → StepEnds t → WalkLeaves (suc room) n (word_from counts g (suc room) n p idx)
  unfolding word_from
  onward room n p idx ih (stop r) e h = rw (e, word_from) (stopped (suc room) n r h)
  onward room n p idx ih (on (last v)) e h =
      rw (e, word_from)
      (record {
        fits = omega arith;
        tiles = (omega arith, tt);
        given = λ m i. let k : suc n ≡ m = cc in omega arith;
        full = λ i. gives≢refused i;
      })
  onward room n p idx ih (on (down v left)) e h =
      let r = ih (suc n) (arc kbwg v) left in
      rw (e, word_from)
      (record {
        fits = omega (arith, r.fits);
        tiles = (omega arith, r.tiles);
        given = λ m i. omega (arith, r.given m i);
        full = λ i. ap suc (r.full i);
      })

  walked : (room n p idx : ℕ) → WalkLeaves room n (word_from counts g room n p idx)
  walked zero n p idx = filled n p idx (turn_in counts (drop p g) p idx) refl (turn-ends counts (drop p g) p idx)
  walked (suc room) n p idx =
      onward room n p idx (walked room) (turn_in counts (drop p g) p idx) refl (turn-ends counts (drop p g) p idx)

  -- ---- with less room than it puts tiles the walk puts those that have room and is refused
  Cut : ℕ → ℕ → ℕ → ℕ → ℕ → Type 0
  Cut room big n p idx =
      room < length (word_from counts g big n p idx).0 → word_from counts g room n p idx ≡ (take room (word_from counts g big n p idx).0, refused 16 [])

  cut-first : (big n p idx : ℕ) (t : Try Turn) → turn_in counts (drop p g) p idx ≡ t → Cut 0 (suc big) n p idx
  unfolding word_from Cut
  cut-first big n p idx (on t) e h = rw (e, word_from)
  cut-first big n p idx (stop r) e h = let h' = rw (e, word_from) at h in absurd (omega arith)

  cut_later : (room big n p idx : ℕ) → ((m q j : ℕ) → Cut room big m q j) → (t : Try Turn) → turn_in counts (drop p g) p idx ≡ t
      → Cut (suc room) (suc big) n p idx
  unfolding word_from Cut
  cut_later room big n p idx ih (stop r) e h = let h' = rw (e, word_from) at h in absurd (omega arith)
  cut_later room big n p idx ih (on (last v)) e h = let h' = rw (e, word_from) at h in absurd (omega arith)
  cut_later room big n p idx ih (on (down v left)) e h =
      let h' = rw (e, word_from) at h in
      rw (e, word_from) (rw (ih (suc n) (arc kbwg v) left (omega arith)))

  cut : (room big n p idx : ℕ) → Cut room big n p idx
  unfolding word_from Cut
  cut room zero n p idx h = absurd (omega arith)
  cut zero (suc big) n p idx h = cut-first big n p idx (turn_in counts (drop p g) p idx) refl h
  cut (suc room) (suc big) n p idx h = cut_later room big n p idx (cut room big) (turn_in counts (drop p g) p idx) refl h

-- ---- the call
module _ (counts : List ℕ) (nodes : Graph) (room p idx : ℕ) where
  pub by-index-walked : WalkLeaves room 0 (word_by_index counts nodes room p idx)
  unfolding word_by_index
  by-index-walked = walked (lent_part counts) (lent_part nodes) room 0 p idx

  pub by-index-cut : (big : ℕ) → room < length (word_by_index counts nodes big p idx).0
      → word_by_index counts nodes room p idx ≡ (take room (word_by_index counts nodes big p idx).0, refused 16 [])
  unfolding word_by_index Cut
  by-index-cut big h = cut (lent_part counts) (lent_part nodes) room big 0 p idx h

-- the tiles of a word that is put stand at the front of the buffer
pub tiles-front : {walk : Word × Answer} {before after : List ℕ} {r : Answer} → Filled walk before after r → (n : ℕ) → n ≡ length walk.0
    → take n after ≡ walk.0
tiles-front {walk} {before} p n e = ap (take n) p.front ∙ take_at walk.0 (drop (length walk.0) before) n (sym e)
