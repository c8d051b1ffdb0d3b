-- The loop over the roots: its invariant, each kind of turn, and what holds after the last.
use mathlib.Core.Path.{◌≡◌, refl}
use mathlib.Core.Logic.{◌≢◌, inl, ⊎_elim}
use mathlib.Core.List.{List}
use Prim.Native.Nat.{ℕ, ◌+◌, ◌*◌, ◌≤◌, ◌<◌}
use native.Mathlib.Nat.{not-suc-le-zero}
use native.Mathlib.Omega.{arith}
use borrow.Author.Count.{below_more}
use lib.ListN.{length}
use Rattle.laws.specs.Cases.{below?}
use Rattle.node.specs.Nodes.{kbwg}
use Rattle.graph.specs.Runs.{Graph}
use Rattle.graph.specs.Loops.{once, Loops, LowestLoop}
use Rattle.graph.specs.Counting.{Loopless}
use Rattle.graph.specs.LoopLaws.{Reach-inside}
use Rattle.graph.specs.Lent.{Kept, kept-all, kept_then}
use Rattle.loops.specs.NodeMarks.{mark}
use Rattle.loops.specs.Search.{SearchState, SearchStepped}
use Rattle.loops.specs.declared.search.LoopSearch.{LoopSearch}

-- the nodes below root are met
pub record SearchRoots (g : Graph) (c₀ w₀ c w : List ℕ) (root : ℕ) (s : LoopSearch) : Type 0 where
  pub state : SearchState g c w s
  pub met : (k : ℕ) → k < root → mark w k ≢ 0
  pub counts-kept : Kept (length g) c₀ c
  pub work-kept : Kept (2 * length g) w₀ w

-- before the first root the marks are 0
pub search-start : (g : Graph) (c w₀ w : List ℕ) → length g ≤ length c → 2 * length g ≤ length w → Kept (2 * length g) w₀ w
    → ((x : ℕ) → x < length g → mark w x ≡ 0) → SearchRoots g c w₀ c w 0 (record { size = 0; top = 0; low = length g })
search-start g c w₀ w a b k z =
    record {
      state = record {
        room = b;
        room-counts = a;
        stack = record {
          few = omega arith;
          places = λ j h. absurd (not-suc-le-zero h);
          differ = λ i j h. absurd (not-suc-le-zero h);
          marks = λ x h. inl (z x h);
          closed = λ x q f d. let y = z x (Reach-inside kbwg (once d)) in absurd (omega arith);
          last = λ j h. absurd (not-suc-le-zero h);
          at_top = λ j f. absurd (omega arith);
          low-loops = inl refl;
          lower-left = λ x r h. inl (z x h);
        };
        tallied = omega arith;
      };
      met = λ j h. absurd (not-suc-le-zero h);
      counts-kept = kept-all (length g) c;
      work-kept = k;
    }

module _ (g : Graph) (c₀ w₀ c w : List ℕ) (root : ℕ) (s : LoopSearch) (R : SearchRoots g c₀ w₀ c w root s) where
  -- a step of the search
  module _ (c' w' : List ℕ) (r : LoopSearch) (S : SearchStepped g c w c' w' s r) where
    pub search-goes-on : root ≤ length g → SearchRoots g c₀ w₀ c' w' root r
    search-goes-on b =
        record {
          state = S.state;
          met = λ k h. S.met k (omega arith) (R.met k h);
          counts-kept = kept_then R.counts-kept S.counts-kept;
          work-kept = kept_then R.work-kept S.work-kept;
        }

  -- a root that is met
  pub search-next-root : mark w root ≢ 0 → SearchRoots g c₀ w₀ c w (root + 1) s
  search-next-root n =
      record {
        state = R.state;
        met = below_more (λ (k : ℕ). mark w k ≢ 0) root R.met n;
        counts-kept = R.counts-kept;
        work-kept = R.work-kept;
      }

  -- after the last root every node is met and none is open
  module _ (ended : length g ≤ root) (idle : s.top ≡ 0) where
    left : (x : ℕ) → Loops kbwg g x → x < s.low → ⊥
    left x y l =
        let h = Reach-inside kbwg y in
        ⊎_elim
        (λ z. R.met x (omega arith) z)
        (λ v. let b = R.state.stack.last v.0.place v.0.within v.1 in omega arith)
        (R.state.stack.lower-left x y l)

    pub none-loops : length g ≤ s.low → Loopless g
    none-loops h x y = let i = Reach-inside kbwg y in left x y (omega arith)

    pub low-loops : s.low < length g → LowestLoop kbwg g s.low
    low-loops h =
        record {
          loops = ⊎_elim (λ e. absurd (omega arith)) (λ l. l) R.state.stack.low-loops;
          least = λ x y. ⊎_elim (λ b. absurd (left x y b)) (λ b. b) (below? x s.low);
        }
