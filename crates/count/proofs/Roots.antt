-- The loop over the roots: its invariant, each kind of turn, and what holds after the last.
use mathlib.Core.Path.{◌≡◌, sym, subst}
use mathlib.Core.Logic.{◌≢◌, ⊎_elim}
use mathlib.Core.List.{List}
use Prim.Native.Nat.{ℕ, ◌+◌, ◌-◌, ◌*◌, ◌≤◌, ◌<◌}
use native.Mathlib.Omega.{arith}
use lib.ListN.{length}
use Rattle.laws.specs.Cases.{same?}
use Rattle.graph.specs.Runs.{Graph}
use Rattle.graph.specs.ChecksLaws.{Fit}
use Rattle.graph.specs.Lent.{Kept, kept-all, kept_then}
use Rattle.loops.specs.NodeMarks.{mark, node_pushed, mets}
use Rattle.loops.specs.NodeMarksLaws.{sum_le, mets_le, pushed-mark}
use Rattle.count.specs.CountWalk.{is_done, dones, Done, CountWalk, StepTaken, AllDone, LoopFound}
use Rattle.count.proofs.WalkLaws.{pushed-walk}

-- the roots from a place on are met
pub record Roots (limit : ℕ) (g : Graph) (c₀ w₀ c w : List ℕ) (root size : ℕ) : Type 0 where
  pub walk : CountWalk limit g c w size
  pub passed : (k : ℕ) → root ≤ k → k < length g → mark w k ≢ 0
  pub counts-kept : Kept (length g) c₀ c
  pub work-kept : Kept (2 * length g) w₀ w

-- how many steps are left at most, 2 × N at first: each node is met once and done once
abbrev pub steps_left : Graph → List ℕ → ℕ
steps_left g w = 2 * length g - (mets g w + dones g w)

dones_le : (g : Graph) (w : List ℕ) → dones g w ≤ length g
dones_le g w = sum_le is_done w (λ x. omega arith) (length g)

pub step_less : (limit : ℕ) (g : Graph) (c w c' w' : List ℕ) (size' : ℕ) → StepTaken limit g c w c' w' size' → steps_left g w' < steps_left g w
step_less limit g c w c' w' size' S =
    let o = S.on in
    let m = mets_le g w' in
    let d = dones_le g w' in
    omega arith

pub Roots-start : (limit : ℕ) (g : Graph) (c w : List ℕ) → CountWalk limit g c w 0 → Roots limit g c w c w (length g) 0
Roots-start limit g c w W =
    record {
      walk = W;
      passed = λ k a b. absurd (omega arith);
      counts-kept = kept-all (length g) c;
      work-kept = kept-all (2 * length g) w;
    }

module _ (limit : ℕ) (g : Graph) (c₀ w₀ c w : List ℕ) (root size : ℕ) (R : Roots limit g c₀ w₀ c w root size) where
  -- a step of the walk
  pub Roots-step : (c' w' : List ℕ) (size' : ℕ) → StepTaken limit g c w c' w' size' → Roots limit g c₀ w₀ c' w' root size'
  Roots-step c' w' size' S =
      record {
        walk = S.walk;
        passed = λ k a h. S.met k h (R.passed k a h);
        counts-kept = kept_then R.counts-kept S.counts-kept;
        work-kept = kept_then R.work-kept S.work-kept;
      }

  pub roots_loop : (c' w' : List ℕ) → LoopFound g c w c' w' → LoopFound g c₀ w₀ c' w'
  roots_loop c' w' L =
      record {
        node = L.node;
        loops = L.loops;
        counts-kept = kept_then R.counts-kept L.counts-kept;
        work-kept = kept_then R.work-kept L.work-kept;
      }

  -- after the last root every node is done
  pub roots_end : root ≡ 0 → size ≡ 0 → AllDone limit g c₀ w₀ c w
  roots_end l e = record { clear = λ p h. (all p h).clear; counted = λ p h. (all p h).counted; counts-kept = R.counts-kept; work-kept = R.work-kept }
    where
      all : (p : ℕ) → p < length g → Done limit g c w p
      all p h =
          ⊎_elim
          (λ z. absurd (R.passed p (omega arith) h z))
          (λ y. ⊎_elim (λ o. o) (λ o. let b = o.on.within in absurd (omega arith)) y)
          (R.walk.marks p h)

module _ (limit : ℕ) (g : Graph) (c₀ w₀ c w : List ℕ) (roots : ℕ) (some : 0 < roots) where
  -- the next root is met
  pub Roots-next : (size : ℕ) → Roots limit g c₀ w₀ c w roots size → mark w (roots - 1) ≢ 0 → Roots limit g c₀ w₀ c w (roots - 1) size
  Roots-next size R n =
      record {
        walk = R.walk;
        passed = λ k a h. ⊎_elim (λ e. subst (λ j. mark w j ≢ 0) (sym e) n) (λ d. R.passed k (omega (arith, d)) h) (same? k (roots - 1));
        counts-kept = R.counts-kept;
        work-kept = R.work-kept;
      }

module _ (limit : ℕ) (g : Graph) (c₀ w₀ c w : List ℕ) (roots : ℕ) (some : 0 < roots) (R : Roots limit g c₀ w₀ c w roots 0) where
  -- the next root is new, and goes on the stack
  pub Roots-pushed : Fit g → roots ≤ length g → mark w (roots - 1) ≡ 0 → (w' : List ℕ) → w' ≡ node_pushed w (length g) 0 (roots - 1)
      → Roots limit g c₀ w₀ c w' (roots - 1) 1
  Roots-pushed K l n w' e =
      let root : roots - 1 < length g = omega arith in
      let m = pushed-mark (length g) w 0 (roots - 1) R.walk.room root (omega arith) in
      rw e (Roots-next limit g c₀ w₀ c (node_pushed w (length g) 0 (roots - 1)) roots some 1
      (Roots-step limit g c₀ w₀ c w roots 0 R _ _ _ (pushed-walk limit g c w 0 K R.walk (roots - 1) root n (λ i z. absurd (omega arith))))
      (λ z. omega arith))
