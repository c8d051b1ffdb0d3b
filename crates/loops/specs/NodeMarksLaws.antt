-- How many nodes are met, or done, when marks change; and a work list after its marks are cleared, and after a node is put on its stack.
use Rattle.std.specs.Prelude.{◌≡◌, ◌≢◌, List, length, set}
use Rattle.std.proofs.Common.{sym, ap, ◌∙◌, not-suc-le-zero, eq-or-lt_of_le, length-set, get_or-set_same, get_or-set_other}
use Rattle.std.proofs.Math.Path.{subst}
use Rattle.std.proofs.Math.Logic.{⊎_elim}
use Prim.Native.Nat.{ℕ, zero, suc, ◌+◌, ◌*◌, ◌≤◌, ◌<◌}
use Rattle.std.proofs.Math.Nat.{le_refl}
use native.Mathlib.Omega.{arith}
use Rattle.laws.specs.Cases.{same?}
use Rattle.laws.specs.Cleared.{cleared, cleared_at}
use Rattle.graph.specs.Runs.{Graph}
use Rattle.graph.specs.Lent.{Kept, kept_then, kept_set, kept-further, cleared-kept}
use Rattle.loops.specs.NodeMarks.{mark, stacked, node_pushed, sum_over, is_met, mets}

-- ---- sums over marks
module _ (f : ℕ → ℕ) where
  pub sum_le : (w : List ℕ) → ((x : ℕ) → f x ≤ 1) → (n : ℕ) → sum_over f w n ≤ n
  unfolding sum_over
  sum_le w h zero = le_refl 0
  sum_le w h (suc n) =
      let r = sum_le w h n in
      let s = h (mark w n) in
      omega arith

  module _ (w w' : List ℕ) where
    pub sum-keeps : (n : ℕ) → ((k : ℕ) → k < n → f (mark w k) ≤ f (mark w' k)) → sum_over f w n ≤ sum_over f w' n
    unfolding sum_over
    sum-keeps zero h = le_refl 0
    sum-keeps (suc n) h =
        let r = sum-keeps n (λ k l. h k (omega arith)) in
        let s = h n (omega arith) in
        omega arith

    pub sum-rises : (n q : ℕ) → q < n → f (mark w q) < f (mark w' q) → ((k : ℕ) → k < n → f (mark w k) ≤ f (mark w' k)) → sum_over f w n < sum_over f w' n
    unfolding sum_over
    sum-rises zero q l m h = absurd (not-suc-le-zero l)
    sum-rises (suc n) q l m h =
        let s = h n (omega arith) in
        ⊎_elim
        (λ e. let r = sum-keeps n (λ k b. h k (omega arith)) in let t = subst (λ k. f (mark w k) < f (mark w' k)) e m in omega arith)
        (λ b. let r = sum-rises n q b m (λ k c. h k (omega arith)) in omega arith)
        (eq-or-lt_of_le (omega arith))

    -- where one mark alone changes
    module _ (n x : ℕ) (others : (k : ℕ) → k < n → k ≢ x → mark w' k ≡ mark w k) (x< : x < n) where
      each : f (mark w x) ≤ f (mark w' x) → (k : ℕ) → k < n → f (mark w k) ≤ f (mark w' k)
      each h k l = ⊎_elim (λ e. subst (λ j. f (mark w j) ≤ f (mark w' j)) (sym e) h) (λ d. let e = ap f (others k l d) in omega arith) (same? k x)

      pub sum-keeps-at : f (mark w x) ≤ f (mark w' x) → sum_over f w n ≤ sum_over f w' n
      sum-keeps-at h = sum-keeps n (each h)

      pub sum-rises-at : f (mark w x) < f (mark w' x) → sum_over f w n < sum_over f w' n
      sum-rises-at h = sum-rises n x x< h (each (omega arith))

pub mets_le : (g : Graph) (w : List ℕ) → mets g w ≤ length g
mets_le g w = sum_le is_met w (λ x. omega arith) (length g)

-- a node that is not met leaves room on a stack of nodes that are
pub one-not-met : (g : Graph) (w : List ℕ) (q : ℕ) → length g ≤ length w → q < length g → mark w q ≡ 0 → mets g w < length g
one-not-met g w q room l z =
    let e = get_or-set_same w q 1 0 (omega arith) in
    let r = sum-rises-at is_met w (set w q 1) (length g) q (λ k h d. get_or-set_other w q k 1 0 d) l (omega arith) in
    let m = mets_le g (set w q 1) in
    omega arith

-- ---- the marks are set to 0
module _ (n : ℕ) (w w' : List ℕ) (room : 2 * n ≤ length w) (e : w' ≡ cleared n w) where
  pub cleared-work : Kept (2 * n) w w'
  cleared-work = rw e (kept-further (2 * n) n w (cleared n w) (omega arith) (cleared-kept n w (omega arith)))

  pub marks-zero : (k : ℕ) → k < n → mark w' k ≡ 0
  marks-zero k h = ap (λ v. mark v k) e ∙ cleared_at n w k h

-- ---- a node is put on the stack
module _ (n : ℕ) (w : List ℕ) (size q : ℕ) (room : 2 * n ≤ length w) (q< : q < n) (size< : size < n) where
  pub pushed-other : (k : ℕ) → k ≢ q → k ≢ n + size → mark (node_pushed w n size q) k ≡ mark w k
  pushed-other k d e = get_or-set_other (set w q (size + 1)) (n + size) k q 0 e ∙ get_or-set_other w q k (size + 1) 0 d

  pub pushed-others : (k : ℕ) → k < n → k ≢ q → mark (node_pushed w n size q) k ≡ mark w k
  pushed-others k h d = pushed-other k d (λ z. omega arith)

  pub pushed-mark : mark (node_pushed w n size q) q ≡ suc size
  pushed-mark =
      get_or-set_other (set w q (size + 1)) (n + size) q q 0 (λ z. omega arith) ∙ get_or-set_same w q (size + 1) 0 (omega arith) ∙ omega arith

  pub pushed-top : stacked n (node_pushed w n size q) size ≡ q
  pushed-top =
      let e = length-set w q (size + 1) in
      get_or-set_same (set w q (size + 1)) (n + size) q 0 (omega arith)

  pub pushed-below : (i : ℕ) → i < size → stacked n (node_pushed w n size q) i ≡ stacked n w i
  pushed-below i h = pushed-other (n + i) (λ z. omega arith) (λ z. omega arith)

  pub pushed-kept : Kept (2 * n) w (node_pushed w n size q)
  pushed-kept =
      kept_then (kept_set (2 * n) w q (size + 1) (omega arith)) (kept_set (2 * n) (set w q (size + 1)) (n + size) q (omega arith))
