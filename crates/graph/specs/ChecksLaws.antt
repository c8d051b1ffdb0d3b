-- The last node of a graph, and what holds of a graph that passes the rows of checks.
use Rattle.std.specs.Prelude.{◌≡◌, true, false, not, ℕ, zero, suc, ◌-◌, ◌≤◌, ◌<◌, length, leb, ltb}
use Rattle.std.proofs.Math.Path.{refl}
use Rattle.std.proofs.Common.{sym, ap, ◌∙◌, true≢false, arith, le_trans, leb-false, ltb-false, ltb-true}
use mathlib.Core.List.{[], ◌∷◌}
use Rattle.std.proofs.Math.Option.{none}
use Rattle.std.proofs.Math.Nat.{le-max_left, le-max_right}
use Rattle.std.proofs.lemmas.Bool.{not-false, or_from, not_from_true, false_from_ne_true, leb-true}
use Rattle.laws.specs.Cases.{split, is_some, is_none, or_false-left, or_false-right}
use Rattle.answers.specs.Answers.{first_of}
use Rattle.answers.specs.RowLaws.{row-passed, all_pass}
use Rattle.node.specs.Nodes.{BitLayout, kbwg, arc, is_end}
use Rattle.graph.specs.Runs.{Graph, node, largest_arc, last_ends, start_node}
use Rattle.graph.specs.Checks.{nodes_row, graph_row, IsFit}

module _ (y : BitLayout) where
  last-is : (v : ℕ) (g : Graph) → last_ends y (v ∷ g) ≡ is_end y (node (v ∷ g) (length g))
  unfolding last_ends
  last-is v [] = refl
  last-is v (w ∷ g) = last-is w g

  pub last_of : (g : Graph) → 0 < length g → is_end y (node g (length g - 1)) ≡ last_ends y g
  last_of [] h = absurd (omega arith)
  last_of (v ∷ g) h =
      let e : suc (length g) - 1 ≡ length g = omega arith in
      ap (λ n. is_end y (node (v ∷ g) n)) e ∙ sym (last-is v g)

-- ---- of a graph that passes
arc-within : (y : BitLayout) (g : Graph) (p : ℕ) → p < length g → arc y (node g p) ≤ largest_arc y g
unfolding largest_arc
arc-within y [] p h = absurd (omega arith)
arc-within y (v ∷ g) zero h = le-max_left (arc y v) (largest_arc y g)
arc-within y (v ∷ g) (suc p) h = le_trans (arc-within y g p (omega arith)) (le-max_right (arc y v) (largest_arc y g))

run-within : (y : BitLayout) (g : Graph) → last_ends y g ≡ true → (p : ℕ) → p < length g → is_end y (node g p) ≡ false → suc p < length g
unfolding last_ends
run-within y [] e p h x = absurd (omega arith)
run-within y (v ∷ []) e zero h x = absurd (true≢false (sym e ∙ x))
run-within y (v ∷ []) e (suc p) h x = absurd (omega arith)
run-within y (v ∷ w ∷ g) e zero h x = omega arith
run-within y (v ∷ w ∷ g) e (suc p) h x = let r = run-within y (w ∷ g) e p (omega arith) x in omega arith

-- every step leads to a node
pub record Closed (g : Graph) : Type 0 where
  pub arcs : (p : ℕ) → p < length g → arc kbwg (node g p) < length g
  pub runs : (p : ℕ) → p < length g → is_end kbwg (node g p) ≡ false → suc p < length g

pub closed : (g : Graph) → first_of (nodes_row g) ≡ none → Closed g
closed g e =
    let a = row-passed _ _ _ e in
    let b = row-passed _ _ _ a.1 in
    let inside = leb-false (length g) (largest_arc kbwg g) a.0 in
    record {
      arcs = λ p h. let w = arc-within kbwg g p h in omega arith;
      runs = run-within kbwg g (not-false (last_ends kbwg g) b.0);
    }

pub record Fit (g : Graph) : Type 0 where
  pub two : 2 ≤ length g
  pub most : length g ≤ 16_777_216
  pub steps : Closed g

pub fit : (g : Graph) → first_of (graph_row g) ≡ none → Fit g
fit g e =
    let a = row-passed _ _ _ e in
    let small = ltb (length g) 2 in
    let large = ltb 16_777_216 (length g) in
    record {
      two = ltb-false (length g) 2 (or_false-left small large a.0);
      most = ltb-false 16_777_216 (length g) (or_false-right small large a.0);
      steps = closed g a.1;
    }

pub fit-holds : (g : Graph) → IsFit g → Fit g
fit-holds g e = fit g (is_none (first_of (graph_row g)) e)

-- ---- and the other way round: a graph with these facts passes
largest-below : (y : BitLayout) (g : Graph) (m : ℕ) → 0 < m → ((p : ℕ) → p < length g → arc y (node g p) < m) → largest_arc y g < m
unfolding largest_arc
largest-below y [] m h f = h
largest-below y (v ∷ g) m h f =
    let a : arc y v < m = f zero (omega arith) in
    let b = largest-below y g m h (λ p k. f (suc p) (omega arith)) in
    omega arith

last-closed : (g : Graph) → 0 < length g → Closed g → last_ends kbwg g ≡ true
last-closed g h c =
    split (last_ends kbwg g)
    (λ t. t)
    (λ e. let r = c.runs (length g - 1) (omega arith) (last_of kbwg g h ∙ e) in absurd (omega arith))

pub fit-passes : (g : Graph) → Fit g → IsFit g
fit-passes g f =
    let two = f.two in
    let most = f.most in
    let below = largest-below kbwg g (length g) (omega arith) f.steps.arcs in
    let small : ltb (length g) 2 ≡ false = false_from_ne_true _ (λ t. let k = ltb-true (length g) 2 t in omega arith) in
    let large : ltb 16_777_216 (length g) ≡ false = false_from_ne_true _ (λ t. let k = ltb-true 16_777_216 (length g) t in omega arith) in
    let within : leb (length g) (largest_arc kbwg g) ≡ false = false_from_ne_true _ (λ t. let k = leb-true (length g) (largest_arc kbwg g) t in omega arith) in
    let ends = not_from_true _ (last-closed g (omega arith) f.steps) in
    ap is_some (all_pass (graph_row g) (or_from _ _ small large, (within, (ends, tt))))

-- node 0 or 1 leads to the start
pub start-inside : {g : Graph} → Fit g → (root : ℕ) → root < 2 → start_node g root < length g
start-inside f root h = let two = f.two in f.steps.arcs root (omega arith)
