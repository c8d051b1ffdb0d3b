-- A graph whose arcs all lead to later nodes has no loop: a test that computes, for graphs at hand.
use Rattle.std.specs.Prelude.{◌≡◌, Bool, true, ◌&&◌, ◌||◌, [], ◌∷◌, ◌≢◌, ℕ, zero, suc, ◌+◌, ◌<◌, eqb, ltb, length}
use Rattle.std.proofs.Common.{arith, eqb-true, ltb-true}
use Rattle.laws.specs.Cases.{split, and_left, and_right}
use Rattle.node.specs.Nodes.{kbwg, arc}
use Rattle.graph.specs.Runs.{Graph, node}
use Rattle.graph.specs.Loops.{Step, by-arc, by-run, Reach, once, then}
use Rattle.graph.specs.Counting.{Loopless}

-- the nodes begin at place p
unfoldable pub leads_up : ℕ → Graph → Bool
leads_up p [] = true
leads_up p (v ∷ vs) = (eqb (arc kbwg v) 0 || ltb p (arc kbwg v)) && leads_up (suc p) vs

arc-up : (p : ℕ) (g : Graph) → leads_up p g ≡ true → (i : ℕ) → i < length g → arc kbwg (node g i) ≢ 0 → p + i < arc kbwg (node g i)
unfolding leads_up
arc-up p [] e i h n = absurd (omega arith)
arc-up p (v ∷ g) e zero h n =
    let t = and_left (eqb (arc kbwg v) 0 || ltb p (arc kbwg v)) (leads_up (suc p) g) e in
    split (eqb (arc kbwg v) 0)
    (λ z. absurd (n (eqb-true (arc kbwg v) 0 z)))
    (λ z. let l = ltb-true p (arc kbwg v) (rw z at t) in omega arith)
arc-up p (v ∷ g) e (suc i) h n =
    let l = arc-up (suc p) g (and_right (eqb (arc kbwg v) 0 || ltb p (arc kbwg v)) (leads_up (suc p) g) e) i (omega arith) n in omega arith

module _ (g : Graph) (e : leads_up 0 g ≡ true) where
  step-up : {p q : ℕ} → Step kbwg g p q → p < q
  step-up {p} (by-arc h n) = let l = arc-up 0 g e p h n in omega arith
  step-up (by-run h n) = omega arith

  Reach-up : {p q : ℕ} → Reach kbwg g p q → p < q
  Reach-up (once s) = step-up s
  Reach-up (then s r) = let a = step-up s in let b = Reach-up r in omega arith

  pub upward-loopless : Loopless g
  upward-loopless q r = let l = Reach-up r in omega arith
