-- Counting leaves no choice: two answers to the same graph and lists are the same, with the same counts.
use Rattle.std.specs.Prelude.{◌≡◌, refl, List, [], ◌∷◌, ℕ}
use Rattle.std.proofs.Common.{sym, ap, ◌∙◌, arith}
use Rattle.std.proofs.Math.Option.{some}
use Rattle.laws.specs.Cases.{some≢none}
use Rattle.answers.specs.Answers.{Answer, refused}
use Rattle.node.specs.Nodes.{BitLayout, kbwg}
use Rattle.graph.specs.Runs.{Graph}
use Rattle.graph.specs.Loops.{LowestLoop}
use Rattle.graph.specs.Counting.{IsCounted, unfit, loop, many, all}

pub lowest-once : (y : BitLayout) (g : Graph) (p q : ℕ) → LowestLoop y g p → LowestLoop y g q → p ≡ q
lowest-once y g p q l k = let a = l.least q k.loops in let b = k.least p l.loops in omega arith

module _ {limit lent_work : ℕ} {g : Graph} {lent : List ℕ} where
  pub counted-once : {a b : Answer} {c d : List ℕ} → IsCounted limit g lent lent_work a c → IsCounted limit g lent lent_work b d → (a ≡ b) × (c ≡ d)
  counted-once {a} {b} (unfit e) (unfit f) = let i : some a ≡ some b = sym e ∙ f in (cc, refl)
  counted-once (unfit e) (loop f l) = some≢none (sym e ∙ f)
  counted-once (unfit e) (many f l h m) = some≢none (sym e ∙ f)
  counted-once (unfit e) (all f l m) = some≢none (sym e ∙ f)
  counted-once (loop e l) (unfit f) = some≢none (sym f ∙ e)
  counted-once (loop {q = p} e l) (loop {q} f k) = (ap (λ r. refused 12 (r ∷ [])) (lowest-once kbwg g p q l k), refl)
  counted-once (loop {q} e l) (many f k h m) = absurd (k q l.loops)
  counted-once (loop {q} e l) (all f k m) = absurd (k q l.loops)
  counted-once (many e l h m) (unfit f) = some≢none (sym f ∙ e)
  counted-once (many e l h m) (loop {q} f k) = absurd (l q k.loops)
  counted-once (many e l h m) (many f k i n) = (refl, refl)
  counted-once (many {p} e l h m) (all f k n) = absurd (omega (arith, n p h))
  counted-once (all e l m) (unfit f) = some≢none (sym f ∙ e)
  counted-once (all e l m) (loop {q} f k) = absurd (l q k.loops)
  counted-once (all e l m) (many {p} f k h n) = absurd (omega (arith, m p h))
  counted-once (all e l m) (all f k n) = (refl, refl)
