-- What is counted through a node's arc: nothing where there is no arc.
use Rattle.std.specs.Prelude.{◌≡◌, Bool, true, false, not, ℕ, eqb}
use Rattle.std.proofs.Common.{sym, ap, ◌∙◌, eqb-true}
use Rattle.std.proofs.lemmas.Bool.{eqb-false}
use Rattle.laws.specs.Cases.{split}
use Rattle.node.specs.Nodes.{kbwg, arc}
use Rattle.graph.specs.CountLaws.{by_arc, arc-words-none, arc-words}
use Rattle.export.specs.Starts.{has_arc}

-- n where there is a run, else 0
abbrev pub where_there : Bool → ℕ → ℕ
where_there true n = n
where_there false n = 0

pub counted-by-arc : (f : ℕ → ℕ) (v : ℕ) → by_arc kbwg f v ≡ where_there (has_arc v) (f (arc kbwg v))
counted-by-arc f v =
    split (eqb (arc kbwg v) 0)
    (λ z. arc-words-none kbwg f v (eqb-true (arc kbwg v) 0 z) ∙ ap (λ b. where_there (not b) (f (arc kbwg v))) (sym z))
    (λ z. arc-words kbwg f v (eqb-false (arc kbwg v) 0 z) ∙ ap (λ b. where_there (not b) (f (arc kbwg v))) (sym z))
