-- A graph with its own counts among what is lent, and what a walk can reach of it there.
use Rattle.std.specs.Prelude.{◌≡◌, List, ℕ, ◌<◌, length, get_or, take}
use Rattle.std.proofs.Common.{sym, ap, ◌∙◌, arith, length-take, get_or-take, take-take}
use Rattle.node.specs.Nodes.{kbwg}
use Rattle.graph.specs.Runs.{Graph}
use Rattle.graph.specs.Words.{count}
use Rattle.graph.specs.ChecksLaws.{Fit}
use Rattle.graph.specs.Counting.{counts}
use Rattle.laws.specs.Tables.{table-length, table_at}
use Rattle.lookup.specs.Steps.{lent_part, lent, on}
use Rattle.lookup.specs.StepsLaws.{lent-on}

-- "both conversions are lent these nodes and counts": the graph stands at the head of the lent nodes, and its counts at the head of the
-- lent counts; either list may be longer. What run lookup names is said of such lists too (02, C-16)
pub record GraphLent (g : Graph) (nodes counted : List ℕ) : Type 0 where
  pub nodes-are : take (length g) nodes ≡ g
  pub counts-are : take (length g) counted ≡ counts g

pub at_head : (l whole : List ℕ) → take (length l) whole ≡ l → (p : ℕ) → p < length l → (p < length whole) × (get_or whole p 0 ≡ get_or l p 0)
at_head l whole e p h =
    let k = ap length (sym e) ∙ length-take (length l) whole in
    (omega arith, sym (get_or-take (length l) whole p 0 h) ∙ ap (λ x. get_or x p 0) e)

module _ (g : Graph) (nodes counted : List ℕ) (is : GraphLent g nodes counted) where
  pub count_at : (p : ℕ) → p < length g → (p < length counted) × (get_or counted p 0 ≡ count kbwg g p)
  count_at p h =
      let n = table-length (length g) (count kbwg g) in
      let r = at_head (counts g) counted (rw n is.counts-are) p (omega arith) in
      (r.0, r.1 ∙ table_at (length g) (count kbwg g) p h)

  pub count-lent-at : (p : ℕ) → p < length g → lent counted p ≡ on (count kbwg g p)
  count-lent-at p h = let r = count_at p h in lent-on counted p r.0 ∙ ap on r.1

  pub lent-parts : Fit g → GraphLent g (lent_part nodes) (lent_part counted)
  lent-parts fits =
      let most = fits.most in
      record {
        nodes-are = take-take (length g) 4_294_967_296 nodes (omega arith) ∙ is.nodes-are;
        counts-are = take-take (length g) 4_294_967_296 counted (omega arith) ∙ is.counts-are;
      }
