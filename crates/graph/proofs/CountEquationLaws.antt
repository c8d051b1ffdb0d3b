-- The number of words from a node by those from the nodes that it leads to: the equation.
use Rattle.std.specs.Prelude.{◌≡◌, refl, Bool, true, false, List, [], ◌∷◌, ◌++◌, map, eqb, length}
use Rattle.std.proofs.Common.{sym, ap, ap₂, ◌∙◌, arith, length-append}
use Prim.Native.Nat.{ℕ, suc, ◌+◌, ◌<◌}
use Rattle.std.proofs.lemmas.List.{length-map}
use Rattle.laws.specs.Cases.{split}
use Rattle.base.specs.Numbers.{flag}
use Rattle.node.specs.Nodes.{BitLayout, tile, arc, accepts, is_end}
use Rattle.graph.specs.Runs.{Graph, node}
use Rattle.graph.specs.Words.{Word, spelled, words, count}
use Rattle.graph.specs.Loops.{by-run, once, Clear}
use Rattle.graph.specs.RunLaws.{in_order-last, in_order-next}
use Rattle.graph.specs.WordsEquation.{clear-reached}
use Rattle.graph.specs.CountLaws.{by_arc, sum_at, run-words-none, run-words}
use Rattle.graph.proofs.WordsEquationLaws.{words-equation}

own-length : (b : Bool) (w : Word) → length {A = Word} (elim b [ true ↦ w ∷ [] | false ↦ [] ]) ≡ flag b
own-length true w = refl
own-length false w = refl

arc-length : (b : Bool) (ws : List Word) (f : Word → Word)
    → length {A = Word} (elim b [ true ↦ [] | false ↦ map f ws ]) ≡ elim b [ true ↦ 0 | false ↦ length ws ]
arc-length true ws f = refl
arc-length false ws f = length-map ws f

module _ (y : BitLayout) where
  pub length-spelled : (f : ℕ → List Word) (v : ℕ) → length (spelled y f v) ≡ flag (accepts y v) + by_arc y (λ q. length (f q)) v
  unfolding spelled by_arc
  length-spelled f v =
      simp (spelled, length-append)
      (ap₂ ◌+◌ (own-length (accepts y v) (tile y v ∷ [])) (arc-length (eqb (arc y v) 0) (f (arc y v)) (tile y v ∷◌)))

  module _ (g : Graph) (p : ℕ) (h : p < length g) (c : Clear y g p) where
    pub words-end : is_end y (node g p) ≡ true → words y g p ≡ spelled y (words y g) (node g p)
    words-end e = words-equation y g p c ∙ in_order-last y (spelled y (words y g)) g p h e

    pub words-on : is_end y (node g p) ≡ false → words y g p ≡ spelled y (words y g) (node g p) ++ words y g (suc p)
    words-on e =
        let next = words-equation y g (suc p) (clear-reached y g p (suc p) c (once (by-run h e))) in
        words-equation y g p c ∙ in_order-next y (spelled y (words y g)) g p h e ∙ ap (spelled y (words y g) (node g p) ++◌) (sym next)

    -- the count of a node by the counts of the nodes that it leads to
    pub count-equation : count y g p ≡ sum_at y g (count y g) p
    count-equation =
        let l = length-spelled (words y g) (node g p) in
        split (is_end y (node g p))
        (λ e. let r = run-words-none y (count y g) (node g p) e p in ap length (words-end e) ∙ omega arith)
        (λ e. let r = run-words y (count y g) (node g p) e p in
        ap length (words-on e) ∙ length-append (spelled y (words y g) (node g p)) (words y g (suc p)) ∙ omega arith)
