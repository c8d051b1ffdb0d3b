-- By number, over what is lent: on a graph that counts, the numbers below a node's count name its words, cut where there is less room, and
-- all others name none; from every node, node 0 too.
use Rattle.std.specs.Prelude.{◌≡◌, List, [], ◌∷◌, ℕ, ◌≤◌, ◌<◌, length, take}
use Rattle.std.proofs.Common.{sym, ap, ◌∙◌, subst, arith}
use Rattle.answers.specs.Answers.{gives, nothing, refused}
use Rattle.node.specs.Nodes.{kbwg}
use Rattle.graph.specs.Runs.{Graph}
use Rattle.graph.specs.Words.{count}
use Rattle.graph.specs.ChecksLaws.{fit}
use Rattle.graph.specs.Counting.{Counts}
use Rattle.lookup.specs.Steps.{lent_part}
use Rattle.lookup.specs.Walks.{word_by_index}
use Rattle.lookup.specs.WalkedLaws.{by-index-cut}
use Rattle.lookup.specs.GraphLent.{GraphLent, lent-parts}
use Rattle.numbers.specs.LentLaws.{walkable}
use Rattle.numbers.proofs.ByNumber.{named, other-numbers}
use Rattle.numbers.specs.Walkable.{Walkable}
use Rattle.numbers.specs.WordNumbers.{word_at}

module _ (limit : ℕ) (g : Graph) (c : Counts limit g) (nodes counted : List ℕ) (is : GraphLent g nodes counted) where
  pub walk-lent : Walkable g (lent_part nodes) (lent_part counted)
  walk-lent =
      let fits = fit g c.fit in
      walkable g fits (lent_part nodes) (lent_part counted) (lent-parts g nodes counted is fits) c.loopless

  module _ (p i room : ℕ) (h : p < length g) where
    pub named-lent : i < count kbwg g p → length (word_at g p i) ≤ room
        → word_by_index counted nodes room p i ≡ (word_at g p i, gives (length (word_at g p i) ∷ []))
    unfolding word_by_index
    named-lent k s = named g (lent_part nodes) (lent_part counted) walk-lent room p i h k s

    pub none_lent : count kbwg g p ≤ i → word_by_index counted nodes room p i ≡ ([], nothing)
    unfolding word_by_index
    none_lent k = other-numbers g (lent_part nodes) (lent_part counted) walk-lent room p i h k

  pub cut-lent : (p i room : ℕ) → p < length g → i < count kbwg g p → room < length (word_at g p i)
      → word_by_index counted nodes room p i ≡ (take room (word_at g p i), refused 16 [])
  cut-lent p i room h k l =
      let whole = ap (λ x. x.0) (named-lent p i (length (word_at g p i)) h k (omega arith)) in
      by-index-cut counted nodes room p i (length (word_at g p i)) (subst (λ u. room < length u) (sym whole) l)
      ∙ ap (λ u. (take room u, refused 16 [])) whole
