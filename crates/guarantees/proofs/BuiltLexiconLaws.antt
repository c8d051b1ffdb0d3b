-- Demand 3 applies to every lexicon from a word list. The idea: the graph loads as itself and counts, by the laws of the crate that owns it; so
-- it has what demand 3 asks.
use mathlib.Core.Path.{◌≡◌, sym, ap, ◌∙◌, subst}
use mathlib.Core.Bool.{true}
use mathlib.Core.List.{List, [], ◌∷◌, ◌++◌}
use mathlib.Core.Option.{none}
use Prim.Native.Nat.{ℕ, ◌*◌, ◌≤◌, ◌<◌}
use native.Mathlib.Omega.{arith}
use borrow.Author.Tests.{le-ltb}
use lib.ListN.{length, take, drop}
use lib.Seq.{take_at}
use Rattle.laws.specs.Lists.{has_entries, join_all}
use Rattle.answers.specs.Answers.{gives, first_of}
use Rattle.answers.specs.RowLaws.{row-passes, row_ends, rows_pass}
use Rattle.endian.specs.Bytes.{node_bytes}
use Rattle.node.specs.Nodes.{kbwg, arc}
use Rattle.node.specs.declared.Layout.TheVariants.{Kbwg}
use Rattle.graph.specs.Runs.{Graph, ascends, start_node}
use Rattle.graph.specs.Words.{Word, words}
use Rattle.graph.specs.Checks.{graph_row}
use Rattle.graph.specs.ChecksLaws.{fit}
use Rattle.graph.specs.Counting.{counts, count_row, IsCounted, all, Counts}
use Rattle.built.specs.Listed.{words_listed}
use Rattle.built.specs.Build.{build_as}
use Rattle.built.specs.Claim.{FromList}
use Rattle.built.proofs.ClaimLaws.{was_built, built_claim}
use Rattle.guarantees.specs.Demand3.{CountedLoad, loaded_graph}
use Rattle.guarantees.specs.BuiltLexicon.{LexiconInUse, BuiltLexicons}
use Rattle.guarantees.proofs.Demand3Laws.{demand_3}

module _ (limit : ℕ) (ws : List Word) (g : Graph) (claim : FromList ws g) (few : length ws < limit) (n : ℕ) (size : length g ≡ n)
    (lent : Graph) (room : n ≤ length lent) (pieces : List (List ℕ)) (cut : join_all pieces ≡ node_bytes g)
    (lent_counts : List ℕ) (count_work : ℕ) (enough : n ≤ length lent_counts) (work : 2 * n ≤ count_work) where
  abbrev announced : ℕ
  announced = length (node_bytes g)

  abbrev graph : Graph
  graph = loaded_graph announced Kbwg lent pieces n

  abbrev counted : List ℕ
  counted = counts graph ++ drop n lent_counts

  graph_is : graph ≡ g
  graph_is = ap (take n) (claim.loads lent (omega arith) pieces cut).1 ∙ take_at g (drop (length g) lent) n size

  counting : Counts limit g
  counting = claim.counts limit few

  passes : first_of (count_row g (length lent_counts) count_work) ≡ none
  passes =
      rows_pass (graph_row g) _ counting.fit
      ∙ row-passes _ _ _ (rw (le-ltb (length lent_counts) (length g) (omega arith), le-ltb count_work (2 * length g) (omega arith)))
      ∙ row_ends

  counts-so : IsCounted limit graph lent_counts count_work (gives []) counted
  counts-so =
      subst (λ (h : Graph). IsCounted limit h lent_counts count_work (gives []) (counts h ++ drop n lent_counts)) (sym graph_is)
      (subst (λ k. IsCounted limit g lent_counts count_work (gives []) (counts g ++ drop k lent_counts)) size
      (all passes counting.loopless counting.few))

  loaded : CountedLoad announced Kbwg lent pieces limit n counted
  loaded =
      record {
        loads = (claim.loads lent (omega arith) pieces cut).0 ∙ ap (λ k. gives (k ∷ [])) size;
        lent_counts = lent_counts;
        lent_work = count_work;
        counts = counts-so;
        ascending = subst (λ (h : Graph). ascends kbwg h ≡ true) (sym graph_is) claim.ascending;
      }

  root : has_entries ws ≡ true → start_node graph 0 ≡ 2
  root e = ap (λ h. start_node h 0) graph_is ∙ ap (arc kbwg) (claim.root e)

  lexicon_in_use : LexiconInUse limit ws announced lent pieces n counted
  lexicon_in_use =
      record {
        loaded = loaded;
        root = root;
        lexicon = ap (λ h. words kbwg h 2) graph_is ∙ claim.spells;
        numbers = λ e.
            let f = fit g counting.fit in
            let two = f.two in
            let inside = f.steps.arcs 0 (omega arith) in
            let start = ap (arc kbwg) (claim.root e) in
            (demand_3 limit).numbering announced Kbwg lent pieces n counted loaded 2 (omega arith) (omega arith);
      }

-- for counts of any width
pub built_lexicons : (limit : ℕ) → BuiltLexicons limit
built_lexicons limit bytes lent_work lent_nodes n built few lent room pieces cut lent_counts count_work enough work =
    let b = was_built bytes lent_work lent_nodes n built in
    lexicon_in_use limit (words_listed bytes) (take n (build_as bytes lent_work lent_nodes).nodes) (built_claim bytes lent_work lent_nodes n built) few n
    (ap length b.nodes-are ∙ b.size) lent room pieces cut lent_counts count_work enough work
