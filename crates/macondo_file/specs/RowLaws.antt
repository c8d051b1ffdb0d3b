-- What follows for graph, labels and name where a file is not refused.
use Rattle.std.specs.Prelude.{◌≡◌, true, false, List, ℕ, ◌*◌, ◌^◌, ◌≤◌, ◌<◌, eqb, ltb, length, drop}
use Rattle.std.proofs.Common.{sym, ◌∙◌, arith, ltb-false}
use Rattle.std.proofs.Math.Option.{none}
use Rattle.std.proofs.lemmas.Bool.{eqb-false, not-false}
use Rattle.laws.specs.Cases.{or_false-left, or_false-right}
use Rattle.laws.specs.Lists.{some_of}
use Rattle.answers.specs.Answers.{first_of}
use Rattle.answers.specs.RowLaws.{rows_pass, rows-passed, passed-all}
use Rattle.node.specs.Nodes.{kbwg}
use Rattle.graph.specs.Runs.{Graph, ascends, start_node}
use Rattle.graph.specs.Checks.{graph_row}
use Rattle.graph.specs.ChecksLaws.{Fit, fit}
use Rattle.export.specs.Starts.{unlabelled, deeper}
use Rattle.macondo_file.specs.File.{Format, marks, macondo_nodes}
use Rattle.macondo_file.specs.Row.{no_code_point, macondo_checks, macondo_walk_row, macondo_row}

-- what the checks before the walk say of graph and labels
pub record MacondoReady (g : Graph) (labels : List ℕ) : Type 0 where
  pub fit : Fit g
  pub fifty : length labels ≤ 50
  pub labelled : unlabelled g labels ≡ false
  pub ascending : ascends kbwg g ≡ true

-- and of all that is lent
pub record MacondoChecked (g : Graph) (labels name : List ℕ) (lent_work : ℕ) : Type 0 where
  pub ready : MacondoReady g labels
  pub some-label : 0 < length labels
  pub short-name : length name ≤ 255
  pub work : 8 * length g ≤ lent_work

pub checked : (g : Graph) (labels name : List ℕ) (lent_work : ℕ)
    → first_of (macondo_checks g labels name lent_work) ≡ none → MacondoChecked g labels name lent_work
checked g labels name lent_work e =
    let p = (passed-all (macondo_checks g labels name lent_work) e).1.1.1 in
    let no_label = eqb (length labels) 0 in
    let many = ltb 50 (length labels) in
    let z : length labels ≡ 0 → ⊥ = eqb-false (length labels) 0 (or_false-left no_label many p.0) in
    record {
      ready = record {
        fit = fit g (rows-passed (graph_row g) (drop 3 (macondo_checks g labels name lent_work)) e);
        fifty = ltb-false 50 (length labels) (or_false-right no_label many p.0);
        labelled = p.1.1.0;
        ascending = not-false (ascends kbwg g) p.1.1.1.0;
      };
      some-label = omega arith;
      short-name = ltb-false 255 (length name) p.1.0;
      work = ltb-false lent_work (8 * length g) p.1.1.1.1.0;
    }

-- those of the walk, the letters and the sizes
pub record MacondoWalked (g : Graph) (labels : List ℕ) (f : Format) : Type 0 where
  pub shallow : deeper g 64 (start_node g (marks f).root) ≡ false
  pub code_points : some_of no_code_point (drop 1 labels) ≡ false
  pub few : length (macondo_nodes g labels f) ≤ 2 ^ 24

walk-passed : (g : Graph) (labels name : List ℕ) (f : Format) (lent_file : ℕ)
    → first_of (macondo_walk_row g labels name f lent_file) ≡ none → MacondoWalked g labels f
walk-passed g labels name f lent_file e =
    let p = passed-all (macondo_walk_row g labels name f lent_file) e in
    record { shallow = p.0; code_points = p.1.0; few = ltb-false (2 ^ 24) (length (macondo_nodes g labels f)) p.1.1.0 }

module _ (g : Graph) (labels name : List ℕ) (f : Format) (lent_work lent_file : ℕ)
    (e : first_of (macondo_row g labels name f lent_work lent_file) ≡ none) where
  passed-checks : first_of (macondo_checks g labels name lent_work) ≡ none
  unfolding macondo_row
  passed-checks = rows-passed (macondo_checks g labels name lent_work) (macondo_walk_row g labels name f lent_file) e

  pub accepted-checks : MacondoChecked g labels name lent_work
  accepted-checks = checked g labels name lent_work passed-checks

  pub accepted-walk : MacondoWalked g labels f
  unfolding macondo_row
  accepted-walk =
      walk-passed g labels name f lent_file
      (sym (rows_pass (macondo_checks g labels name lent_work) (macondo_walk_row g labels name f lent_file) passed-checks) ∙ e)
