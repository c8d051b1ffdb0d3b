-- What follows from passing the row of checks: a sound graph whose chains end, labels that have bytes, and numbers that fit into the file.
use Rattle.std.specs.Prelude.{◌≡◌, false, ℕ, ◌+◌, ◌^◌, ◌≤◌, ◌<◌, length, get_or}
use Rattle.std.proofs.Common.{sym, ◌∙◌, ltb-false, leb-false}
use mathlib.Core.List.{List, Memᴰ}
use Rattle.std.proofs.Math.Option.{none, some}
use Rattle.laws.specs.Lists.{some_of}
use Rattle.laws.specs.Members.{none_of}
use Rattle.answers.specs.Answers.{first_of}
use Rattle.answers.specs.RowLaws.{rows_pass, rows-passed, passed-all}
use Rattle.node.specs.Nodes.{kbwg, tile}
use Rattle.graph.specs.Runs.{Graph, start_node}
use Rattle.graph.specs.Words.{count}
use Rattle.graph.specs.Checks.{graph_row}
use Rattle.graph.specs.ChecksLaws.{Fit, fit}
use Rattle.base.specs.Numbers.{most}
use Rattle.export.specs.Starts.{deeper}
use Rattle.windows1252.specs.Windows1252.{code_point_of, no_byte}
use Rattle.windows1252.proofs.Windows1252Laws.{reads-back}
use Rattle.lxd_file.specs.File.{letter, reached}
use Rattle.lxd_file.specs.Row.{lxd_checks, lxd_walk_row, lxd_row}

-- what no check refuses
pub record LxdAccepted (g : Graph) (labels : List ℕ) : Type 0 where
  pub sound : Fit g
  pub ended : deeper g 64 (start_node g 0) ≡ false
  pub bytes : (v : ℕ) → Memᴰ v (reached g) → code_point_of (letter labels (tile kbwg v)) ≡ some (get_or labels (tile kbwg v) 0)
  pub few : count kbwg g (start_node g 0) < most
  pub room : 2 + length (reached g) ≤ 2 ^ 22

pub accepted : (g : Graph) (labels title date : List ℕ) (lent_work lent_file : ℕ)
    → first_of (lxd_row g labels title date lent_work lent_file) ≡ none → LxdAccepted g labels
unfolding lxd_row
accepted g labels title date lent_work lent_file e =
    let checks = lxd_checks g labels title date lent_work in
    let before = rows-passed checks (lxd_walk_row g labels title date lent_file) e in
    let p = passed-all (lxd_walk_row g labels title date lent_file) (sym (rows_pass checks (lxd_walk_row g labels title date lent_file) before) ∙ e) in
    record {
      sound = fit g (rows-passed (graph_row g) _ before);
      ended = p.0;
      bytes = λ v m. reads-back _ (none_of _ (reached g) p.1.0 v m);
      few = leb-false most (count kbwg g (start_node g 0)) p.1.1.0;
      room = ltb-false (2 ^ 22) (2 + length (reached g)) p.1.1.1.0;
    }

-- every code point of an accepted title and date has a byte
pub texts_accepted : (g : Graph) (labels title date : List ℕ) (lent_work lent_file : ℕ)
    → first_of (lxd_row g labels title date lent_work lent_file) ≡ none → (some_of no_byte title ≡ false) × (some_of no_byte date ≡ false)
unfolding lxd_row
texts_accepted g labels title date lent_work lent_file e =
    let before = rows-passed (lxd_checks g labels title date lent_work) (lxd_walk_row g labels title date lent_file) e in
    let p = passed-all _ (sym (rows_pass (graph_row g) _ (rows-passed (graph_row g) _ before)) ∙ before) in
    (p.0, p.1.1.0)
