-- Demand 3 holds. The idea: each sentence is a law of the crate that owns its subject; here is what joins them, that a call's answer with
-- a number in it came past every check of its row.
use mathlib.Core.Path.{◌≡◌, refl, ap, ◌∙◌}
use mathlib.Core.List.{List}
use mathlib.Core.Option.{Option, none, some}
use Prim.Native.Nat.{ℕ, ◌≤◌, ◌<◌}
use native.Mathlib.Omega.{arith}
use lib.ListN.{length, drop}
use lib.Seq.{length-take-le, take_at}
use Rattle.answers.specs.Answers.{Answer, Row, first_of}
use Rattle.answers.specs.RowLaws.{row-never_gives}
use Rattle.node.specs.declared.Layout.{Layout}
use Rattle.graph.specs.Runs.{Graph, start_node}
use Rattle.graph.specs.Counting.{Counts}
use Rattle.load.proofs.FinishLaws.{finished-within}
use Rattle.pieces.specs.Pieces.{load_pieces, fed_pieces}
use Rattle.pieces.proofs.PiecesLaws.{loads_as_whole, loads_however_cut}
use Rattle.lookup.specs.GraphLent.{GraphLent}
use Rattle.numbers.specs.WordNumbers.{WordNumbers}
use Rattle.numbers.proofs.WordNumbersLaws.{numbered, counted-lent, lent-left}
use Rattle.export.specs.ChainLaws.{shallow-equation}
use Rattle.export.specs.Written.{written}
use Rattle.macondo_file.specs.File.{Format, dawg, gaddag, marks, macondo_file}
use Rattle.macondo_file.specs.Row.{macondo_row, to_macondo}
use Rattle.macondo_file.specs.RowLaws.{accepted-checks, accepted-walk}
use Rattle.macondo_file.proofs.SpellingLaws.{macondo-spells}
use Rattle.lxd_file.specs.File.{lxd_file}
use Rattle.lxd_file.specs.Row.{lxd_row, to_lxd}
use Rattle.lxd_file.proofs.RowLaws.{accepted}
use Rattle.lxd_file.proofs.SpellingLaws.{lxd-spells}
use Rattle.guarantees.specs.Demand3.{Demand3, CountedLoad, Wrote, WordsAt, loaded_nodes, loaded_graph}

module _ (announced : ℕ) (layout : Layout) (lent : Graph) (pieces : List (List ℕ)) (limit n : ℕ) (counted : List ℕ)
    (r : CountedLoad announced layout lent pieces limit n counted) where
  abbrev nodes : Graph
  nodes = loaded_nodes announced layout lent pieces

  abbrev graph : Graph
  graph = loaded_graph announced layout lent pieces n

  within : n ≤ length nodes
  unfolding load_pieces
  within = let fed = fed_pieces announced layout lent pieces in finished-within fed.state fed.nodes r.loads

  -- the lists as the calls left them
  lists-left : GraphLent graph nodes counted
  lists-left = lent-left limit n nodes _ _ _ within r.counts

  pub loaded-counts : Counts limit graph
  loaded-counts = (counted-lent limit _ _ _ _ r.counts).0

  pub loaded-inside : (p : ℕ) → p < n → p < length graph
  loaded-inside p h = rw (length-take-le n nodes within) h

  numbers : (lent_nodes counts : List ℕ) → GraphLent graph lent_nodes counts → (p : ℕ) → 0 < p → p < n → WordNumbers limit graph lent_nodes counts p
  numbers lent_nodes counts is p z h = numbered limit graph loaded-counts r.ascending lent_nodes counts is p z (loaded-inside p h)

-- ---- where a writer answers a length, no check refused, and the bytes are the file's
wrote-passed : (row : Row) (file lent : List ℕ) {bytes : List ℕ} (o : Option Answer) → first_of row ≡ o
    → Wrote (written o file lent) bytes → (o ≡ none) × (bytes ≡ file)
wrote-passed row file lent (some r) e w = row-never_gives row (e ∙ ap some w.answered)
wrote-passed row file lent none e w =
    let i = w.answered in
    let k : length file ≡ w.size = cc in
    (refl, w.bytes ∙ take_at file (drop (length file) lent) w.size k)

wrote : (row : Row) (file lent : List ℕ) {bytes : List ℕ}
    → Wrote (written (first_of row) file lent) bytes → (first_of row ≡ none) × (bytes ≡ file)
wrote row file lent w = wrote-passed row file lent (first_of row) refl w

module _ (g : Graph) (labels name : List ℕ) (f : Format) (lent_work : ℕ) (lent file : List ℕ)
    (w : Wrote (to_macondo g labels name f lent_work lent) file) where
  macondo-wrote : (first_of (macondo_row g labels name f lent_work (length lent)) ≡ none) × (file ≡ macondo_file g labels f name)
  unfolding to_macondo
  macondo-wrote = wrote (macondo_row g labels name f lent_work (length lent)) (macondo_file g labels f name) lent w

  macondo-equation : WordsAt g (start_node g (marks f).root)
  macondo-equation =
      let row = macondo-wrote.0 in
      let fits = (accepted-checks g labels name f lent_work (length lent) row).ready.fit in
      shallow-equation g fits.steps 64 (start_node g (marks f).root) (fits.steps.arcs (marks f).root (root-inside f fits.two))
      (accepted-walk g labels name f lent_work (length lent) row).shallow
    where
      root-inside : (f : Format) → 2 ≤ length g → (marks f).root < length g
      root-inside dawg h = omega arith
      root-inside gaddag h = omega arith

module _ (g : Graph) (labels title date : List ℕ) (lent_work : ℕ) (lent file : List ℕ)
    (w : Wrote (to_lxd g labels title date lent_work lent) file) where
  lxd-wrote : (first_of (lxd_row g labels title date lent_work (length lent)) ≡ none) × (file ≡ lxd_file g labels title date)
  unfolding to_lxd
  lxd-wrote = wrote (lxd_row g labels title date lent_work (length lent)) (lxd_file g labels title date) lent w

  lxd-equation : WordsAt g (start_node g 0)
  lxd-equation =
      let ok = accepted g labels title date lent_work (length lent) lxd-wrote.0 in
      shallow-equation g ok.sound.steps 64 (start_node g 0) (ok.sound.steps.arcs 0 (let h = ok.sound.two in omega arith)) ok.ended

-- Demand 3, for counts of any width.
pub demand_3 : (limit : ℕ) → Demand3 limit
demand_3 limit =
    record {
      loading = loads_as_whole;
      cutting = λ layout lent pieces. loads_however_cut layout lent pieces;
      numbering = λ announced layout lent pieces n counted r p z h.
          numbers announced layout lent pieces limit n counted r (loaded_nodes announced layout lent pieces) counted
          (lists-left announced layout lent pieces limit n counted r) p z h;
      lending = λ announced layout lent pieces n counted r. numbers announced layout lent pieces limit n counted r;
      macondo = λ g labels name f lent_work lent file w.
          let done = macondo-wrote g labels name f lent_work lent file w in (
            macondo-equation g labels name f lent_work lent file w,
            rw done.1 (macondo-spells g labels name f lent_work (length lent) done.0),
          );
      lxd = λ g labels title date lent_work lent file w.
          let done = lxd-wrote g labels title date lent_work lent file w in (
            lxd-equation g labels title date lent_work lent file w,
            rw done.1 (lxd-spells g labels title date lent_work (length lent) done.0),
          );
    }
