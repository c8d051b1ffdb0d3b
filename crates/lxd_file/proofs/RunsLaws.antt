-- The runs that are met from the start: each is a run of the graph, each arc of theirs leads to one of them, and each has a place of
-- its own among the file's nodes, the start the first after nodes 0 and 1.
use Rattle.std.specs.Prelude.{◌≡◌, true, false, not, ◌≢◌, ℕ, ◌+◌, ◌-◌, ◌≤◌, ◌<◌, drop}
use Rattle.std.proofs.Math.Path.{refl, ap}
use Rattle.std.proofs.Common.{sym, ◌∙◌, arith, eqb-true, ne_eqb, length-drop, drop-cons, get_or-drop}
use mathlib.Core.List.{Memᴰ}
use Rattle.std.proofs.Math.Dec.{eqb}
use Rattle.std.proofs.lemmas.Bool.{eqb-false}
use Rattle.std.proofs.Math.ListN.{length}
use Rattle.laws.specs.Cases.{split}
use Rattle.laws.specs.Members.{in_join}
use Rattle.laws.proofs.SameLaws.{exact-number}
use Rattle.node.specs.Nodes.{kbwg, arc, is_end}
use Rattle.graph.specs.Runs.{Graph, run, last_ends, start_node}
use Rattle.graph.specs.ChecksLaws.{Closed, Fit, last_of, start-inside}
use Rattle.export.specs.Starts.{run_of, arcs_from, deeper}
use Rattle.export.specs.Blocks.{block_at, total}
use Rattle.export.specs.BlocksLaws.{every-met, first-met, start-met, children_met, blocks-length, block-first, block_within, block-from, blocks-most}
use Rattle.export.specs.ChainLaws.{arc-from, arcs-inside, shallow-low, shallow-closed, shallow-within}
use Rattle.lxd_file.specs.File.{child_by, runs, reached, run_size, run_place, child}

-- the nodes from p on have the graph's last, an end
pub ends-from : (g : Graph) → Closed g → (p : ℕ) → p < length g → last_ends kbwg (drop p g) ≡ true
ends-from g c p h =
    let n = length-drop p g in
    let i = length (drop p g) - 1 in
    let same = ap (is_end kbwg) (sym (get_or-drop p g i 0)) ∙ last_of kbwg (drop p g) (omega arith) in
    split (last_ends kbwg (drop p g)) (λ t. t) (λ t. let k = c.runs (p + i) (omega arith) (same ∙ t) in absurd (omega arith))

module _ (g : Graph) where
  pub no-child : child g 0 ≡ 0
  unfolding child
  no-child = refl

  pub child-place : (p : ℕ) → p ≢ 0 → child g p ≡ run_place g p
  unfolding child
  child-place p n = rw (ne_eqb p 0 n, child_by)

  pub reached-size : length (reached g) ≡ total (run_size g) (runs g)
  reached-size = blocks-length (run_size g) (run_of g) (λ q. refl) (runs g)

  size-some : (p : ℕ) → p < length g → 0 < run_size g p
  unfolding run
  size-some p h = rw (drop-cons g p 0 h) (omega arith)

  pub start-place : run_place g (start_node g 0) ≡ 2
  unfolding runs
  start-place =
      let r = first-met exact-number (arcs_from g) 63 (start_node g 0) in
      ap (λ l. block_at eqb (run_size g) 2 l (start_node g 0)) r.1 ∙ block-first exact-number (run_size g) 2 (start_node g 0) r.0

  module _ (f : Fit g) where
    pub runs-inside : (p : ℕ) → Memᴰ p (runs g) → p < length g
    unfolding runs
    runs-inside = every-met exact-number (arcs_from g) (λ p. p < length g) (λ p q h m. arcs-inside g f.steps p q m) 64 (start_node g 0)
        (start-inside f 0 (omega arith))

    pub runs-within : length (runs g) ≤ length (reached g)
    runs-within =
        let a = blocks-most (run_size g) (runs g) (λ q m. size-some q (runs-inside q m)) in
        let b = reached-size in
        omega arith

    -- the run from p is in place before the nodes end
    pub place-within : (p : ℕ) → Memᴰ p (runs g) → (2 ≤ run_place g p) × (run_place g p < 2 + length (reached g))
    place-within p m =
        let a = block_within exact-number (run_size g) (runs g) 2 p m in
        let b = size-some p (runs-inside p m) in
        let e = reached-size in
        (block-from eqb (run_size g) (runs g) 2 p, omega arith)

    module _ (ended : deeper g 64 (start_node g 0) ≡ false) where
      pub start_in_runs : Memᴰ (start_node g 0) (runs g)
      unfolding runs
      start_in_runs = start-met exact-number (arcs_from g) 64 (start_node g 0) (shallow-low g (arcs_from g) (λ p q m. m) 64 (start_node g 0) ended)

      arcs_in_runs : (p q : ℕ) → Memᴰ p (runs g) → Memᴰ q (arcs_from g p) → Memᴰ q (runs g)
      unfolding runs
      arcs_in_runs p q = children_met exact-number (arcs_from g) 64 (start_node g 0) (shallow-low g (arcs_from g) (λ x y m. m) 64 (start_node g 0) ended) p q

      pub arc_in_runs : (v : ℕ) → Memᴰ v (reached g) → arc kbwg v ≢ 0 → Memᴰ (arc kbwg v) (runs g)
      arc_in_runs v m n =
          let r = in_join (run_of g) (runs g) v m in
          arcs_in_runs r.0 (arc kbwg v) r.1 (arc-from g r.0 v r.2 (ap not (ne_eqb (arc kbwg v) 0 n)))

      -- as many turns as there are runs follow every chain
      pub runs-end : (k : ℕ) → length (runs g) ≤ k → deeper g k (start_node g 0) ≡ false
      runs-end k h = shallow-within g (length (runs g)) k (start_node g 0) h (shallow-closed g (runs g) arcs_in_runs 64 (start_node g 0) start_in_runs ended)

      -- where an arc leads in the file
      pub child-within : (v : ℕ) → Memᴰ v (reached g) → child g (arc kbwg v) < 2 + length (reached g)
      child-within v m =
          split (eqb (arc kbwg v) 0)
          (λ t. let e = ap (child g) (eqb-true (arc kbwg v) 0 t) ∙ no-child in omega arith)
          (λ t.
          let n = eqb-false (arc kbwg v) 0 t in
          let e = child-place (arc kbwg v) n in
          let h = (place-within (arc kbwg v) (arc_in_runs v m n)).1 in
          omega arith)
