-- The arcs of a block are those of its run, each with a letter of its own, and there are at most as many as labels. The idea: in a run
-- that ascends every node takes a tile of its own below the label count.
use Rattle.std.specs.Prelude.{◌≡◌, refl, true, false, length, drop}
use Rattle.std.proofs.Common.{⊎_elim}
use mathlib.Core.List.Memᴰ
use mathlib.Core.List.{List, [], ◌∷◌, map, Memᴰ}
use Prim.Native.Nat.{ℕ, zero-le, ◌+◌, ◌≤◌, ◌<◌}
use native.Mathlib.Omega.{arith}
use Rattle.laws.specs.Cases.{split}
use Rattle.laws.specs.Lists.{filtered}
use Rattle.laws.specs.Members.{in_map, map_in, in_filtered, filtered_in, filtered-length}
use Rattle.laws.specs.NoRepeats.{NoRepeats, no_repeats_filtered, no_repeats_sorted, map-no_repeats, map-apart}
use Rattle.laws.specs.Sorting.{in_sorted, sorted_in, sorted-length}
use Rattle.node.specs.Nodes.{kbwg, tile, arc, is_end}
use Rattle.graph.specs.Runs.{Graph, run, ascends}
use Rattle.graph.proofs.WordsAscend.{ascends-head, ascends_tail, ascends-drop}
use Rattle.export.specs.Starts.{run_of, has_arc, arcs_from}
use Rattle.graph.specs.RunLaws.{run-last, run-next, in_graph}
use Rattle.export.specs.LabelLaws.{labelled_in}
use Rattle.export.specs.ChainLaws.{arc-from, from-arc}
use Rattle.macondo_file.specs.Alphabet.{by_tile, letter_at}
use Rattle.macondo_file.proofs.AlphabetLaws.{letter-apart}
use Rattle.macondo_file.specs.File.{arcs_of, children_of}
use Rattle.macondo_file.specs.RowLaws.{MacondoReady}

module _ (g : Graph) (labels : List ℕ) where
  pub in_arcs : (p v : ℕ) → Memᴰ v (arcs_of g labels p) → Memᴰ v (run_of g p) × (has_arc v ≡ true)
  unfolding arcs_of
  in_arcs p v m = in_filtered has_arc (run_of g p) v (in_sorted (by_tile labels) (filtered has_arc (run_of g p)) v m)

  pub arcs_in : (p v : ℕ) → Memᴰ v (run_of g p) → has_arc v ≡ true → Memᴰ v (arcs_of g labels p)
  unfolding arcs_of
  arcs_in p v m h = sorted_in (by_tile labels) (filtered has_arc (run_of g p)) v (filtered_in has_arc (run_of g p) v m h)

  -- the order changes nothing of where they lead
  pub in_children : (p q : ℕ) → Memᴰ q (children_of g labels p) → Memᴰ q (arcs_from g p)
  in_children p q m =
      let r = in_map (arc kbwg) (arcs_of g labels p) q m in
      let a = in_arcs p r.0 r.1 in
      rw r.2 (arc-from g p r.0 a.0 a.1)

  pub children_in : (p q : ℕ) → Memᴰ q (arcs_from g p) → Memᴰ q (children_of g labels p)
  children_in p q m =
      let r = from-arc g p q m in
      rw r.3 (map_in (arc kbwg) (arcs_of g labels p) r.0 (arcs_in p r.0 r.1 r.2))

  arcs-length : (p : ℕ) → length (arcs_of g labels p) ≤ length (run_of g p)
  unfolding arcs_of
  arcs-length p =
      let a = sorted-length (by_tile labels) (filtered has_arc (run_of g p)) in
      let b = filtered-length has_arc (run_of g p) in
      omega arith

-- ---- how long a run is
module _ (n : ℕ) where
  run-from : (v : ℕ) (l : Graph) → ascends kbwg (v ∷ l) ≡ true → ((w : ℕ) → Memᴰ w (run kbwg (v ∷ l)) → tile kbwg w < n)
      → length (run kbwg (v ∷ l)) + tile kbwg v ≤ n
  unfolding run
  run-from v [] a h =
      let t = h v (Memᴰ.head refl) in
      split (is_end kbwg v) (λ e. rw (e, run) (omega arith)) (λ e. rw (e, run) (omega arith))
  run-from v (u ∷ l) a h =
      let t = h v (Memᴰ.head refl) in
      split (is_end kbwg v)
      (λ e. rw (e, run) (omega arith))
      (λ e.
      let up = ascends-head kbwg v u l a e in
      let r = run-from u l (ascends_tail kbwg v u l a) (λ w m. h w (rw (e, run) (Memᴰ.tail m))) in
      rw (e, run) (omega arith))

  run-most : (l : Graph) → ascends kbwg l ≡ true → ((w : ℕ) → Memᴰ w (run kbwg l) → tile kbwg w < n) → length (run kbwg l) ≤ n
  unfolding run
  run-most [] a h = zero-le
  run-most (v ∷ l) a h = let r = run-from v l a h in omega arith

-- ---- the tiles of a run
run-above : (v : ℕ) (l : Graph) → ascends kbwg (v ∷ l) ≡ true → is_end kbwg v ≡ false → (w : ℕ) → Memᴰ w (run kbwg l)
    → tile kbwg v < tile kbwg w
unfolding run
run-above v [] a e w m = absurd (Memᴰ.not-nil m)
run-above v (u ∷ l) a e w m =
    let up = ascends-head kbwg v u l a e in
    split (is_end kbwg u)
    (λ t. rw (Memᴰ.eq_of_singleton (rw (run-last kbwg u l t) at m)) up)
    (λ t. ⊎_elim
    (λ i. rw i up)
    (λ k. let r = run-above u l (ascends_tail kbwg v u l a) t w k in omega arith)
    (Memᴰ.cases_cons (rw (run-next kbwg u l t) at m)))

run-tiles : (l : Graph) → ascends kbwg l ≡ true → NoRepeats (map (tile kbwg) (run kbwg l))
unfolding run
run-tiles [] a = tt
run-tiles (v ∷ l) a =
    split (is_end kbwg v)
    (λ e. rw (e, run) ((λ m. Memᴰ.not-nil m), tt))
    (λ e. rw (e, run) (
      (λ m.
          let r = in_map (tile kbwg) (run kbwg l) (tile kbwg v) m in
          let h = run-above v l a e r.0 r.1 in
          let i = r.2 in
          omega arith),
      run-tiles l (ascends-drop kbwg 1 (v ∷ l) a),
    ))

module _ {g : Graph} {labels : List ℕ} (c : MacondoReady g labels) where
  run-labelled : (p v : ℕ) → Memᴰ v (run_of g p) → tile kbwg v < length labels
  run-labelled p v m = labelled_in g labels c.labelled v (in_graph kbwg g p v m)

  run-once : (p : ℕ) → NoRepeats (map (tile kbwg) (run_of g p))
  run-once p = run-tiles (drop p g) (ascends-drop kbwg p g c.ascending)

  pub arcs-once : (p : ℕ) → NoRepeats (arcs_of g labels p)
  unfolding arcs_of
  arcs-once p =
      no_repeats_sorted (by_tile labels) (filtered has_arc (run_of g p))
      (no_repeats_filtered has_arc (run_of g p) (map-no_repeats (tile kbwg) (run_of g p) (run-once p)))

  -- no two nodes of a run have one letter
  pub letters-apart : (p v w : ℕ) → Memᴰ v (run_of g p) → Memᴰ w (run_of g p)
      → letter_at labels v ≡ letter_at labels w → v ≡ w
  letters-apart p v w m n e =
      map-apart (tile kbwg) (run_of g p) (run-once p) v w m n
      (letter-apart labels c.fifty (tile kbwg v) (tile kbwg w) (run-labelled p v m) (run-labelled p w n) e)

  -- ---- how many arcs a block has
  pub arcs-few : (p : ℕ) → length (arcs_of g labels p) ≤ 50
  arcs-few p =
      let a = arcs-length g labels p in
      let b = run-most (length labels) (drop p g) (ascends-drop kbwg p g c.ascending) (run-labelled p) in
      let d = c.fifty in
      omega arith
