-- The graph from numbers: where a number of a shelf stands for the list's words, the runs in their order, their places and their nodes
-- are made from the shelf's numbers alone.
use Rattle.std.specs.Prelude.{◌≡◌, ℕ, suc, ◌≤◌, ◌<◌, eqb}
use Rattle.std.proofs.Math.Path.{refl, sym, ap, ap₂, subst}
use Rattle.std.proofs.Common.{◌∙◌, ⊎_elim, arith, eq-eqb, eqb-true, ne_eqb}
use Rattle.std.proofs.Math.Bool.{true, false, not}
use mathlib.Core.List.{List, [], ◌∷◌, ◌++◌, map, Memᴰ}
use Rattle.std.proofs.lemmas.Bool.{eqb-false}
use Rattle.std.proofs.Math.ListN.{length}
use Rattle.std.proofs.lemmas.List.{length-map}
use Rattle.laws.specs.Cases.{split}
use Rattle.laws.specs.Lists.{filtered, has_entries, is_empty, join_all}
use Rattle.laws.specs.Members.{in_filtered, in_map, map_same}
use Rattle.laws.proofs.SameLaws.{exact-number}
use Rattle.graph.specs.Words.{Word}
use Rattle.export.specs.AlikeLaws.{met-alike, places-alike}
use Rattle.export.specs.Blocks.{block_at, met}
use Rattle.export.specs.BlocksLaws.{every-met}
use Rattle.built.specs.BranchLaws.{words_of_all}
use Rattle.built.specs.Branches.{branches, first_tiles, onward, onwards, tile_alone}
use Rattle.built.specs.Built.{arc_to, built, node_of, run_nodes, same_words, word_runs}
use Rattle.built.proofs.RunsLaws.{exact-words}
use Rattle.shelf.specs.Shelf.{Shelf, ShelfEntry, SoundShelf, arc_of_number, child_numbers, entry_nodes, number_words, numbered_graph, numbers_met}
use Rattle.shelf.specs.Shelf.{run_entries, tail_of}
use Rattle.shelf.specs.ShelfLaws.{alone-is, branch-below, branch_of, branches_at, onward-is, tail_below, tail_top, tail_zero, told, top_or_below}
use Rattle.shelf.specs.ShelfLaws.{words-apart, words-some}

-- ---- the entries of a number
pub entries-top : (e : ShelfEntry) (d : Shelf) → run_entries (e ∷ d) (suc (length d)) ≡ e ∷ run_entries d e.next
unfolding run_entries
entries-top e d = rw (eq-eqb (suc (length d)) (suc (length d)) refl, run_entries)

pub entries_below : (e : ShelfEntry) (d : Shelf) (n : ℕ) → n ≤ length d → run_entries (e ∷ d) n ≡ run_entries d n
unfolding run_entries
entries_below e d n h = rw (ne_eqb n (suc (length d)) (λ i. omega arith), run_entries)

pub entries-known : (d : Shelf) → SoundShelf d → (n : ℕ) → n ≤ length d → (f : ShelfEntry) → Memᴰ f (run_entries d n) → f.child ≤ length d
unfolding run_entries
entries-known [] v n h f m = absurd (mathlib.Core.List.Memᴰ.not-nil m)
entries-known (e ∷ d) v n h f m =
    let c = v.0.child-known in
    top_or_below d n h
    (λ t. ⊎_elim
    (λ (i : f ≡ e). let k = ap (λ (x : ShelfEntry). x.child) i in omega arith)
    (λ (k : Memᴰ f (run_entries d e.next)). let r = entries-known d v.1 e.next v.0.next_known f k in omega arith)
    (mathlib.Core.List.Memᴰ.cases_cons (subst (Memᴰ f) (ap (run_entries (e ∷ d)) t ∙ entries-top e d) m)))
    (λ k. let r = entries-known d v.1 n k f (subst (Memᴰ f) (entries_below e d n k) m) in omega arith)

pub tail_entries : (d : Shelf) → SoundShelf d → (n : ℕ) → n ≤ length d → tail_of d n ≡ map (branch_of d) (run_entries d n)
unfolding tail_of run_entries
tail_entries [] v n h = refl
tail_entries (e ∷ d) v n h =
    let f = v.0 in
    let wider : (m : ℕ) → m ≤ length d → map (branch_of d) (run_entries d m) ≡ map (branch_of (e ∷ d)) (run_entries d m) =
    λ m k. map_same (branch_of d) (branch_of (e ∷ d)) (run_entries d m) (λ x i. sym (branch-below e x d (entries-known d v.1 m k x i))) in
    top_or_below d n h
    (λ t.
    ap (tail_of (e ∷ d)) t ∙ tail_top e d
    ∙ ap₂ ◌∷◌ (sym (branch-below e e d f.child-known)) (tail_entries d v.1 e.next f.next_known ∙ wider e.next f.next_known)
    ∙ ap (map (branch_of (e ∷ d))) (sym (ap (run_entries (e ∷ d)) t ∙ entries-top e d)))
    (λ k.
    tail_below e d n k ∙ tail_entries d v.1 n k ∙ wider n k
    ∙ ap (map (branch_of (e ∷ d))) (sym (entries_below e d n k)))

-- a node is its run's last where nothing follows it
pub entries-end : (d : Shelf) → SoundShelf d → (n : ℕ) → n ≤ length d → is_empty (run_entries d n) ≡ eqb n 0
unfolding run_entries
entries-end [] v n h = sym (eq-eqb n 0 (omega arith))
entries-end (e ∷ d) v n h =
    top_or_below d n h
    (λ t. ap (λ k. is_empty (run_entries (e ∷ d) k)) t ∙ ap is_empty (entries-top e d) ∙ sym (ne_eqb n 0 (λ i. omega arith)))
    (λ k. ap is_empty (entries_below e d n k) ∙ entries-end d v.1 n k)

module _ (d : Shelf) (v : SoundShelf d) where
  alone_of : (e : ShelfEntry) → tile_alone (branch_of d e) ≡ e.accepts
  alone_of e = alone-is e.accepts (number_words d e.child) (words-some (tail_of d e.child))

  onward_of : (e : ShelfEntry) → onward (branch_of d e) ≡ number_words d e.child
  onward_of e = onward-is e.accepts (number_words d e.child) (words-some (tail_of d e.child))

  long_filled : (us : List Word) → 0 < length us → has_entries us ≡ true
  long_filled [] h = absurd (omega arith)
  long_filled (u ∷ us) h = refl

  -- a number has words exactly where it is not 0
  number-filled : (c : ℕ) → c ≤ length d → has_entries (number_words d c) ≡ not (eqb c 0)
  number-filled c h =
      split (eqb c 0)
      (λ t. ap (λ k. has_entries (number_words d k)) (eqb-true c 0 t) ∙ ap (λ l. has_entries (words_of_all l)) (tail_zero d) ∙ sym (ap not t))
      (λ t. let n = eqb-false c 0 t in long_filled (number_words d c) ((told d v c h).some (omega arith)) ∙ sym (ap not t))

  onwards_of : (es : List ShelfEntry) → ((e : ShelfEntry) → Memᴰ e es → e.child ≤ length d)
      → filtered has_entries (map onward (map (branch_of d) es)) ≡ map (number_words d) (filtered (λ c. not (eqb c 0)) (map (λ (e : ShelfEntry). e.child) es))
  onwards_of [] h = refl
  onwards_of (e ∷ es) h =
      let r = onwards_of es (λ x m. h x (mathlib.Core.List.Memᴰ.tail m)) in
      let o = onward_of e in
      let f = number-filled e.child (h e (mathlib.Core.List.Memᴰ.head refl)) in
      split (eqb e.child 0)
      (λ t. let no : has_entries (onward (branch_of d e)) ≡ false = ap has_entries o ∙ f ∙ ap not t in rw (no, filtered) (rw (t, filtered) r))
      (λ t. let yes : has_entries (onward (branch_of d e)) ≡ true = ap has_entries o ∙ f ∙ ap not t in rw (yes, filtered) (rw (t, filtered) (ap₂ ◌∷◌ o r)))

  -- the runs that a number's words lead to are those of its children
  pub onwards-numbered : (n : ℕ) → n ≤ length d → onwards (number_words d n) ≡ map (number_words d) (child_numbers d n)
  unfolding onwards child_numbers
  onwards-numbered n h =
      ap (λ bs. filtered has_entries (map onward bs)) (branches_at d v n h ∙ tail_entries d v n h) ∙ onwards_of (run_entries d n) (entries-known d v n h)

  pub children_known : (p q : ℕ) → p ≤ length d → Memᴰ q (child_numbers d p) → q ≤ length d
  unfolding child_numbers
  children_known p q h m =
      let r = in_filtered (λ c. not (eqb c 0)) (map (λ (e : ShelfEntry). e.child) (run_entries d p)) q m in
      let s = in_map (λ (e : ShelfEntry). e.child) (run_entries d p) q r.0 in
      subst (λ k. k ≤ length d) (sym s.2) (entries-known d v p h s.0 s.1)

  abbrev Known : ℕ → Type 0
  Known m = m ≤ length d

  pub met-known : (n : ℕ) → n ≤ length d → (m : ℕ) → Memᴰ m (numbers_met d n) → m ≤ length d
  met-known n known = every-met exact-number (child_numbers d) Known children_known 64 n known

  module _ (n : ℕ) (known : n ≤ length d) (ws : List Word) (words_are : number_words d n ≡ ws) where
    pub runs-numbered : word_runs ws ≡ map (number_words d) (numbers_met d n)
    unfolding word_runs
    runs-numbered =
        ap (met same_words onwards 64 []) (sym words_are)
        ∙ met-alike exact-number exact-words Known (number_words d) (words-apart d v) (child_numbers d) onwards children_known onwards-numbered
        64 n known

    size_of : (m : ℕ) → Known m → length (branches (number_words d m)) ≡ length (run_entries d m)
    size_of m h = ap length (branches_at d v m h ∙ tail_entries d v m h) ∙ length-map (run_entries d m) (branch_of d)

    pub arc-of-number : (c : ℕ) → c ≤ length d → arc_to ws (number_words d c) ≡ arc_of_number d n c
    unfolding arc_to arc_of_number
    arc-of-number c h =
        let f = number-filled c h in
        split (eqb c 0)
        (λ t. rw (t, arc_of_number) (rw (ap (λ k. is_empty (number_words d k)) (eqb-true c 0 t) ∙ ap (λ l. is_empty (words_of_all l)) (tail_zero d), arc_to)))
        (λ t. rw (t, arc_of_number) (rw (not-filled-empty (number_words d c) (f ∙ ap not t), arc_to)
        (ap (λ l. block_at same_words first_tiles 2 l (number_words d c)) runs-numbered
        ∙ places-alike exact-number exact-words Known (number_words d) (words-apart d v) (λ m. length (run_entries d m)) first_tiles size_of
        (numbers_met d n) 2 c (met-known n known) h)))
      where
        not-filled-empty : (us : List Word) → has_entries us ≡ true → is_empty us ≡ false
        not-filled-empty [] e = sym e
        not-filled-empty (u ∷ us) e = refl

    nodes_of : (es : List ShelfEntry) → ((e : ShelfEntry) → Memᴰ e es → e.child ≤ length d) → run_nodes (arc_to ws) (map (branch_of d) es) ≡ entry_nodes (arc_of_number d n) es
    unfolding run_nodes entry_nodes
    nodes_of [] h = refl
    nodes_of (e ∷ es) h =
        let a = alone_of e in
        let r = ap (arc_to ws) (onward_of e) ∙ arc-of-number e.child (h e (mathlib.Core.List.Memᴰ.head refl)) in
        ap₂ ◌∷◌ ((λ i. node_of e.tile (a i) (is_empty (map (branch_of d) es)) (r i)) ∙ ap (λ b. node_of e.tile e.accepts b (arc_of_number d n e.child)) (empty-map es))
        (nodes_of es (λ x m. h x (mathlib.Core.List.Memᴰ.tail m)))
      where
        empty-map : (l : List ShelfEntry) → is_empty (map (branch_of d) l) ≡ is_empty l
        empty-map [] = refl
        empty-map (x ∷ l) = refl

    run-numbered : (m : ℕ) → m ≤ length d → run_nodes (arc_to ws) (branches (number_words d m)) ≡ entry_nodes (arc_of_number d n) (run_entries d m)
    run-numbered m h = ap (run_nodes (arc_to ws)) (branches_at d v m h ∙ tail_entries d v m h) ∙ nodes_of (run_entries d m) (entries-known d v m h)

    blocks-numbered : (l : List ℕ) → ((m : ℕ) → Memᴰ m l → m ≤ length d)
        → join_all (map (λ us. run_nodes (arc_to ws) (branches us)) (map (number_words d) l)) ≡ join_all (map (λ m. entry_nodes (arc_of_number d n) (run_entries d m)) l)
    blocks-numbered [] h = refl
    blocks-numbered (m ∷ l) h = ap₂ ◌++◌ (run-numbered m (h m (mathlib.Core.List.Memᴰ.head refl))) (blocks-numbered l (λ x i. h x (mathlib.Core.List.Memᴰ.tail i)))

    -- the graph, from numbers
    pub built-numbered : built ws ≡ numbered_graph d n
    unfolding built numbered_graph
    built-numbered =
        ap₂ (λ r l. node_of 0 false true r ∷ node_of 0 false true 0 ∷ l)
        (ap (arc_to ws) (sym words_are) ∙ arc-of-number n known)
        (ap (λ l. join_all (map (λ us. run_nodes (arc_to ws) (branches us)) l)) runs-numbered ∙ blocks-numbered (numbers_met d n) (met-known n known))
