-- The graph from numbers as the record gives it: how many nodes it has, where its arcs lead, and that what is written from the record is all of it.
use mathlib.Core.Path.{◌≡◌, refl, sym, ap, ap₂, ◌∙◌, subst}
use mathlib.Core.Logic.{◌≢◌}
use mathlib.Core.Bool.{true, false, not, true≢false}
use mathlib.Core.List.{List, [], ◌∷◌, map, Memᴰ}
use Prim.Native.Nat.{ℕ, ◌+◌, ◌*◌, ◌≤◌, ◌<◌}
use native.Mathlib.Omega.{arith}
use lib.Dec.{eqb}
use lib.ListN.{length, get_or, drop, take}
use borrow.Author.Tests.{eqb-true, eqb-false, ne_eqb}
use Rattle.laws.specs.Cases.{split}
use Rattle.laws.specs.Cleared.{cleared, cleared_at}
use Rattle.laws.specs.Lists.{is_empty, join_all, member}
use Rattle.laws.specs.Members.{map_same, map_in, in_filtered, filtered_in, member_mem, mem_member}
use Rattle.laws.proofs.SameLaws.{exact-number}
use Rattle.graph.specs.Lent.{kept-further, cleared-kept}
use Rattle.export.specs.Blocks.{block_at, total}
use Rattle.export.specs.BlocksLaws.{every-met, first-met, children_met, blocks-length, block-first, block_within}
use Rattle.block_record.specs.Record.{child_in, blocks_in, order_in}
use Rattle.block_record.specs.RecordLaws.{child-none, child-some, holds-most, holds-here, holds-none}
use Rattle.block_record.specs.declared.BlockTally.{BlockTally}
use Rattle.graph.specs.Words.{Word}
use Rattle.built.specs.BranchLaws.{words_of_all}
use Rattle.built.specs.Built.{node_of}
use Rattle.built.specs.Lexicon.{Lexicon}
use Rattle.built.specs.Listed.{list_bytes}
use Rattle.shelf.specs.Shelf.{ShelfEntry, Shelf, run_entries, number_words, child_numbers, entry_nodes, numbers_met, arc_of_number, numbered_graph}
use Rattle.shelf.specs.FewNodes.{entry-nodes-length, low-shelved}
use Rattle.shelf.specs.PassLaws.{all-shelved}
use Rattle.shelf.specs.ShelfLaws.{tail_zero}
use Rattle.shelf.specs.Shelving.{shelved}
use Rattle.shelf.specs.ShelfBuilt.{met-known}
use Rattle.tails.specs.Tails.{TailsIn}
use Rattle.tails.specs.TailsLaws.{tail_at, tails-kept}
use Rattle.build.specs.Numbering.{run_length, Recorded, RunsPlaced}
use Rattle.build.specs.Writing.{order_nodes, WritesFrom}
use Rattle.build.specs.Said.{IsRoot}

entry-nodes-same : (f h : ℕ → ℕ) (es : List ShelfEntry) → ((e : ShelfEntry) → Memᴰ e es → f e.child ≡ h e.child) → entry_nodes f es ≡ entry_nodes h es
unfolding entry_nodes
entry-nodes-same f h [] k = refl
entry-nodes-same f h (e ∷ es) k =
    ap₂ ◌∷◌ (ap (node_of e.tile e.accepts (is_empty es)) (k e (Memᴰ.head refl))) (entry-nodes-same f h es (λ x m. k x (Memᴰ.tail m)))

module _ {sh : Shelf} {n : ℕ} {w₀ : List ℕ} {root : ℕ} (r : IsRoot sh n w₀ root) where
  abbrev order : List ℕ
  order = numbers_met sh root

  -- ---- the numbers that are met
  met_some : (m : ℕ) → Memᴰ m order → 0 < m
  unfolding child_numbers
  met_some =
      every-met exact-number (child_numbers sh) (λ m. 0 < m)
      (λ p q s m.
      let f = (in_filtered (λ c. not (eqb c 0)) (map (λ (e : ShelfEntry). e.child) (run_entries sh p)) q m).1 in
      split (eqb q 0) (λ z. absurd (true≢false (sym (sym (ap not z) ∙ f)))) (λ z. let k = eqb-false q 0 z in omega arith))
      64 root r.some

  met-below : (m : ℕ) → Memᴰ m order → m ≤ length sh
  met-below = met-known sh r.tails.shelves.valid root r.known

  pub graph-length : length (numbered_graph sh root) ≡ 2 + total (run_length sh) order
  unfolding numbered_graph
  graph-length =
      let b = blocks-length (run_length sh) (λ m. entry_nodes (arc_of_number sh root) (run_entries sh m))
      (λ m. entry-nodes-length (arc_of_number sh root) (run_entries sh m)) order in
      omega arith

  -- ---- what numbering begins with: a record that holds no run
  module _ {w : List ℕ} {t : BlockTally} (e : w ≡ cleared n w₀) (b : t.blocks ≡ 0) (c : t.nodes ≡ 2) where
    unused : (p : ℕ) → p < n → get_or w p 0 ≡ 0
    unused p l = ap (λ x. get_or x p 0) e ∙ cleared_at n w₀ p l

    pub root-new : get_or w root 0 ≡ 0
    root-new = let f = r.tails.few in let k = r.known in unused root (omega arith)

    pub none-recorded : Recorded sh n w t
    none-recorded =
        let room = r.tails.room in
        let kept = kept-further (2 * n) n w₀ (cleared n w₀) (omega arith) (cleared-kept n w₀ (omega arith)) in
        record {
          tails = tails-kept (ap (drop (2 * n)) e ∙ kept.rest) (ap length e ∙ kept.size) r.tails;
          placed = record { runs = holds-here (holds-none n (run_length sh) 2 w t unused b c); within = omega arith };
        }

    pub none_seen : order_in n w t ≡ []
    none_seen = ap (λ k. take k (drop n w)) b

  -- ---- the runs placed by numbering
  module _ {w : List ℕ} {t : BlockTally} (p : RunsPlaced sh n w t order) where
    pub placed-length : t.nodes ≡ length (numbered_graph sh root)
    placed-length = p.runs.sum ∙ sym graph-length

    root-arc : arc_of_number sh root root ≡ 2
    unfolding arc_of_number
    root-arc =
        let f = first-met exact-number (child_numbers sh) 63 root in
        let s = r.some in
        rw (ne_eqb root 0 (λ z. omega arith), arc_of_number)
        (ap (λ l. block_at eqb (run_length sh) 2 l root) f.1 ∙ block-first exact-number (run_length sh) 2 root f.0)

    inside : (m : ℕ) → Memᴰ m order → m < n
    inside m i = let b = met-below m i in let f = r.tails.few in omega arith

    -- a child of a run that is met is met
    child-met : (m : ℕ) → Memᴰ m order → (e : ShelfEntry) → Memᴰ e (run_entries sh m) → e.child ≢ 0 → Memᴰ e.child order
    unfolding child_numbers
    child-met m i e k z =
        children_met exact-number (child_numbers sh) 64 root r.low m e.child i
        (filtered_in (λ c. not (eqb c 0)) (map (λ (x : ShelfEntry). x.child) (run_entries sh m)) e.child
        (map_in (λ (x : ShelfEntry). x.child) (run_entries sh m) e k) (ap not (ne_eqb e.child 0 z)))

    child-place-is : (m : ℕ) → Memᴰ m order → (e : ShelfEntry) → Memᴰ e (run_entries sh m) → child_in w e.child ≡ arc_of_number sh root e.child
    unfolding arc_of_number
    child-place-is m i e k =
        split (eqb e.child 0)
        (λ z. rw (z, arc_of_number) (sym (child-none w e.child (eqb-true _ _ z))))
        (λ z.
        let x = eqb-false _ _ z in
        let q = child-met m i e k x in
        let o = p.runs.old e.child (inside e.child q) (mem_member e.child order q) in
        let c = child-some w e.child x in
        rw (z, arc_of_number) (omega arith))

    pub order_is : blocks_in n w t.blocks ≡ order
    order_is = p.runs.order

    -- what is written from the record is what stands after the two roots
    pub nodes-written : numbered_graph sh root ≡ node_of 0 false true 2 ∷ node_of 0 false true 0 ∷ order_nodes sh w (blocks_in n w t.blocks)
    unfolding numbered_graph
    nodes-written =
        ap₂ (λ a l. node_of 0 false true a ∷ node_of 0 false true 0 ∷ join_all l) root-arc
        (map_same (λ m. entry_nodes (arc_of_number sh root) (run_entries sh m)) (λ m. entry_nodes (child_in w) (run_entries sh m)) order
        (λ m i. entry-nodes-same (arc_of_number sh root) (child_in w) (run_entries sh m) (λ e k. sym (child-place-is m i e k))))
        ∙ ap (λ l. node_of 0 false true 2 ∷ node_of 0 false true 0 ∷ order_nodes sh w l) (sym order_is)

    pub writes : TailsIn n w sh → WritesFrom sh n w t.blocks
    writes tails =
        record {
          tails = tails;
          few = holds-most p.runs;
          order = λ m i. let k = subst (Memᴰ m) order_is i in (met_some m k, met-below m k);
          places = λ c l. split (eqb c 0)
              (λ z. let e = child-none w c (eqb-true _ _ z) in omega arith)
              (λ z.
              let e = child-some w c (eqb-false _ _ z) in
              split (member c order)
              (λ m.
              let i = member_mem c order m in
              let o = p.runs.old c l m in
              let b = block_within exact-number (run_length sh) order 2 c i in
              let a = ap length (tail_at tails c (met_some c i) (met-below c i)).chain-is in
              let s = p.runs.sum in
              let k = p.within in
              omega arith)
              (λ m. let o = p.runs.new c l m in omega arith));
        }

-- the tail of a list that is not empty
pub is-root : (ws : List Word) (lex : Lexicon 64 ws) {n : ℕ} {w : List ℕ} {root size : ℕ} → length (list_bytes ws) ≡ size → 0 < size
    → TailsIn n w (shelved ws).shelf → root ≡ (shelved ws).number → IsRoot (shelved ws).shelf n w root
is-root ws lex {n} {w} e h t i =
    let all = all-shelved ws lex in
    let some : (shelved ws).number ≢ 0 = λ z.
    let none : ws ≡ [] = sym all.words_are ∙ ap (number_words (shelved ws).shelf) z ∙ ap words_of_all (tail_zero (shelved ws).shelf) in
    let l = ap (λ us. length (list_bytes us)) none in
    omega arith in
    subst (IsRoot (shelved ws).shelf n w) (sym i) (record { tails = t; some = omega (arith, some); known = all.known; low = low-shelved ws lex })
