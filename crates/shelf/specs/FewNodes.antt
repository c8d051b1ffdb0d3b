-- The graph has a node for every entry of the shelf, beside nodes 0 and 1. The idea: every number stands in the run of a number that is met,
-- for the list's does, and so do the numbers that its entries name.
use Rattle.std.specs.Prelude.{◌≡◌, refl, true, false, eqb}
use Rattle.std.proofs.Common.{sym, ◌∙◌, subst, ⊎_elim, eq-eqb, ne_eqb}
use Rattle.std.proofs.Math.Path.{ap}
use Rattle.std.proofs.Math.Bool.{not}
use mathlib.Core.List.Memᴰ
use mathlib.Core.List.{List, [], ◌∷◌, map, Memᴰ}
use Prim.Native.Nat.{ℕ, zero, suc, ◌+◌, ◌≤◌, ◌<◌}
use native.Mathlib.Omega.{arith}
use Rattle.std.proofs.Math.ListN.{length}
use Rattle.laws.specs.Cases.{split}
use Rattle.laws.specs.Lists.{join_all}
use Rattle.laws.specs.Members.{map_in, filtered_in, join_in}
use Rattle.laws.proofs.SameLaws.{exact-number}
use Rattle.laws.specs.Without.{covers_length}
use Rattle.graph.specs.Words.{Word}
use Rattle.export.specs.BlocksLaws.{Low, start-met, children_met, blocks-length}
use Rattle.built.specs.Branches.{onwards}
use Rattle.built.specs.Lexicon.{Lexicon}
use Rattle.built.specs.Built.{built}
use Rattle.built.proofs.RunsLaws.{low-start}
use Rattle.shelf.specs.Shelf.{ShelfEntry, Shelf, run_entries, number_words, SoundShelf, child_numbers, entry_nodes, numbers_met, arc_of_number}
use Rattle.shelf.specs.Shelf.{numbered_graph}
use Rattle.shelf.specs.ShelfLaws.{top_or_below}
use Rattle.shelf.specs.ShelfBuilt.{entries-top, entries_below, onwards-numbered, children_known, met-known}
use Rattle.shelf.specs.Shelving.{shelved}
use Rattle.shelf.specs.PassLaws.{all-shelved, shelf-built}
use Rattle.shelf.specs.ReachedLaws.{entry_at, entry_top, entry-below, GoesOver, shelved-holds}

-- ---- the numbers of the entries of a run
unfoldable run_numbers : Shelf → ℕ → List ℕ
run_numbers [] n = []
run_numbers (e ∷ d) n = elim (eqb n (suc (length d))) [ true ↦ n ∷ run_numbers d e.next | false ↦ run_numbers d n ]

numbers-top : (e : ShelfEntry) (d : Shelf) → run_numbers (e ∷ d) (suc (length d)) ≡ suc (length d) ∷ run_numbers d e.next
unfolding run_numbers
numbers-top e d = rw (eq-eqb (suc (length d)) (suc (length d)) refl, run_numbers)

numbers-below : (e : ShelfEntry) (d : Shelf) (n : ℕ) → n ≤ length d → run_numbers (e ∷ d) n ≡ run_numbers d n
unfolding run_numbers
numbers-below e d n h = rw (ne_eqb n (suc (length d)) (λ i. omega arith), run_numbers)

numbers-length : (d : Shelf) (n : ℕ) → length (run_numbers d n) ≡ length (run_entries d n)
unfolding run_numbers run_entries
numbers-length [] n = refl
numbers-length (e ∷ d) n =
    split (eqb n (suc (length d)))
    (λ t. rw (t, run_numbers, run_entries) (ap suc (numbers-length d e.next)))
    (λ t. rw (t, run_numbers, run_entries) (numbers-length d n))

own-number : (d : Shelf) (n : ℕ) → 0 < n → n ≤ length d → Memᴰ n (run_numbers d n)
own-number [] n z h = absurd (omega arith)
own-number (e ∷ d) n z h =
    top_or_below d n h
    (λ t. subst (λ m. Memᴰ m (run_numbers (e ∷ d) m)) (sym t) (subst (Memᴰ (suc (length d))) (sym (numbers-top e d)) (Memᴰ.head refl)))
    (λ k. subst (Memᴰ n) (sym (numbers-below e d n k)) (own-number d n z k))

-- what a number in the run of m stands for
record InRun (d : Shelf) (m k : ℕ) : Type 0 where
  known : k ≤ length d
  entry_in : Memᴰ (entry_at d k) (run_entries d m)
  next_in : 0 < (entry_at d k).next → Memᴰ (entry_at d k).next (run_numbers d m)

in_run : (d : Shelf) → SoundShelf d → (m : ℕ) → m ≤ length d → (k : ℕ) → Memᴰ k (run_numbers d m) → InRun d m k
unfolding run_numbers
in_run [] v m h k i = absurd (Memᴰ.not-nil i)
in_run (e ∷ d) v m h k i =
    top_or_below d m h
    (λ t.
    let es = ap (run_entries (e ∷ d)) t ∙ entries-top e d in
    let ns = ap (run_numbers (e ∷ d)) t ∙ numbers-top e d in
    ⊎_elim
    (λ (j : k ≡ suc (length d)).
    let a = ap (entry_at (e ∷ d)) j ∙ entry_top e d in
    record {
      known = omega arith;
      entry_in = subst (Memᴰ (entry_at (e ∷ d) k)) (sym es) (Memᴰ.head a);
      next_in = λ z.
          let n = ap (λ (x : ShelfEntry). x.next) a in
          let own = own-number d e.next (subst (0 <◌) n z) v.0.next_known in
          subst (λ x. Memᴰ x (run_numbers (e ∷ d) m)) (sym n) (subst (Memᴰ e.next) (sym ns) (Memᴰ.tail own));
    })
    (λ (j : Memᴰ k (run_numbers d e.next)).
    let r = in_run d v.1 e.next v.0.next_known k j in
    let l = r.known in
    let a = entry-below e d k l in
    record {
      known = omega arith;
      entry_in = subst (λ x. Memᴰ x (run_entries (e ∷ d) m)) (sym a) (subst (Memᴰ (entry_at d k)) (sym es) (Memᴰ.tail r.entry_in));
      next_in = λ z.
          let n = ap (λ (x : ShelfEntry). x.next) a in
          subst (λ x. Memᴰ x (run_numbers (e ∷ d) m)) (sym n)
          (subst (Memᴰ (entry_at d k).next) (sym ns) (Memᴰ.tail (r.next_in (subst (0 <◌) n z))));
    })
    (Memᴰ.cases_cons (subst (Memᴰ k) ns i)))
    (λ b.
    let r = in_run d v.1 m b k (subst (Memᴰ k) (numbers-below e d m b) i) in
    let l = r.known in
    let a = entry-below e d k l in
    record {
      known = omega arith;
      entry_in = subst (λ x. Memᴰ x (run_entries (e ∷ d) m)) (sym a) (subst (Memᴰ (entry_at d k)) (sym (entries_below e d m b)) r.entry_in);
      next_in = λ z.
          let n = ap (λ (x : ShelfEntry). x.next) a in
          subst (λ x. Memᴰ x (run_numbers (e ∷ d) m)) (sym n)
          (subst (Memᴰ (entry_at d k).next) (sym (numbers-below e d m b)) (r.next_in (subst (0 <◌) n z)));
    })

-- ---- chains of children are no longer than the words
low-number : (d : Shelf) (v : SoundShelf d) (k m : ℕ) → m ≤ length d → Low onwards k (number_words d m) → Low (child_numbers d) k m
low-number d v zero m h l = l
low-number d v (suc k) m h l = λ q i.
    low-number d v k q (children_known d v m q h i)
    (l (number_words d q) (subst (Memᴰ (number_words d q)) (sym (onwards-numbered d v m h)) (map_in (number_words d) (child_numbers d m) q i)))

pub entry-nodes-length : (to : ℕ → ℕ) (es : List ShelfEntry) → length (entry_nodes to es) ≡ length es
unfolding entry_nodes
entry-nodes-length to [] = refl
entry-nodes-length to (e ∷ es) = ap suc (entry-nodes-length to es)

module _ (ws : List Word) (lex : Lexicon 64 ws) where
  abbrev d : Shelf
  d = (shelved ws).shelf

  abbrev n : ℕ
  n = (shelved ws).number

  sound : SoundShelf d
  sound = (all-shelved ws lex).valid

  known : n ≤ length d
  known = (all-shelved ws lex).known

  -- no chain of children from the list's number has over 64
  pub low-shelved : Low (child_numbers d) 64 n
  low-shelved = low-number d sound 64 n known (subst (Low onwards 64) (sym (all-shelved ws lex).words_are) (low-start ws lex))

  -- a number that stands in the run of one that is met
  abbrev Placed : ℕ → Type 0
  Placed k = 0 < k → (m : ℕ) × Memᴰ m (numbers_met d n) × Memᴰ k (run_numbers d m)

  below_all : (m : ℕ) → Memᴰ m (numbers_met d n) → m ≤ length d
  below_all = met-known d sound n known

  child-placed : (k : ℕ) → 0 < k → Placed k → Placed (entry_at d k).child
  unfolding child_numbers
  child-placed k h p z =
      let r = p h in
      let i = in_run d sound r.0 (below_all r.0 r.1) k r.2 in
      let c = (entry_at d k).child in
      let among = map_in (λ (e : ShelfEntry). e.child) (run_entries d r.0) (entry_at d k) i.entry_in in
      let child = filtered_in (λ c. not (eqb c 0)) (map (λ (e : ShelfEntry). e.child) (run_entries d r.0)) c among (ap not (ne_eqb c 0 (λ e. omega arith))) in
      let m = children_met exact-number (child_numbers d) 64 n low-shelved r.0 c r.1 child in
      (c, m, own-number d c z (below_all c m))

  goes_over : GoesOver Placed d
  goes_over =
      record {
        nothing_too = λ z. absurd (omega arith);
        child_too = λ k h l p. child-placed k h p;
        next_too = λ k h l p z.
            let r = p h in
            (r.0, r.1, (in_run d sound r.0 (below_all r.0 r.1) k r.2).next_in z);
      }

  abbrev standing : List ℕ
  standing = join_all (map (run_numbers d) (numbers_met d n))

  all_stand : (k : ℕ) → k < suc (length d) → Memᴰ k (0 ∷ standing)
  all_stand zero h = Memᴰ.head refl
  all_stand (suc k) h =
      let start : Placed n = λ z. (n, start-met exact-number (child_numbers d) 64 n low-shelved, own-number d n z known) in
      let r = shelved-holds Placed ws lex goes_over start (suc k) (omega arith) (omega arith) (omega arith) in
      Memᴰ.tail (join_in (run_numbers d) (numbers_met d n) r.0 (suc k) r.1 r.2)

  -- a node for each entry
  pub entries-few : 2 + length (shelved ws).shelf ≤ length (built ws)
  unfolding numbered_graph
  entries-few =
      let to = arc_of_number d n in
      let size : ℕ → ℕ = λ m. length (run_entries d m) in
      let a = covers_length (suc (length d)) (0 ∷ standing) all_stand in
      let b = blocks-length size (run_numbers d) (numbers-length d) (numbers_met d n) in
      let c = blocks-length size (λ m. entry_nodes to (run_entries d m)) (λ m. entry-nodes-length to (run_entries d m)) (numbers_met d n) in
      let e = ap length (shelf-built ws lex) in
      omega arith
