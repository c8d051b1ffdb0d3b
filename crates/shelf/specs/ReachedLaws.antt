-- Every entry of the shelf is reached from the numbers at hand. The idea: what holds of those numbers and goes over from a number to the
-- two that its entry names holds of every number, since an entry is put only when one number more is at hand that leads to it.
use Rattle.std.specs.Prelude.{◌≡◌, refl, true, false, ◌≢◌, ℕ, suc, ◌≤◌, ◌<◌, eqb}
use Rattle.std.proofs.Common.{sym, ◌∙◌, subst, arith}
use Rattle.std.proofs.Math.Logic.{⊎_elim}
use mathlib.Core.List.{List, [], ◌∷◌}
use borrow.Author.Tests.{eqb-true, eqb-false, eq-eqb, ne_eqb}
use Rattle.std.proofs.Math.ListN.{length}
use Rattle.laws.specs.Cases.{split, below?}
use Rattle.laws.specs.Lists.{All}
use Rattle.graph.specs.Words.{Word}
use Rattle.graph.specs.Order.{◌≺◌, Ascending}
use Rattle.graph.specs.OrderLaws.{not-≺-empty, ≺-cons}
use Rattle.built.specs.Lexicon.{Lexicon}
use Rattle.built.specs.BranchLaws.{HasTile, all-some}
use Rattle.shelf.specs.Shelf.{ShelfEntry, Shelf}
use Rattle.shelf.specs.Shelving.{shelf_entry, same_entry, entry_number, put_on, close, advance, first_word, opened, shelved}
use Rattle.shelf.specs.ShelvingLaws.{exact-entry}

-- ---- the entry of a number, and an empty one where there is none
unfoldable pub entry_at : Shelf → ℕ → ShelfEntry
entry_at [] n = shelf_entry 0 false 0 0
entry_at (e ∷ d) n = elim (eqb n (suc (length d))) [ true ↦ e | false ↦ entry_at d n ]

pub entry_top : (e : ShelfEntry) (d : Shelf) → entry_at (e ∷ d) (suc (length d)) ≡ e
unfolding entry_at
entry_top e d = rw (eq-eqb (suc (length d)) (suc (length d)) refl, entry_at)

pub entry-below : (e : ShelfEntry) (d : Shelf) (n : ℕ) → n ≤ length d → entry_at (e ∷ d) n ≡ entry_at d n
unfolding entry_at
entry-below e d n h = rw (ne_eqb n (suc (length d)) (λ i. omega arith), entry_at)

number-entry : (d : Shelf) (e : ShelfEntry) → entry_number d e ≢ 0 → (entry_number d e ≤ length d) × (entry_at d (entry_number d e) ≡ e)
unfolding entry_number
number-entry [] e n = absurd (n refl)
number-entry (f ∷ d) e n =
    split (same_entry e f)
    (λ t. rw (t, entry_number) (omega arith, entry_top f d ∙ sym (exact-entry.equal e f t)))
    (λ t.
    let r = number-entry d e (λ z. n (rw (t, entry_number) z)) in
    let l = r.0 in
    rw (t, entry_number) (omega arith, entry-below f d (entry_number d e) l ∙ r.1))

-- ---- what goes over from a number to those that its entry names
module _ (P : ℕ → Type 0) where
  pub record GoesOver (d : Shelf) : Type 0 where
    pub nothing_too : P 0
    pub child_too : (k : ℕ) → 0 < k → k ≤ length d → P k → P (entry_at d k).child
    pub next_too : (k : ℕ) → 0 < k → k ≤ length d → P k → P (entry_at d k).next

  goes-below : (e : ShelfEntry) (d : Shelf) → GoesOver (e ∷ d) → GoesOver d
  goes-below e d g =
      record {
        nothing_too = g.nothing_too;
        child_too = λ k h l p. subst (λ (x : ShelfEntry). P x.child) (entry-below e d k l) (g.child_too k h (omega arith) p);
        next_too = λ k h l p. subst (λ (x : ShelfEntry). P x.next) (entry-below e d k l) (g.next_too k h (omega arith) p);
      }

  -- of the numbers of the entries from d on
  abbrev OfNew : Shelf → Shelf → Type 0
  OfNew d d' = (k : ℕ) → length d < k → k ≤ length d' → P k

  record PutGoes (d : Shelf) (e : ShelfEntry) (d' : Shelf) : Type 0 where
    before : GoesOver d
    child-holds : P e.child
    next-holds : P e.next
    new-holds : OfNew d d'

  -- an entry that is new
  put-new : (d : Shelf) (e : ShelfEntry) → GoesOver (e ∷ d) → P (suc (length d)) → PutGoes d e (e ∷ d)
  put-new d e g p =
      record {
        before = goes-below e d g;
        child-holds = subst (λ (x : ShelfEntry). P x.child) (entry_top e d) (g.child_too (suc (length d)) (omega arith) (omega arith) p);
        next-holds = subst (λ (x : ShelfEntry). P x.next) (entry_top e d) (g.next_too (suc (length d)) (omega arith) (omega arith) p);
        new-holds = λ k h l. let i : suc (length d) ≡ k = omega arith in subst P i p;
      }

  put-old : (d : Shelf) (e : ShelfEntry) → entry_number d e ≢ 0 → GoesOver d → P (entry_number d e) → PutGoes d e d
  put-old d e n g p =
      let r = number-entry d e n in
      record {
        before = g;
        child-holds = subst (λ (x : ShelfEntry). P x.child) r.1 (g.child_too (entry_number d e) (omega arith) r.0 p);
        next-holds = subst (λ (x : ShelfEntry). P x.next) r.1 (g.next_too (entry_number d e) (omega arith) r.0 p);
        new-holds = λ k h l. absurd (omega arith);
      }

  put-goes : (d : Shelf) (e : ShelfEntry) → GoesOver (put_on d e).shelf → P (put_on d e).number → PutGoes d e (put_on d e).shelf
  unfolding put_on
  put-goes d e =
      split (eqb (entry_number d e) 0)
      (λ t. rw (t, put_on) (put-new d e))
      (λ t. rw (t, put_on) (put-old d e (eqb-false (entry_number d e) 0 t)))

  -- ---- the open word
  abbrev OfOpen : Word → List ℕ → Type 0
  OfOpen w [] = Unit
  OfOpen [] (x ∷ xs) = P x
  OfOpen (t ∷ u) (x ∷ xs) = P x × OfOpen u xs

  record ClosedGoes (d : Shelf) (w : Word) (xs : List ℕ) (d' : Shelf) : Type 0 where
    before : GoesOver d
    open-holds : OfOpen w xs
    new-holds : OfNew d d'

  none-new : (d : Shelf) → OfNew d d
  none-new d k h l = absurd (omega arith)

  close-goes : (d : Shelf) (w : Word) (xs : List ℕ) → GoesOver (close d w xs).shelf → P (close d w xs).number
      → ClosedGoes d w xs (close d w xs).shelf
  unfolding close
  close-goes d w [] g p = record { before = g; open-holds = tt; new-holds = none-new d }
  close-goes d [] (x ∷ xs) g p = record { before = g; open-holds = p; new-holds = none-new d }
  close-goes d (t ∷ u) (x ∷ xs) g p =
      let c = close d u xs in
      let q = put-goes c.shelf _ g p in
      let r = close-goes d u xs q.before q.child-holds in
      record {
        before = r.before;
        open-holds = (q.next-holds, r.open-holds);
        new-holds = λ k h l. ⊎_elim
            (λ (i : length c.shelf < k). q.new-holds k i l)
            (λ (i : k ≤ length c.shelf). r.new-holds k h i)
            (below? (length c.shelf) k);
      }

  advance-goes : (d : Shelf) (w : Word) (xs : List ℕ) (v : Word) → v ≺ w → GoesOver (advance d w xs v).shelf → OfOpen v (advance d w xs v).numbers
      → ClosedGoes d w xs (advance d w xs v).shelf
  unfolding advance
  advance-goes d w xs [] h = λ g o. close-goes d w xs g o
  advance-goes d [] xs (s ∷ v) h = λ g o. absurd (not-≺-empty h refl)
  advance-goes d (t ∷ u) [] (s ∷ v) h = λ g o. record { before = g; open-holds = tt; new-holds = none-new d }
  advance-goes d (t ∷ u) (x ∷ xs) (s ∷ v) h =
      split (eqb s t)
      (λ q. rw (q, advance) (λ g o.
      let below : v ≺ u = ⊎_elim
      (λ (l : s < t). absurd (let e = eqb-true s t q in omega arith))
      (λ (l : (s ≡ t) × (v ≺ u)). l.1)
      (≺-cons h) in
      let r = advance-goes d u xs v below g o.1 in
      record { before = r.before; open-holds = (o.0, r.open-holds); new-holds = r.new-holds }))
      (λ q. rw (q, advance) (λ g o. close-goes d (t ∷ u) (x ∷ xs) g o.0))

  -- ---- the whole pass
  opened-holds : (ws : List Word) → All HasTile ws → Ascending ws → GoesOver (opened ws).shelf → OfOpen (first_word ws) (opened ws).numbers
      → (k : ℕ) → 0 < k → k ≤ length (opened ws).shelf → P k
  unfolding opened advance
  opened-holds [] h a g o k z l = absurd (omega arith)
  opened-holds ([] ∷ ws) h a g o k z l = absurd (let n = h.0 in omega arith)
  opened-holds ((t ∷ u) ∷ []) h a g o k z l = absurd (omega arith)
  opened-holds ((t ∷ u) ∷ w ∷ ws) h a g o k z l =
      let m = opened (w ∷ ws) in
      let r = advance-goes m.shelf w m.numbers (t ∷ u) a.0.0 g o in
      ⊎_elim
      (λ (i : length m.shelf < k). r.new-holds k i l)
      (λ (i : k ≤ length m.shelf). opened-holds (w ∷ ws) h.1 a.1 r.before r.open-holds k z i)
      (below? (length m.shelf) k)

  -- what holds of the list's number holds of every number
  pub shelved-holds : (ws : List Word) → Lexicon 64 ws → GoesOver (shelved ws).shelf → P (shelved ws).number
      → (k : ℕ) → 0 < k → k ≤ length (shelved ws).shelf → P k
  unfolding shelved
  shelved-holds ws lex g p k z l =
      let m = opened ws in
      let r = close-goes m.shelf (first_word ws) m.numbers g p in
      ⊎_elim
      (λ (i : length m.shelf < k). r.new-holds k i l)
      (λ (i : k ≤ length m.shelf). opened-holds ws (all-some 64 ws lex) lex.ascending r.before r.open-holds k z i)
      (below? (length m.shelf) k)
