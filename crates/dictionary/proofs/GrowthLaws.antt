-- The trees with one key more. Only a link that led nowhere changes, so every search passes what it passed before.
use mathlib.Core.Path.{◌≡◌, refl, sym, ap, ap₂, ◌∙◌}
use mathlib.Core.Logic.{⊎_elim}
use mathlib.Core.List.{List, [], ◌∷◌, ◌++◌}
use Prim.Native.Nat.{ℕ, ◌+◌, ◌*◌, ◌<◌}
use native.Mathlib.Numerals.{add-one}
use native.Mathlib.Omega.{arith}
use borrow.Author.Count.{below_more}
use lib.ListN.{length, get_or}
use Rattle.laws.specs.Cases.{same?, below?}
use Rattle.laws.specs.Firsts.{place_in, firsts}
use Rattle.laws.specs.Tables.{table, table-length, table_same}
use Rattle.dictionary.specs.KeyNumbered.{KeyNumbered}
use Rattle.dictionary.specs.Keys.{key_at, keys_in}
use Rattle.dictionary.specs.Tree.{tree_of, LinkAt, PathTo, Tree, added}
use Rattle.dictionary.specs.declared.KeyNumber.{KeyNumber}
use Rattle.dictionary.proofs.SearchLaws.{Seeking, seek-none, tree-below, path-kept, path-to-kept}
use Rattle.dictionary.proofs.StoredLaws.{added-length, kept-below, leads-there, low-is, key-is, leads_nowhere}
use Rattle.dictionary.proofs.TableLaws.{table_more, place_in_table, firsts-old, firsts-new}

-- where the keys after it are right, the number of a key is the place at which it stands
numbered-at : {n : ℕ} {before : List ℕ} {k key : ℕ} {after : List ℕ} (r : KeyNumber) → Tree n after r.count
    → keys_in n after r.count ≡ firsts (keys_in n before k) (key ∷ []) → r.number < r.count → key_at n after r.number ≡ key
    → KeyNumbered n before k key after r
numbered-at {n} {key = key} {after} r t all h is =
    record {
      keys_are = all;
      count-is = sym (table-length r.count (key_at n after)) ∙ ap length all;
      number_is = sym (place_in_table r.count (key_at n after) t.once r.number h) ∙ ap₂ place_in all is;
      tree = t;
    }

-- ---- a key that is there
pub numbered-found : {n : ℕ} {d : List ℕ} {k : ℕ} (t : Tree n d k) (key i : ℕ) → i < k → key_at n d i ≡ key
    → KeyNumbered n d k key d (record { number = i; count = k })
numbered-found {n} {d} {k} t key i h e = numbered-at (record { number = i; count = k }) t (firsts-old k (key_at n d) key i h e) h e

-- ---- a new one: the search for it has ended at a link that leads nowhere
module _ {n : ℕ} {d : List ℕ} {k : ℕ} (t : Tree n d k) (few : k < n) {key place bits : ℕ} (q : Seeking n d k key place bits)
    (nowhere : get_or d place 0 ≡ 0) where
  abbrev more : List ℕ
  more = added n d place k key

  -- no link stands where a key has a half
  low-old : (i : ℕ) → i < k → get_or more (n + 4 * i) 0 ≡ get_or d (n + 4 * i) 0
  low-old i l = kept-below n d place k key (n + 4 * i) (omega arith) (λ e. let h = q.linking (omega arith) in omega arith)

  key-old : (i : ℕ) → i < k → key_at n more i ≡ key_at n d i
  key-old i l =
      ap₂ (λ high low. high * 0x100000000 + low)
      (kept-below n d place k key (n + 4 * i + 1) (omega arith) (λ e. let h = q.linking (omega arith) in omega arith))
      (low-old i l)

  key-new : key_at n more k ≡ key
  key-new = key-is n d place k key few t.room

  link-old : (p j : ℕ) → p < n + 4 * k → get_or d p 0 ≡ j + 1 → get_or more p 0 ≡ j + 1
  link-old p j l e = kept-below n d place k key p l (λ s. let z = ap (λ i. get_or d i 0) s in omega arith) ∙ e

  link-new : get_or more place 0 ≡ k + 1
  link-new = leads-there n d place k key few t.room q.inside

  later_more : (p j : ℕ) → p < n + 4 * (k + 1) → LinkAt n p → get_or more p 0 ≡ j + 1 → (j < k + 1) × (p < n + 4 * j)
  later_more p j l a e =
      ⊎_elim
      (λ (b : p < n + 4 * k). ⊎_elim
      (λ (s : p ≡ place). let f = ap (λ i. get_or more i 0) s ∙ link-new in (omega arith, omega arith))
      (λ o. let h = t.later p j b a (sym (kept-below n d place k key p b o) ∙ e) in (omega arith, h.1))
      (same? p place))
      (λ b. let z = leads_nowhere n d place k key few t.room p a b (omega arith) in absurd (omega arith))
      (below? p (n + 4 * k))

  root_in : (x : ℕ) → tree_of n x < n + 4 * k
  root_in x = let h = tree-below n x (omega arith) in omega arith

  root_links : (x : ℕ) → LinkAt n (tree_of n x)
  root_links x l = let h = tree-below n x (omega arith) in absurd (omega arith)

  way-new : PathTo n more (tree_of n key) key k
  way-new = record { last = place; rest = bits; way = path-kept t more link-old (root_in key) (root_links key) q.way; leads = link-new }

  once_more : (i : ℕ) → i < k + 1 → (j : ℕ) → j < k + 1 → key_at n more i ≡ key_at n more j → i ≡ j
  once_more =
      let new = seek-none t q nowhere in
      below_more (λ i. (j : ℕ) → j < k + 1 → key_at n more i ≡ key_at n more j → i ≡ j) k
      (λ i l. below_more (λ j. key_at n more i ≡ key_at n more j → i ≡ j) k
      (λ j m e. t.once i j l m (sym (key-old i l) ∙ e ∙ key-old j m))
      (λ e. absurd (new i l (sym (key-old i l) ∙ e ∙ key-new))))
      (below_more (λ j. key_at n more k ≡ key_at n more j → k ≡ j) k
      (λ j m e. absurd (new j m (sym (key-old j m) ∙ sym e ∙ key-new)))
      (λ e. refl))

  tree-more : Tree n more (k + 1)
  tree-more =
      record {
        room = rw (added-length n d place k key) t.room;
        few = omega arith;
        later = later_more;
        reached = below_more (λ j. PathTo n more (tree_of n (key_at n more j)) (key_at n more j) j) k
            (λ j l. rw (key-old j l) (path-to-kept t more link-old (root_in (key_at n d j)) (root_links (key_at n d j)) (t.reached j l)))
            (rw key-new way-new);
        once = λ i j l m. once_more i l j m;
        low = below_more (λ i. get_or more (n + 4 * i) 0 < 0x100000000) k
            (λ i l. let e = low-old i l in let h = t.low i l in omega arith)
            (let e = low-is n d place k key few t.room in omega arith);
      }

  keys_more : keys_in n more (k + 1) ≡ firsts (keys_in n d k) (key ∷ [])
  keys_more =
      ap (λ m. table m (key_at n more)) (add-one k) ∙ table_more k (key_at n more)
      ∙ ap₂ (λ l x. l ++ x ∷ []) (table_same k _ _ key-old) key-new ∙ firsts-new k (key_at n d) key (seek-none t q nowhere)

  pub numbered-new : KeyNumbered n d k key more (record { number = k; count = k + 1 })
  numbered-new = numbered-at (record { number = k; count = k + 1 }) tree-more keys_more (omega arith) key-new
