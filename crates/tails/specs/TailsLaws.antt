-- A tail's numbers in the work list are its entry's node and what follows it; and what stands before the tails does not matter to them.
use Rattle.std.specs.Prelude.{◌≡◌, List, [], ◌∷◌, ℕ, ◌+◌, ◌-◌, ◌*◌, ◌≤◌, ◌<◌, length, get_or, drop}
use Rattle.std.proofs.Common.{sym, ap, ap₂, ◌∙◌, subst, arith, get_or-drop}
use Rattle.std.proofs.Math.ListN.{get_or-append}
use Rattle.std.proofs.lemmas.List.{get_or_at}
use Rattle.laws.specs.Lists.{All}
use Rattle.laws.specs.Tables.{table_at, table_same}
use Rattle.dictionary.specs.Keys.{key_at}
use Rattle.shelf.specs.Shelf.{ShelfEntry, Shelf, SoundShelf, run_entries}
use Rattle.shelf.specs.ShelfLaws.{top_or_below}
use Rattle.shelf.specs.ShelfBuilt.{entries-top, entries_below}
use Rattle.tails.specs.KeyLaws.{halves_same, node-fields, keys_count}
use Rattle.tails.specs.Tails.{tail_node, key_of, keys_of, Narrow, TailsIn}

-- ---- the entry of a number, and its key
pub record KeyedEntry (sh : Shelf) (i : ℕ) : Type 0 where
  pub entry : ShelfEntry
  pub chain-is : run_entries sh i ≡ entry ∷ run_entries sh entry.next
  pub key-is : get_or (keys_of sh) (i - 1) 0 ≡ key_of entry
  pub narrow : Narrow entry
  pub child-below : entry.child < i
  pub next-below : entry.next < i

pub entry_keyed : (sh : Shelf) → SoundShelf sh → All Narrow sh → (i : ℕ) → 0 < i → i ≤ length sh → KeyedEntry sh i
unfolding keys_of
entry_keyed [] v a i p h = absurd (omega arith)
entry_keyed (e ∷ d) v a i p h =
    let c = v.0.child-known in
    let n = v.0.next_known in
    let k = keys_count d in
    top_or_below d i h
    (λ t. record {
      entry = e;
      chain-is = ap (run_entries (e ∷ d)) t ∙ entries-top e d ∙ ap (e ∷◌) (sym (entries_below e d e.next n));
      key-is = get_or_at (keys_of d) (key_of e) [] 0 (i - 1) (omega arith);
      narrow = a.0;
      child-below = omega arith;
      next-below = omega arith;
    })
    (λ b.
    let r = entry_keyed d v.1 a.1 i p b in
    let x = r.next-below in
    record {
      entry = r.entry;
      chain-is = entries_below e d i b ∙ r.chain-is ∙ ap (r.entry ∷◌) (sym (entries_below e d r.entry.next (omega arith)));
      key-is = get_or-append (keys_of d) (key_of e ∷ []) 0 (i - 1) (omega arith) ∙ r.key-is;
      narrow = r.narrow;
      child-below = r.child-below;
      next-below = x;
    })

-- ---- what the work list has
key-place : (n : ℕ) (work : List ℕ) (i : ℕ)
    → key_at n (drop n work) i ≡ get_or work (2 * n + 4 * i + 1) 0 * 0x100000000 + get_or work (2 * n + 4 * i) 0
key-place n work i =
    let a : n + (n + 4 * i + 1) ≡ 2 * n + 4 * i + 1 = omega arith in
    let b : n + (n + 4 * i) ≡ 2 * n + 4 * i = omega arith in
    ap₂ (λ high low. high * 0x100000000 + low)
    (get_or-drop n work (n + 4 * i + 1) 0 ∙ ap (λ p. get_or work p 0) a)
    (get_or-drop n work (n + 4 * i) 0 ∙ ap (λ p. get_or work p 0) b)

-- what the work list says of tail i: its node and the tail after it
pub record TailAt (n : ℕ) (work : List ℕ) (sh : Shelf) (i : ℕ) : Type 0 where
  pub entry : ShelfEntry
  pub chain-is : run_entries sh i ≡ entry ∷ run_entries sh entry.next
  pub node-is : get_or work (2 * n + 4 * (i - 1)) 0 ≡ tail_node entry
  pub next-is : get_or work (2 * n + 4 * (i - 1) + 1) 0 ≡ entry.next
  pub narrow : Narrow entry
  pub child-below : entry.child < i
  pub next-below : entry.next < i

pub tail_at : {n : ℕ} {work : List ℕ} {sh : Shelf} → TailsIn n work sh → (i : ℕ) → 0 < i → i ≤ length sh → TailAt n work sh i
unfolding key_of
tail_at {n} {work} {sh} t i p h =
    let r = entry_keyed sh t.shelves.valid t.shelves.narrow i p h in
    let e = r.entry in
    let key : get_or work (2 * n + 4 * (i - 1) + 1) 0 * 0x100000000 + get_or work (2 * n + 4 * (i - 1)) 0 ≡ e.next * 0x100000000 + tail_node e =
    sym (key-place n work (i - 1))
    ∙ sym (table_at (length sh) (key_at n (drop n work)) (i - 1) (omega arith))
    ∙ ap (λ l. get_or l (i - 1) 0) t.shelves.are ∙ r.key-is in
    let s = halves_same _ _ _ _ (t.low (i - 1) (omega arith)) (node-fields e r.narrow).below key in
    record {
      entry = e;
      chain-is = r.chain-is;
      node-is = s.1;
      next-is = s.0;
      narrow = r.narrow;
      child-below = r.child-below;
      next-below = r.next-below;
    }

-- the numbers before place 2n are free
pub tails-kept : {n : ℕ} {w w' : List ℕ} {sh : Shelf} → drop (2 * n) w' ≡ drop (2 * n) w → length w' ≡ length w → TailsIn n w sh → TailsIn n w' sh
tails-kept {n} {w} {w'} {sh} same long t =
    let at : (p : ℕ) → get_or w' (2 * n + p) 0 ≡ get_or w (2 * n + p) 0 = λ p.
    sym (get_or-drop (2 * n) w' p 0) ∙ ap (λ l. get_or l p 0) same ∙ get_or-drop (2 * n) w p 0 in
    let place : (i : ℕ) → get_or w' (2 * n + 4 * i + 1) 0 ≡ get_or w (2 * n + 4 * i + 1) 0 = λ i.
    let s : 2 * n + (4 * i + 1) ≡ 2 * n + 4 * i + 1 = omega arith in
    ap (λ p. get_or w' p 0) (sym s) ∙ at (4 * i + 1) ∙ ap (λ p. get_or w p 0) s in
    let key : (i : ℕ) → i < length sh → key_at n (drop n w') i ≡ key_at n (drop n w) i = λ i h.
    key-place n w' i ∙ ap₂ (λ high low. high * 0x100000000 + low) (place i) (at (4 * i)) ∙ sym (key-place n w i) in
    let room = t.room in
    record {
      small = t.small;
      room = omega arith;
      few = t.few;
      shelves = record {
        are = table_same (length sh) _ _ key ∙ t.shelves.are;
        valid = t.shelves.valid;
        narrow = t.shelves.narrow;
      };
      low = λ i h. subst (λ x. x < 0x100000000) (sym (at (4 * i))) (t.low i h);
    }
