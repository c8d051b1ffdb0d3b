-- Numbering an entry's key is putting the entry on the shelf. The idea: an entry is on the shelf where its key is among the keys, and its place
-- there is its number, counted from 0.
use mathlib.Core.Path.{◌≡◌, refl, sym, ap, ◌∙◌, subst}
use mathlib.Core.Bool.{false}
use mathlib.Core.Logic.{◌≢◌}
use mathlib.Core.List.{List, [], ◌∷◌, ◌++◌, Memᴰ}
use Prim.Native.Nat.{ℕ, suc, ◌+◌, ◌<◌}
use native.Mathlib.Omega.{arith}
use borrow.Author.Tests.{eqb-true, eqb-false, eq-eqb, ne_eqb}
use lib.Dec.{eqb}
use lib.ListN.{length}
use Rattle.laws.specs.Cases.{split}
use Rattle.laws.specs.Firsts.{place_in, firsts, place_append}
use Rattle.laws.specs.Lists.{All, all_mem, member}
use Rattle.laws.specs.Members.{mem_member, member_mem}
use Rattle.dictionary.specs.KeyNumbered.{KeyNumbered}
use Rattle.dictionary.specs.Keys.{keys_in}
use Rattle.dictionary.specs.NumberingLaws.{count_most}
use Rattle.dictionary.specs.declared.KeyNumber.{KeyNumber}
use Rattle.shelf.specs.Shelf.{ShelfEntry, Shelf, SoundShelf}
use Rattle.shelf.specs.Shelving.{same_entry, entry_number, Put, put_on}
use Rattle.shelf.specs.ShelvingLaws.{exact-entry, not_there}
use Rattle.tails.specs.KeyLaws.{key-entry, keys_count, in_keys, keys_in_lem}
use Rattle.tails.specs.Tails.{key_of, keys_of, Narrow, HoldsTails}

-- ---- an entry is on the shelf where its key is among the keys
key-there : (sh : Shelf) → All Narrow sh → (e : ShelfEntry) → Narrow e → Memᴰ (key_of e) (keys_of sh) → Memᴰ e sh
key-there sh a e h m =
    let r = keys_in_lem sh (key_of e) m in
    let i = key-entry e r.0 h (all_mem Narrow sh r.0 a r.1) r.2 in
    subst (λ f. Memᴰ f sh) (sym i) r.1

numbered-there : (sh : Shelf) (e : ShelfEntry) → entry_number sh e ≢ 0 → Memᴰ e sh
unfolding entry_number
numbered-there [] e n = absurd (n refl)
numbered-there (f ∷ d) e n =
    split (same_entry e f)
    (λ t. mathlib.Core.List.Memᴰ.head (exact-entry.equal e f t))
    (λ t. mathlib.Core.List.Memᴰ.tail (numbered-there d e (λ z. n (rw (t, entry_number) z))))

-- ---- and its place there is its number
unseen : (l : List ℕ) (x : ℕ) → (Memᴰ x l → ⊥) → firsts l (x ∷ []) ≡ l ++ x ∷ []
unseen l x n = let out : member x l ≡ false = split (member x l) (λ t. absurd (n (member_mem x l t))) (λ t. t) in rw (out, firsts)

place_after : (l : List ℕ) (x : ℕ) → (Memᴰ x l → ⊥) → place_in (l ++ x ∷ []) x ≡ length l
place_after [] x n = rw (eq-eqb x x refl, place_in)
place_after (y ∷ l) x n =
    rw (ne_eqb x y (λ i. n (mathlib.Core.List.Memᴰ.head i)), place_in) (ap suc (place_after l x (λ m. n (mathlib.Core.List.Memᴰ.tail m))))

place-number : (sh : Shelf) → SoundShelf sh → All Narrow sh → (e : ShelfEntry) → Narrow e → entry_number sh e ≢ 0 → place_in (keys_of sh) (key_of e) + 1 ≡ entry_number sh e
unfolding entry_number keys_of
place-number [] v a e h n = absurd (n refl)
place-number (f ∷ d) v a e h n =
    let new : Memᴰ (key_of f) (keys_of d) → ⊥ = λ m. v.0.new (key-there d a.1 f a.0 m) in
    split (same_entry e f)
    (λ t.
    let i = exact-entry.equal e f t in
    let p = ap (place_in (keys_of d ++ key_of f ∷ [])) (ap key_of i) ∙ place_after (keys_of d) (key_of f) new in
    let c = keys_count d in
    rw (t, entry_number) (omega arith))
    (λ t.
    let k : entry_number d e ≢ 0 = λ z. n (rw (t, entry_number) z) in
    let r = place-number d v.1 a.1 e h k in
    let p = place_append (keys_of d) (key_of f ∷ []) (key_of e) (in_keys d e (numbered-there d e k)) in
    rw (t, entry_number) (omega arith))

-- ---- put
-- what numbering tells of a shelf with an entry put on it
record PutBy (keys : List ℕ) (number : ℕ) (p : Put) : Type 0 where
  are : keys ≡ keys_of p.shelf
  narrows : All Narrow p.shelf
  numbers : number + 1 ≡ p.number

module _ {n : ℕ} {dict : List ℕ} {k : ℕ} {sh : Shelf} (holds : HoldsTails n dict k sh) (e : ShelfEntry) (narrow : Narrow e) where
  abbrev seen : List ℕ
  seen = firsts (keys_in n dict k) (key_of e ∷ [])

  put-new : entry_number sh e ≡ 0 → PutBy seen (place_in seen (key_of e)) (put_on sh e)
  unfolding put_on keys_of
  put-new z =
      let are = holds.shelves.are in
      let absent : Memᴰ (key_of e) (keys_of sh) → ⊥ = λ m. not_there sh e z (key-there sh holds.shelves.narrow e narrow m) in
      let s : seen ≡ keys_of sh ++ key_of e ∷ [] = ap (λ l. firsts l (key_of e ∷ [])) are ∙ unseen (keys_of sh) (key_of e) absent in
      let p = ap (λ l. place_in l (key_of e)) s ∙ place_after (keys_of sh) (key_of e) absent in
      let c = keys_count sh in
      rw (eq-eqb (entry_number sh e) 0 z, put_on) (record { are = s; narrows = (narrow, holds.shelves.narrow); numbers = omega arith })

  put-old : entry_number sh e ≢ 0 → PutBy seen (place_in seen (key_of e)) (put_on sh e)
  unfolding put_on
  put-old z =
      let are = holds.shelves.are in
      let there = mem_member (key_of e) (keys_of sh) (in_keys sh e (numbered-there sh e z)) in
      let s : seen ≡ keys_of sh = ap (λ l. firsts l (key_of e ∷ [])) are ∙ rw (there, firsts) in
      let p = ap (λ l. place_in l (key_of e)) s in
      let q = place-number sh holds.shelves.valid holds.shelves.narrow e narrow z in
      rw (ne_eqb (entry_number sh e) 0 z, put_on) (record { are = s; narrows = holds.shelves.narrow; numbers = omega arith })

  put-by : PutBy seen (place_in seen (key_of e)) (put_on sh e)
  put-by = split (eqb (entry_number sh e) 0) (λ t. put-new (eqb-true (entry_number sh e) 0 t)) (λ t. put-old (eqb-false (entry_number sh e) 0 t))

  module _ (valid : SoundShelf (put_on sh e).shelf) (room : k + 1 < n) {dict' : List ℕ} {r : KeyNumber} (numbered : KeyNumbered n dict k (key_of e) dict' r) where
    pub put_holds : HoldsTails n dict' r.count (put_on sh e).shelf
    put_holds =
        let p = put-by in
        let most = count_most numbered in
        record {
          small = holds.small;
          few = omega arith;
          size = numbered.count-is ∙ ap length p.are ∙ keys_count (put_on sh e).shelf;
          tree = numbered.tree;
          shelves = record { are = numbered.keys_are ∙ p.are; valid = valid; narrow = p.narrows };
        }

    pub put-number : r.number + 1 ≡ (put_on sh e).number
    put-number = ap (λ m. m + 1) numbered.number_is ∙ put-by.numbers
