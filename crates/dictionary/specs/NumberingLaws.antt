-- Keys numbered one after the other. The idea: the keys so far, with those still to come, make the list of all; so a number once given is
-- the key's place in that list.
use Rattle.std.specs.Prelude.{◌≡◌, refl, ℕ, ◌+◌, ◌*◌, ◌≤◌, ◌<◌, length, get_or}
use Rattle.std.proofs.Common.{sym, ap, ◌∙◌, arith, length-append}
use mathlib.Core.List.{List, [], ◌∷◌, ◌++◌, Memᴰ}
use Rattle.std.proofs.Math.ListN.{get_or-append}
use Rattle.laws.specs.Cases.{split}
use Rattle.laws.specs.Firsts.{place_in, firsts, place_lt, place_at, firsts-all, firsts-length, firsts-step, place-stays}
use Rattle.laws.specs.Lists.{member}
use Rattle.laws.specs.Tables.{table-length, table_at}
use Rattle.dictionary.specs.KeyNumbered.{KeyNumbered}
use Rattle.dictionary.specs.Keys.{key_at, keys_in}
use Rattle.dictionary.specs.Tree.{Tree}
use Rattle.dictionary.specs.declared.KeyNumber.{KeyNumber}

-- no keys: every root leads nowhere
pub tree-none : (n : ℕ) (d : List ℕ) → ((p : ℕ) → p < n → get_or d p 0 ≡ 0) → 5 * n ≤ length d → Tree n d 0
tree-none n d none room =
    record {
      room = room;
      few = omega arith;
      later = λ p j l a e. let z = none p (omega arith) in absurd (omega arith);
      reached = λ j l. absurd (omega arith);
      once = λ i j l. absurd (omega arith);
      low = λ i l. absurd (omega arith);
    }

-- ---- the first k keys
module _ (n : ℕ) (d : List ℕ) (k : ℕ) where
  pub keys_length : length (keys_in n d k) ≡ k
  keys_length = table-length k (key_at n d)

  pub keys_at : (i : ℕ) → i < k → get_or (keys_in n d k) i 0 ≡ key_at n d i
  keys_at = table_at k (key_at n d)

-- ---- one key more
module _ {n : ℕ} {before : List ℕ} {k key : ℕ} {after : List ℕ} {r : KeyNumber} (q : KeyNumbered n before k key after r) where
  abbrev seen : List ℕ
  seen = firsts (keys_in n before k) (key ∷ [])

  met : Memᴰ key seen
  met = firsts-all (key ∷ []) (keys_in n before k) key (Memᴰ.head refl)

  pub count_most : r.count ≤ k + 1
  count_most =
      let a = q.count-is in
      let b = firsts-length (key ∷ []) (keys_in n before k) in
      let c = keys_length n before k in
      omega arith

  pub number-below : r.number < r.count
  number-below =
      let a = q.count-is in
      let b = q.number_is in
      let c = place_lt seen key met in
      omega arith

  -- the keys that were there stand where they stood
  begins : (k ≤ r.count) × ((i : ℕ) → i < k → get_or seen i 0 ≡ get_or (keys_in n before k) i 0)
  begins =
      let a = q.count-is in
      let b = keys_length n before k in
      split (member key (keys_in n before k))
      (λ m. let e : seen ≡ keys_in n before k = rw (m, firsts) in (let l = ap length e in omega arith, λ i h. ap (λ l. get_or l i 0) e))
      (λ m.
      let e : seen ≡ keys_in n before k ++ key ∷ [] = rw (m, firsts) in
      let l = ap length e ∙ length-append (keys_in n before k) (key ∷ []) in
      (omega arith, λ i h. ap (λ l. get_or l i 0) e ∙ get_or-append (keys_in n before k) (key ∷ []) 0 i (omega arith)))

  pub count-least : k ≤ r.count
  count-least = begins.0

  pub key-kept : (i : ℕ) → i < k → key_at n after i ≡ key_at n before i
  key-kept i h =
      let l = count-least in
      sym (keys_at n after r.count i (omega arith)) ∙ ap (λ l. get_or l i 0) q.keys_are ∙ begins.1 i h ∙ keys_at n before k i h

  -- the key stands at its number
  pub number-holds : key_at n after r.number ≡ key
  number-holds =
      sym (keys_at n after r.count r.number number-below) ∙ ap (λ l. get_or l r.number 0) q.keys_are
      ∙ ap (λ i. get_or seen i 0) q.number_is ∙ place_at seen key met

  module _ (rest all : List ℕ) (left : firsts (keys_in n before k) (key ∷ rest) ≡ all) where
    pub left-next : firsts (keys_in n after r.count) rest ≡ all
    left-next = ap (λ l. firsts l rest) q.keys_are ∙ sym (firsts-step (keys_in n before k) rest key) ∙ left

    pub number_final : r.number ≡ place_in all key
    number_final =
        q.number_is ∙ sym (place-stays rest seen key met) ∙ ap (λ l. place_in l key) (sym (firsts-step (keys_in n before k) rest key) ∙ left)
