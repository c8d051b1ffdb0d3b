-- The blocks' sets numbered one after the other: what the blocks left add to the sets so far is what they are in the end.
use Rattle.std.specs.Prelude.{◌≡◌, ◌≢◌, List, ◌∷◌, ◌++◌, map, ℕ, suc, ◌+◌, ◌*◌, ◌≤◌, ◌<◌, length, get_or, set, take, drop}
use Rattle.std.proofs.Common.{sym, ap, ◌∙◌, refl, arith, add-one, below_more, length-drop, drop-cons, drop_of_length-le, get_or-take, get_or-drop, get_or-set_same, get_or-set_other}
use lib.Seq.{drop_at, length-take-le}
use Rattle.std.proofs.Math.ListN.{get_or-append}
use Rattle.laws.specs.Cleared.{cleared, cleared-length, cleared_at}
use Rattle.laws.specs.Firsts.{place_in, firsts}
use Rattle.laws.specs.Tables.{table, table-length}
use Rattle.block_record.specs.Record.{blocks_in}
use Rattle.dictionary.specs.declared.KeyNumber.{KeyNumber}
use Rattle.dictionary.specs.KeyNumbered.{KeyNumbered}
use Rattle.dictionary.specs.Keys.{keys_in}
use Rattle.dictionary.specs.NumberingLaws.{tree-none, count_most, left-next, number_final}
use Rattle.dictionary.specs.Tree.{Tree}
use Rattle.letter_sets.specs.SetNumbers.{set_at, sets_in, sets_for, SetsNumbered}

-- f gives the set of a run
module _ (f : ℕ → ℕ) (n blocks : ℕ) (w₀ : List ℕ) where
  abbrev order : List ℕ
  order = blocks_in n w₀ blocks

  abbrev all : List ℕ
  all = sets_for f n w₀ blocks

  -- block i has the number of its set
  abbrev HasNumber : List ℕ → ℕ → Type 0
  HasNumber w i = get_or w (2 * n + i) 0 ≡ place_in all (f (get_or w₀ (n + i) 0))

  -- the first j blocks have their numbers, in the first part of the work list, by the dictionary in the second
  pub record SetsSoFar (w d : List ℕ) (count j : ℕ) : Type 0 where
    pub few : count ≤ j
    pub tree : Tree n d count
    pub left : firsts (keys_in n d count) (map f (drop j order)) ≡ all
    pub numbers : (i : ℕ) → i < j → HasNumber w i
    pub kept : (i : ℕ) → i < 2 * n → get_or w i 0 ≡ get_or w₀ i 0

  -- the list in two parts, the roots of the dictionary cleared
  pub numbering_start : {w d : List ℕ} (d₀ : List ℕ) → 5 * n ≤ length d₀ → w ≡ take (3 * n) w₀ → d ≡ cleared n d₀ → SetsSoFar w d 0 0
  unfolding table
  numbering_start d₀ room front zeros =
      record {
        few = omega arith;
        tree = rw zeros (tree-none n _ (cleared_at n d₀) (let l = cleared-length n d₀ (omega arith) in omega arith));
        left = refl;
        numbers = λ i l. absurd (omega arith);
        kept = λ i l. rw front (get_or-take (3 * n) w₀ i 0 (omega arith));
      }

  module _ (within : blocks ≤ n) (room : 8 * n ≤ length w₀) where
    order-length : length order ≡ blocks
    order-length = length-take-le blocks (drop n w₀) (simp length-drop (omega arith))

    order_cons : (j : ℕ) → j < blocks → drop j order ≡ get_or w₀ (n + j) 0 ∷ drop (j + 1) order
    order_cons j h =
        let e = get_or-take blocks (drop n w₀) j 0 h ∙ get_or-drop n w₀ j 0 in
        rw add-one (drop-cons order j 0 (rw order-length h) ∙ ap (◌∷ drop (suc j) order) e)

    module _ {w d : List ℕ} (part : length w ≡ 3 * n) {count j : ℕ} (q : SetsSoFar w d count j) where
      module _ (h : j < blocks) {key : ℕ} {d' : List ℕ} {r : KeyNumber} (numbered : KeyNumbered n d count key d' r)
          (is : key ≡ f (get_or w (n + j) 0)) where
        key-is : key ≡ f (get_or w₀ (n + j) 0)
        key-is = is ∙ ap f (q.kept (n + j) (omega arith))

        left_here : firsts (keys_in n d count) (key ∷ map f (drop (j + 1) order)) ≡ all
        left_here = rw key-is (ap (λ l. firsts (keys_in n d count) (map f l)) (sym (order_cons j h)) ∙ q.left)

        abbrev after : List ℕ
        after = set w (2 * n + j) r.number

        number-new : HasNumber after j
        number-new =
            get_or-set_same w (2 * n + j) r.number 0 (omega arith) ∙ number_final numbered (map f (drop (j + 1) order)) all left_here
            ∙ ap (place_in all) key-is

        other : (p : ℕ) → p ≢ 2 * n + j → get_or after p 0 ≡ get_or w p 0
        other p e = get_or-set_other w (2 * n + j) p r.number 0 e

        pub numbering-next : SetsSoFar after d' r.count (j + 1)
        numbering-next =
            record {
              few = let a = count_most numbered in let b = q.few in omega arith;
              tree = numbered.tree;
              left = left-next numbered (map f (drop (j + 1) order)) all left_here;
              numbers = below_more (HasNumber after) j (λ i l. other (2 * n + i) (λ e. omega arith) ∙ q.numbers i l) number-new;
              kept = λ i l. other i (λ e. omega arith) ∙ q.kept i l;
            }

      -- the two parts of the work list joined
      pub numbering-done : blocks ≤ j → SetsNumbered f n blocks w₀ (w ++ d) count
      numbering-done h =
          let front : (p : ℕ) → p < 3 * n → get_or (w ++ d) p 0 ≡ get_or w p 0 = λ p l. get_or-append w d 0 p (omega arith) in
          let back : drop (3 * n) (w ++ d) ≡ d = drop_at w d (3 * n) part in
          let none = drop_of_length-le order {i = j} (rw order-length h) in
          let sets : sets_in n (w ++ d) count ≡ all = rw back (ap (λ l. firsts (keys_in n d count) (map f l)) (sym none) ∙ q.left) in
          record {
            sets-are = sets;
            counted = sym (table-length count (set_at n (w ++ d))) ∙ ap length sets;
            numbers = λ i l. front (2 * n + i) (omega arith) ∙ q.numbers i (omega arith);
            kept = λ i l. front i (omega arith) ∙ q.kept i l;
          }
