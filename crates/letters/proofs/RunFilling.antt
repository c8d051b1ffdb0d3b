-- The tiles of each node's run, written into a lent list from the last node back to the first.
use mathlib.Core.Path.{◌≡◌, sym, ap, ◌∙◌}
use mathlib.Core.Bool.{Bool, true, false}
use mathlib.Core.Logic.{inl}
use mathlib.Core.List.{List, [], ◌∷◌, ◌++◌, map}
use mathlib.Core.Option.{Option, none}
use Prim.Native.Nat.{ℕ, suc, ◌-◌, ◌≤◌, ◌<◌}
use native.Mathlib.Omega.{arith}
use borrow.Author.Tests.{le-ltb}
use lib.ListN.{length, drop, set, drop_of_length-le}
use lib.Seq.{drop-cons, sets}
use Rattle.laws.specs.Cases.{split}
use Rattle.laws.specs.Lists.{filtered}
use Rattle.laws.specs.ListWrites.{sets-apart, sets-front}
use Rattle.answers.specs.Answers.{Answer, first_of}
use Rattle.answers.specs.RowLaws.{row-passes, row_ends}
use Rattle.node.specs.Nodes.{kbwg, tile, is_end}
use Rattle.graph.specs.Runs.{Graph, node, run}
use Rattle.laws.specs.Tables.{table, table-length}
use Rattle.laws.specs.BitSets.{marked, bit_set, bit-set-with}
use Rattle.letters.specs.LetterBits.{tiles_of, per_node, bits_written, bits_row, lettered, letter_bits_of, carry}

-- ---- the row
module _ (g : Graph) (l a : List ℕ) where
  by_row : (o : Option Answer) → first_of (bits_row g (length l) (length a)) ≡ o → letter_bits_of g l a ≡ lettered o g l a
  unfolding letter_bits_of
  by_row o e = ap (λ p. lettered p g l a) e

  pub long-enough : length g ≤ length l → length g ≤ length a → letter_bits_of g l a ≡ lettered none g l a
  long-enough h k = by_row none (row-passes _ _ _ (rw (le-ltb (length l) (length g) h, le-ltb (length a) (length g) k)) ∙ row_ends)

-- ---- one node more
-- what the run has after its first node
abbrev run_after : ℕ → Graph → Graph
run_after v vs = elim (is_end kbwg v) [ true ↦ [] | false ↦ run kbwg vs ]

module _ (test : ℕ → Bool) where
  tiles-after : (v : ℕ) (vs : Graph) → bit_set (map (tile kbwg) (filtered test (run_after v vs))) ≡ carry (tiles_of test vs) v
  unfolding tiles_of bit_set
  tiles-after v vs = split (is_end kbwg v) (λ e. rw (e, run_after, carry)) (λ e. rw (e, run_after, carry))

  tiles-step : (v : ℕ) (vs : Graph) → tiles_of test (v ∷ vs) ≡ marked (carry (tiles_of test vs) v) (tile kbwg v) (test v)
  unfolding tiles_of run
  tiles-step v vs = bit-set-with (tile kbwg) test v (run_after v vs) ∙ ap (λ s. marked s (tile kbwg v) (test v)) (tiles-after v vs)

-- the nodes from i on are written, and s is the set of the last one written
pub record RunFilling (test : ℕ → Bool) (g : Graph) (l₀ l : List ℕ) (s i : ℕ) : Type 0 where
  pub set_is : s ≡ tiles_of test (drop i g)
  pub list-is : l ≡ sets l₀ i (per_node test (drop i g))

module _ {test : ℕ → Bool} {g : Graph} {l₀ : List ℕ} where
  pub filling_start : RunFilling test g l₀ l₀ 0 (length g)
  unfolding tiles_of bit_set run table
  filling_start =
      let d = drop_of_length-le g {i = length g} (omega arith) in
      record { set_is = ap (tiles_of test) (sym d); list-is = ap (λ k. sets l₀ (length g) (per_node test k)) (sym d) }

  filling_next : {l : List ℕ} {s i : ℕ} → RunFilling test g l₀ l s (suc i) → (x : ℕ) → i < length g
      → x ≡ marked (carry s (node g i)) (tile kbwg (node g i)) (test (node g i)) → RunFilling test g l₀ (set l i x) x i
  unfolding table
  filling_next {l} {s} {i} f x h e =
      let v = node g i in
      let d = drop-cons g i 0 h in
      let is : x ≡ tiles_of test (v ∷ drop (suc i) g) =
      e ∙ ap (λ k. marked (carry k v) (tile kbwg v) (test v)) f.set_is ∙ sym (tiles-step test v (drop (suc i) g)) in
      record {
        set_is = is ∙ ap (tiles_of test) (sym d);
        list-is = ap (λ k. set k i x) f.list-is ∙ sets-apart (per_node test (drop (suc i) g)) l₀ (suc i) i x (inl (omega arith))
            ∙ ap (λ k. sets (set l₀ i k) (suc i) (per_node test (drop (suc i) g))) is ∙ ap (λ k. sets l₀ i (per_node test k)) (sym d);
      }

  pub filling_step : {l : List ℕ} {s i : ℕ} → RunFilling test g l₀ l s i → (x : ℕ) → 0 < i → i ≤ length g
      → x ≡ marked (carry s (node g (i - 1))) (tile kbwg (node g (i - 1))) (test (node g (i - 1))) → RunFilling test g l₀ (set l (i - 1) x) x (i - 1)
  filling_step {l} {s} {i} f x p h e =
      let o : i ≡ suc (i - 1) = omega arith in filling_next (rw o at f) x (omega arith) e

  pub filling_done : {l : List ℕ} {s i : ℕ} → RunFilling test g l₀ l s i → i ≤ 0 → length g ≤ length l₀ → l ≡ bits_written test g l₀
  unfolding bits_written
  filling_done {l} {s} {i} f z h =
      let e = table-length (length g) (λ p. tiles_of test (drop p g)) in
      let o : i ≡ 0 = omega arith in
      rw o at f.list-is ∙ sets-front l₀ (per_node test g) (omega arith) ∙ ap (λ n. per_node test g ++ drop n l₀) e
