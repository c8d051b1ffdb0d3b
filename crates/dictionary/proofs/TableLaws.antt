-- A table of the values of f below k: one value more, what is not in it, and the place of each.
use mathlib.Core.Path.{◌≡◌, refl, sym, ap}
use mathlib.Core.Bool.{true, false}
use mathlib.Core.Logic.{◌≢◌}
use mathlib.Core.List.{[], ◌∷◌, ◌++◌}
use Prim.Native.Nat.{ℕ, zero, suc, ◌<◌}
use native.Mathlib.Omega.{arith}
use borrow.Author.Tests.{eq-eqb, ne_eqb}
use Rattle.laws.specs.Cases.{split}
use Rattle.laws.specs.Firsts.{place_in, firsts}
use Rattle.laws.specs.Lists.{member}
use Rattle.laws.specs.Members.{member_mem, mem_member}
use Rattle.laws.specs.Tables.{table, table_in, from-table}

pub table_more : (k : ℕ) (f : ℕ → ℕ) → table (suc k) f ≡ table k f ++ f k ∷ []
unfolding table
table_more zero f = refl
table_more (suc k) f = ap (f 0 ∷◌) (table_more k (λ i. f (suc i)))

not_in_table : (k : ℕ) (f : ℕ → ℕ) (x : ℕ) → ((i : ℕ) → i < k → f i ≢ x) → member x (table k f) ≡ false
not_in_table k f x h =
    split (member x (table k f))
    (λ t. let r = from-table k f x (member_mem x (table k f) t) in absurd (h r.0 r.1 (sym r.2)))
    (λ t. t)

-- where no number stands twice, each is at its place
pub place_in_table : (k : ℕ) (f : ℕ → ℕ) → ((i j : ℕ) → i < k → j < k → f i ≡ f j → i ≡ j)
    → (i : ℕ) → i < k → place_in (table k f) (f i) ≡ i
unfolding table
place_in_table zero f once i h = absurd (omega arith)
place_in_table (suc k) f once zero h = rw (eq-eqb (f 0) (f 0) refl, place_in)
place_in_table (suc k) f once (suc i) h =
    let n : f (suc i) ≢ f 0 = λ e. let z = once (suc i) 0 h (omega arith) e in omega arith in
    rw (ne_eqb (f (suc i)) (f 0) n, place_in) (ap suc (place_in_table k (λ a. f (suc a))
    (λ a b l m e. let z = once (suc a) (suc b) (omega arith) (omega arith) e in omega arith) i (omega arith)))

-- ---- first appearances after those of a table
module _ (k : ℕ) (f : ℕ → ℕ) (x : ℕ) where
  pub firsts-old : (i : ℕ) → i < k → f i ≡ x → table k f ≡ firsts (table k f) (x ∷ [])
  firsts-old i h e = let m : member x (table k f) ≡ true = rw e at (mem_member (f i) (table k f) (table_in k f i h)) in rw (m, firsts)

  pub firsts-new : ((i : ℕ) → i < k → f i ≢ x) → table k f ++ x ∷ [] ≡ firsts (table k f) (x ∷ [])
  firsts-new h = rw (not_in_table k f x h, firsts)
