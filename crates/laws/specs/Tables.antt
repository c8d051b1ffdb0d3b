-- A table of numbers: how long it is, what stands where, when two are the same, its members, and a list that begins with one.
use Rattle.std.specs.Prelude.{◌≡◌, refl, ℕ, zero, suc, ◌≤◌, ◌<◌, length, get_or, drop}
use Rattle.std.proofs.Common.{ap, ap₂, ⊎_elim, arith}
use mathlib.Core.List.Memᴰ
use mathlib.Core.List.{List, [], ◌∷◌, ◌++◌, Memᴰ}

-- f of each number below n, in order
unfoldable pub table : ℕ → (ℕ → ℕ) → List ℕ
table zero f = []
table (suc n) f = f zero ∷ table n (λ k. f (suc k))

pub table-length : (n : ℕ) (f : ℕ → ℕ) → length (table n f) ≡ n
unfolding table
table-length zero f = refl
table-length (suc n) f = ap suc (table-length n (λ k. f (suc k)))

pub table_at : (n : ℕ) (f : ℕ → ℕ) (i : ℕ) → i < n → get_or (table n f) i 0 ≡ f i
unfolding table
table_at zero f i h = absurd (omega arith)
table_at (suc n) f zero h = refl
table_at (suc n) f (suc i) h = table_at n (λ k. f (suc k)) i (omega arith)

pub table_same : (n : ℕ) (f g : ℕ → ℕ) → ((i : ℕ) → i < n → f i ≡ g i) → table n f ≡ table n g
unfolding table
table_same zero f g e = refl
table_same (suc n) f g e = ap₂ ◌∷◌ (e 0 (omega arith)) (table_same n (λ k. f (suc k)) (λ k. g (suc k)) (λ i h. e (suc i) (omega arith)))

pub table_in : (n : ℕ) (f : ℕ → ℕ) (i : ℕ) → i < n → Memᴰ (f i) (table n f)
unfolding table
table_in zero f i h = absurd (omega arith)
table_in (suc n) f zero h = Memᴰ.head refl
table_in (suc n) f (suc i) h = Memᴰ.tail (table_in n (λ k. f (suc k)) i (omega arith))

pub from-table : (n : ℕ) (f : ℕ → ℕ) (x : ℕ) → Memᴰ x (table n f) → (i : ℕ) × (i < n) × (x ≡ f i)
unfolding table
from-table zero f x m = absurd (Memᴰ.not-nil m)
from-table (suc n) f x m =
    ⊎_elim
    (λ e. (0, omega arith, e))
    (λ k. let r = from-table n (λ j. f (suc j)) x k in let h = r.1 in (suc r.0, omega arith, r.2))
    (Memᴰ.cases_cons m)

-- a list whose first numbers are those of a table
pub begins-with-table : (n : ℕ) (f : ℕ → ℕ) (l : List ℕ) → n ≤ length l → ((p : ℕ) → p < n → get_or l p 0 ≡ f p) → l ≡ table n f ++ drop n l
unfolding table
begins-with-table zero f l h e = refl
begins-with-table (suc n) f [] h e = absurd (omega arith)
begins-with-table (suc n) f (x ∷ l) h e =
    ap₂ ◌∷◌ (e 0 (omega arith)) (begins-with-table n (λ k. f (suc k)) l (omega arith) (λ p b. e (suc p) (omega arith)))
