-- Values written one after the other into a list (`sets` of the toolchain's library).
use Rattle.std.specs.Prelude.{◌≡◌, refl, ◌⊎◌, List, [], ◌∷◌, ◌++◌, ℕ, suc, ◌+◌, ◌≤◌, ◌<◌, length, get_or, set, drop}
use Rattle.std.proofs.Common.{ap, ◌∙◌, inl, inr, add-zero, add-suc, suc-add, add-one, arith, drop_of_length-le, drop-cons}
use Rattle.std.proofs.lemmas.List.Edits.{sets, sets-eq}
use Rattle.std.proofs.lemmas.List.{set_comm}

pub sets_append : (l : List ℕ) (i : ℕ) (xs ys : List ℕ) → sets l i (xs ++ ys) ≡ sets (sets l i xs) (i + length xs) ys
sets_append l i [] ys = rw add-zero
sets_append l i (x ∷ xs) ys = rw (add-suc, ← suc-add) (sets_append (set l i x) (suc i) xs ys)

-- one value more of those left
pub sets-next : (l xs : List ℕ) (at i : ℕ) → i < length xs
    → sets l (at + i) (drop i xs) ≡ sets (set l (at + i) (get_or xs i 0)) (at + (i + 1)) (drop (i + 1) xs)
sets-next l xs at i h =
    let e : at + (i + 1) ≡ suc (at + i) = omega arith in
    rw (drop-cons xs i 0 h, e, add-one)

pub sets-done : (l xs : List ℕ) (at i : ℕ) → length xs ≤ i → sets l at (drop i xs) ≡ l
sets-done l xs at i h = rw (drop_of_length-le xs h)

-- an entry apart from those that are written: before them, or after them
pub sets-apart : (vs l : List ℕ) (i j a : ℕ) → (j < i) ⊎ (i + length vs ≤ j) → set (sets l i vs) j a ≡ sets (set l j a) i vs
sets-apart [] l i j a h = refl
sets-apart (v ∷ vs) l i j a (inl h) =
    sets-apart vs (set l i v) (suc i) j a (inl (omega arith)) ∙ ap (λ (m : List ℕ). sets m (suc i) vs) (set_comm l i j v a (λ e. omega arith))
sets-apart (v ∷ vs) l i j a (inr h) =
    sets-apart vs (set l i v) (suc i) j a (inr (omega arith)) ∙ ap (λ (m : List ℕ). sets m (suc i) vs) (set_comm l i j v a (λ e. omega arith))

-- values written from the front
pub sets-front : (l xs : List ℕ) → length xs ≤ length l → sets l 0 xs ≡ xs ++ drop (length xs) l
sets-front l xs h =
    let e : 0 + length xs ≡ length xs = omega arith in
    sets-eq xs l 0 (omega arith) ∙ ap (λ (n : ℕ). xs ++ drop n l) e
