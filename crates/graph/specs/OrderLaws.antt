-- The order of words: what a word above another begins with, and that words each above the one before ascend.
use Rattle.std.specs.Prelude.{◌≡◌, refl, ◌⊎◌, List, [], ◌∷◌, ◌++◌, map, ℕ, ◌<◌}
use Rattle.std.proofs.Common.{subst, ◌∙◌, inl, inr, ⊎_elim, arith}
use Rattle.laws.specs.Lists.{All, all-front, all_weaken}
use Rattle.graph.specs.Words.{Word}
use Rattle.graph.specs.Order.{◌≺◌, prefix, lower, later, Ascending}

pub not-≺-empty : {u v : Word} → u ≺ v → v ≡ [] → ⊥
not-≺-empty prefix e = let z : ◌≡◌ {A = ℕ} 0 1 = cc in omega arith
not-≺-empty (lower h) e = let z : ◌≡◌ {A = ℕ} 0 1 = cc in omega arith
not-≺-empty (later h) e = let z : ◌≡◌ {A = ℕ} 0 1 = cc in omega arith

≺-parts : {u v : Word} → u ≺ v → (a b : ℕ) (x y : Word) → u ≡ a ∷ x → v ≡ b ∷ y → (a < b) ⊎ ((a ≡ b) × (x ≺ y))
≺-parts prefix a b x y e f = absurd (let z : ◌≡◌ {A = ℕ} 0 1 = cc in omega arith)
≺-parts (lower {a = c} {b = d} h) a b x y e f = let i : c ≡ a = cc in let j : d ≡ b = cc in let k : a < b = omega arith in inl k
≺-parts (later {a = c} {u = p} {v = q} h) a b x y e f =
    let i : a ≡ b = cc in
    let j : p ≡ x = cc in
    let k : q ≡ y = cc in
    inr (i, subst (λ z. z ≺ y) j (subst (λ z. p ≺ z) k h))

pub ≺-cons : {a b : ℕ} {x y : Word} → (a ∷ x) ≺ (b ∷ y) → (a < b) ⊎ ((a ≡ b) × (x ≺ y))
≺-cons {a} {b} {x} {y} h = ≺-parts h a b x y refl refl

≺-trans : (u v w : Word) → u ≺ v → v ≺ w → u ≺ w
≺-trans u v [] h k = absurd (not-≺-empty k refl)
≺-trans [] v (c ∷ w) h k = prefix
≺-trans (a ∷ u) [] (c ∷ w) h k = absurd (not-≺-empty h refl)
≺-trans (a ∷ u) (b ∷ v) (c ∷ w) h k =
    ⊎_elim
    (λ (l : a < b). ⊎_elim
    (λ (m : b < c). let n : a < c = omega arith in lower n)
    (λ (m : (b ≡ c) × (v ≺ w)). let e = m.0 in let n : a < c = omega arith in lower n)
    (≺-cons k))
    (λ (l : (a ≡ b) × (u ≺ v)). ⊎_elim
    (λ (m : b < c). let e = l.0 in let n : a < c = omega arith in lower n)
    (λ (m : (b ≡ c) × (v ≺ w)). subst (λ z. (a ∷ u) ≺ (z ∷ w)) (l.0 ∙ m.0) (later (≺-trans u v w l.1 m.1)))
    (≺-cons k))
    (≺-cons h)

-- ---- each word above the one before
abbrev pub EachAbove : Word → List Word → Type 0
EachAbove before [] = Unit
EachAbove before (w ∷ ws) = (before ≺ w) × EachAbove w ws

all_above : (w : Word) (ws : List Word) → EachAbove w ws → All (w ≺◌) ws
all_above w [] c = tt
all_above w (v ∷ ws) c = (c.0, all_weaken (v ≺◌) (w ≺◌) (λ x h. ≺-trans w v x c.0 h) ws (all_above v ws c.1))

pub each-ascending : (w : Word) (ws : List Word) → EachAbove w ws → Ascending ws
each-ascending w [] c = tt
each-ascending w (v ∷ ws) c = (all_above v ws c.1, each-ascending v ws c.1)

pub ascending-each : (w : Word) (ws : List Word) → All (w ≺◌) ws → Ascending ws → EachAbove w ws
ascending-each w [] h a = tt
ascending-each w (v ∷ ws) h a = (h.0, ascending-each v ws a.0 a.1)

-- ---- a part of words that ascend
pub ascending-left : (xs ys : List Word) → Ascending (xs ++ ys) → Ascending xs
ascending-left [] ys a = tt
ascending-left (x ∷ xs) ys a = (all-front (x ≺◌) xs ys a.0, ascending-left xs ys a.1)

pub ascending-right : (xs ys : List Word) → Ascending (xs ++ ys) → Ascending ys
ascending-right [] ys a = a
ascending-right (x ∷ xs) ys a = ascending-right xs ys a.1

-- ---- what follows one tile
≺-under : {t : ℕ} {u x : Word} → (t ∷ u) ≺ (t ∷ x) → u ≺ x
≺-under {t} {u} {x} h = ⊎_elim (λ (l : t < t). absurd (omega arith)) (λ (l : (t ≡ t) × (u ≺ x)). l.1) (≺-cons h)

all-≺-under : (t : ℕ) (u : Word) (us : List Word) → All ((t ∷ u) ≺◌) (map (t ∷◌) us) → All (u ≺◌) us
all-≺-under t u [] h = tt
all-≺-under t u (v ∷ us) h = (≺-under h.0, all-≺-under t u us h.1)

pub ascending-under : (t : ℕ) (us : List Word) → Ascending (map (t ∷◌) us) → Ascending us
ascending-under t [] a = tt
ascending-under t (u ∷ us) a = (all-≺-under t u us a.0, ascending-under t us a.1)
