-- What holds of every entry of a list, the entries that pass a test, whether a number is among them, and lists joined and in part.
use Rattle.std.specs.List.{list_any}
use Rattle.std.specs.Prelude.{◌≡◌, refl, Bool, true, false, not, ℕ, zero, suc, eqb, length, take, drop}
use Rattle.std.proofs.Common.{sym, ap, ◌∙◌, subst, ⊎_elim, arith}
use mathlib.Core.List.Memᴰ
use mathlib.Core.List.{List, [], ◌∷◌, ◌++◌, map, map-append, append_assoc, Memᴰ}

abbrev pub All {ℓ κ} : {A : Type ℓ} → (A → Type κ) → List A → Type κ
All P [] = Unit
All P (x ∷ xs) = P x × All P xs

pub all_append {ℓ κ} : {A : Type ℓ} (P : A → Type κ) (xs ys : List A) → All P xs → All P ys → All P (xs ++ ys)
all_append P [] ys h k = k
all_append P (x ∷ xs) ys h k = (h.0, all_append P xs ys h.1 k)

pub all-front {ℓ κ} : {A : Type ℓ} (P : A → Type κ) (xs ys : List A) → All P (xs ++ ys) → All P xs
all-front P [] ys h = tt
all-front P (x ∷ xs) ys h = (h.0, all-front P xs ys h.1)

pub all_weaken {ℓ κ μ} : {A : Type ℓ} (P : A → Type κ) (Q : A → Type μ) → ((x : A) → P x → Q x) → (xs : List A) → All P xs → All Q xs
all_weaken P Q f [] h = tt
all_weaken P Q f (x ∷ xs) h = (f x h.0, all_weaken P Q f xs h.1)

pub all_mem {ℓ κ} : {A : Type ℓ} (P : A → Type κ) (xs : List A) (x : A) → All P xs → Memᴰ x xs → P x
all_mem P [] x a m = absurd (Memᴰ.not-nil m)
all_mem P (y ∷ xs) x a m = ⊎_elim (λ i. subst P (sym i) a.0) (λ k. all_mem P xs x a.1 k) (Memᴰ.cases_cons m)

pub all_members {ℓ κ} : {A : Type ℓ} (P : A → Type κ) (xs : List A) → ((x : A) → Memᴰ x xs → P x) → All P xs
all_members P [] h = tt
all_members P (x ∷ xs) h = (h x (Memᴰ.head refl), all_members P xs (λ y m. h y (Memᴰ.tail m)))

-- whether a list has no entries, or some
abbrev pub is_empty : {A : Type 0} → List A → Bool
is_empty [] = true
is_empty (x ∷ xs) = false

abbrev pub has_entries : {A : Type 0} → List A → Bool
has_entries xs = not (is_empty xs)

pub split-empty {ℓ} : {A : Type 0} {C : Type ℓ} (xs : List A) → (xs ≡ [] → C) → (has_entries xs ≡ true → C) → C
split-empty [] none some = none refl
split-empty (x ∷ xs) none some = some refl

abbrev pub filtered : {A : Type 0} → (A → Bool) → List A → List A
filtered f [] = []
filtered f (x ∷ xs) = elim (f x) [ true ↦ x ∷ filtered f xs | false ↦ filtered f xs ]

-- whether some entry passes
abbrev pub some_of : {A : Type 0} → (A → Bool) → List A → Bool
some_of f xs = list_any f xs

abbrev pub member : ℕ → List ℕ → Bool
member x l = some_of (eqb x) l

-- the lists one after the other
abbrev pub join_all : {A : Type 0} → List (List A) → List A
join_all [] = []
join_all (x ∷ xs) = x ++ join_all xs

pub join_append : {A : Type 0} (xs ys : List (List A)) → join_all (xs ++ ys) ≡ join_all xs ++ join_all ys
join_append [] ys = refl
join_append (x ∷ xs) ys = ap (x ++◌) (join_append xs ys) ∙ sym (append_assoc x (join_all xs) (join_all ys))

pub join_map_append : {A B : Type 0} (f : A → List B) (xs ys : List A) → join_all (map f (xs ++ ys)) ≡ join_all (map f xs) ++ join_all (map f ys)
join_map_append f xs ys = ap join_all (map-append f xs ys) ∙ join_append (map f xs) (map f ys)

pub none_left : {A : Type 0} (l : List A) → length l ≡ 0 → l ≡ []
none_left [] e = refl
none_left (x ∷ l) e = absurd (omega arith)

pub drop-map : {A B : Type 0} (f : A → B) (n : ℕ) (l : List A) → drop n (map f l) ≡ map f (drop n l)
drop-map f zero l = refl
drop-map f (suc n) [] = refl
drop-map f (suc n) (x ∷ l) = drop-map f n l

pub take-map : {A B : Type 0} (f : A → B) (n : ℕ) (l : List A) → take n (map f l) ≡ map f (take n l)
take-map f zero l = refl
take-map f (suc n) [] = refl
take-map f (suc n) (x ∷ l) = ap (f x ∷◌) (take-map f n l)
