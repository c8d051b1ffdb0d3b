-- A list with no repeats: what keeps it so, and that two of them with the same entries are equally long.
use Rattle.std.specs.Prelude.{◌≡◌, refl, Bool, ◌≢◌, ◌↔◌, suc, ◌≤◌, length}
use Rattle.std.proofs.Common.{sym, ap, ◌∙◌, zero-le, arith}
use Rattle.std.proofs.Math.Logic.{⊎_elim}
use mathlib.Core.List.{List, [], ◌∷◌, ◌++◌, map, Memᴰ}
use mathlib.Core.List.Memᴰ
use Rattle.laws.specs.Cases.{split}
use Rattle.laws.specs.Lists.{filtered}
use Rattle.laws.specs.Members.{in_map, map_in, in_filtered}
use Rattle.laws.specs.Sorting.{inserted, inserted_all, sorted, insert-from}

-- no entry is among those after it
abbrev pub NoRepeats : {A : Type 0} → List A → Type 0
NoRepeats [] = Unit
NoRepeats (x ∷ xs) = (Memᴰ x xs → ⊥) × NoRepeats xs

-- ---- what keeps a list so
module _ {A : Type 0} where
  pub no_repeats_append : (xs ys : List A) → NoRepeats xs → NoRepeats ys → ((x : A) → Memᴰ x xs → Memᴰ x ys → ⊥)
      → NoRepeats (xs ++ ys)
  no_repeats_append [] ys a b apart = b
  no_repeats_append (x ∷ xs) ys a b apart = (
    (λ m. ⊎_elim (λ i. a.0 i) (λ k. apart x (Memᴰ.head refl) k) (Memᴰ.append_cases xs m)),
    no_repeats_append xs ys a.1 b (λ z m n. apart z (Memᴰ.tail m) n),
  )

  pub no_repeats_filtered : (f : A → Bool) (l : List A) → NoRepeats l → NoRepeats (filtered f l)
  no_repeats_filtered f [] a = tt
  no_repeats_filtered f (x ∷ l) a =
      split (f x)
      (λ t. rw (t, filtered) ((λ m. a.0 (in_filtered f l x m).0), no_repeats_filtered f l a.1))
      (λ t. rw (t, filtered) (no_repeats_filtered f l a.1))

module _ {A B : Type 0} (f : A → B) where
  pub no_repeats_map : (l : List A) → ((x y : A) → Memᴰ x l → Memᴰ y l → f x ≡ f y → x ≡ y) → NoRepeats l → NoRepeats (map f l)
  no_repeats_map [] apart a = tt
  no_repeats_map (x ∷ l) apart a = (
    (λ m.
        let r = in_map f l (f x) m in
        a.0 (Memᴰ.cast (apart x r.0 (Memᴰ.head refl) (Memᴰ.tail r.1) r.2) r.1)),
    no_repeats_map l (λ y z m n. apart y z (Memᴰ.tail m) (Memᴰ.tail n)) a.1,
  )

  -- where an image has no repeats, its entries come from different ones
  pub map-no_repeats : (l : List A) → NoRepeats (map f l) → NoRepeats l
  map-no_repeats [] a = tt
  map-no_repeats (x ∷ l) a = ((λ m. a.0 (map_in f l x m)), map-no_repeats l a.1)

  pub map-apart : (l : List A) → NoRepeats (map f l) → (x y : A) → Memᴰ x l → Memᴰ y l → f x ≡ f y → x ≡ y
  map-apart [] a x y m n e = absurd (Memᴰ.not-nil m)
  map-apart (z ∷ l) a x y m n e =
      ⊎_elim
      (λ i. ⊎_elim
      (λ j. i ∙ sym j)
      (λ k. absurd (a.0 (Memᴰ.cast (ap f (sym i) ∙ e) (map_in f l y k))))
      (Memᴰ.cases_cons n))
      (λ h. ⊎_elim
      (λ j. absurd (a.0 (Memᴰ.cast (ap f (sym j) ∙ sym e) (map_in f l x h))))
      (λ k. map-apart l a.1 x y h k e)
      (Memᴰ.cases_cons n))
      (Memᴰ.cases_cons m)

module _ {A : Type 0} (precedes : A → A → Bool) where
  no_repeats_insert : (x : A) (ys : List A) → (Memᴰ x ys → ⊥) → NoRepeats ys → NoRepeats (inserted precedes x ys)
  no_repeats_insert x [] n a = ((λ m. Memᴰ.not-nil m), tt)
  no_repeats_insert x (y ∷ ys) n a =
      split (precedes x y)
      (λ e. rw (e, inserted) (n, a))
      (λ e. rw (e, inserted) (
        (λ m. ⊎_elim (λ i. n (Memᴰ.head (sym i))) (λ k. a.0 k) (insert-from precedes x y ys m)),
        no_repeats_insert x ys (λ m. n (Memᴰ.tail m)) a.1,
      ))

  no_repeats_inserted : (ys xs : List A) → NoRepeats ys → NoRepeats xs → ((z : A) → Memᴰ z xs → Memᴰ z ys → ⊥)
      → NoRepeats (inserted_all precedes ys xs)
  unfolding inserted_all
  no_repeats_inserted ys [] a b apart = a
  no_repeats_inserted ys (x ∷ xs) a b apart =
      no_repeats_inserted (inserted precedes x ys) xs (no_repeats_insert x ys (apart x (Memᴰ.head refl)) a) b.1
      (λ z m n. ⊎_elim (λ i. b.0 (Memᴰ.cast (sym i) m)) (λ k. apart z (Memᴰ.tail m) k) (insert-from precedes x z ys n))

  pub no_repeats_sorted : (xs : List A) → NoRepeats xs → NoRepeats (sorted precedes xs)
  no_repeats_sorted xs a = no_repeats_inserted [] xs tt a (λ z m n. Memᴰ.not-nil n)

-- ---- how long
module _ {A : Type 0} where
  -- the list without an entry of it
  without-entry : (x : A) (l : List A) → Memᴰ x l
      → (rest : List A) × (length l ≡ suc (length rest)) × ((y : A) → y ≢ x → Memᴰ y l → Memᴰ y rest)
  without-entry x [] m = absurd (Memᴰ.not-nil m)
  without-entry x (a ∷ l) m =
      ⊎_elim
      (λ i. (l, refl, λ y n k. ⊎_elim (λ j. absurd (n (j ∙ sym i))) (λ t. t) (Memᴰ.cases_cons k)))
      (λ t. let r = without-entry x l t in
      (a ∷ r.0, ap suc r.1, λ y n k. ⊎_elim (λ j. Memᴰ.head j) (λ u. Memᴰ.tail (r.2 y n u)) (Memᴰ.cases_cons k)))
      (Memᴰ.cases_cons m)

  no_longer : (l m : List A) → NoRepeats l → ((x : A) → Memᴰ x l → Memᴰ x m) → length l ≤ length m
  no_longer [] m a h = zero-le
  no_longer (x ∷ l) m a h =
      let r = without-entry x m (h x (Memᴰ.head refl)) in
      let k = no_longer l r.0 a.1 (λ y n. r.2 y (λ i. a.0 (Memᴰ.cast (sym i) n)) (h y (Memᴰ.tail n))) in
      let e = r.1 in
      omega arith

  pub same_length : (l m : List A) → NoRepeats l → NoRepeats m → ((x : A) → Memᴰ x l ↔ Memᴰ x m) → length l ≡ length m
  same_length l m a b h =
      let c = no_longer l m a (λ x. (h x).0) in
      let d = no_longer m l b (λ x. (h x).1) in
      omega arith
