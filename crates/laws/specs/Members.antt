-- Membership in a list: in what passes a test of it, in its image, in lists joined; and tests that ask for a member.
use Rattle.std.specs.Prelude.{◌≡◌, refl, Bool, true, false, ℕ, zero, suc, ◌≤◌, ◌<◌, eqb, length, get_or, drop}
use Rattle.std.proofs.Common.{sym, ap, ap₂, ◌∙◌, true≢false, ⊎_elim, zero-le, arith, eqb-true}
use mathlib.Core.List.{List, [], ◌∷◌, ◌++◌, map, Memᴰ}
use mathlib.Core.List.Memᴰ
use Rattle.std.proofs.lemmas.Bool.{eqb-false}
use Rattle.laws.specs.Cases.{split}
use Rattle.laws.specs.Lists.{filtered, member, some_of, join_all}

pub member_mem : (x : ℕ) (l : List ℕ) → member x l ≡ true → Memᴰ x l
member_mem x [] e = absurd (true≢false (sym e))
member_mem x (y ∷ l) e =
    split (eqb x y)
    (λ t. Memᴰ.head (eqb-true x y t))
    (λ t. Memᴰ.tail (member_mem x l (rw t at e)))

pub not-member : (x : ℕ) (l : List ℕ) → member x l ≡ false → Memᴰ x l → ⊥
not-member x [] e m = Memᴰ.not-nil m
not-member x (y ∷ l) e m =
    split (eqb x y)
    (λ t. true≢false (rw t at e))
    (λ t. ⊎_elim (λ i. eqb-false x y t i) (λ k. not-member x l (rw t at e) k) (Memᴰ.cases_cons m))

pub mem_member : (x : ℕ) (l : List ℕ) → Memᴰ x l → member x l ≡ true
mem_member x l m = split (member x l) (λ e. e) (λ e. absurd (not-member x l e m))

pub at_in : {A : Type 0} (l : List A) (i : ℕ) (z : A) → i < length l → Memᴰ (get_or l i z) l
at_in [] i z h = absurd (omega arith)
at_in (x ∷ l) zero z h = Memᴰ.head refl
at_in (x ∷ l) (suc i) z h = Memᴰ.tail (at_in l i z (omega arith))

pub mem_at : {A : Type 0} (l : List A) (x z : A) → Memᴰ x l → (i : ℕ) × (i < length l) × (get_or l i z ≡ x)
mem_at [] x z m = absurd (Memᴰ.not-nil m)
mem_at (y ∷ l) x z m =
    ⊎_elim
    (λ i. (0, omega arith, sym i))
    (λ k. let r = mem_at l x z k in let h = r.1 in (suc r.0, omega arith, r.2))
    (Memᴰ.cases_cons m)

pub in_drop : {A : Type 0} (x : A) (n : ℕ) (l : List A) → Memᴰ x (drop n l) → Memᴰ x l
in_drop x zero l m = m
in_drop x (suc n) [] m = m
in_drop x (suc n) (y ∷ l) m = Memᴰ.tail (in_drop x n l m)

pub map_same : {A B : Type 0} (f h : A → B) (l : List A) → ((x : A) → Memᴰ x l → f x ≡ h x) → map f l ≡ map h l
map_same f h [] e = refl
map_same f h (x ∷ l) e = ap₂ ◌∷◌ (e x (Memᴰ.head refl)) (map_same f h l (λ y m. e y (Memᴰ.tail m)))

module _ {A B : Type 0} (f : A → B) where
  pub in_map : (l : List A) (y : B) → Memᴰ y (map f l) → (x : A) × Memᴰ x l × (y ≡ f x)
  in_map [] y m = absurd (Memᴰ.not-nil m)
  in_map (x ∷ l) y m =
      ⊎_elim
      (λ i. (x, Memᴰ.head refl, i))
      (λ k. let r = in_map l y k in (r.0, Memᴰ.tail r.1, r.2))
      (Memᴰ.cases_cons m)

  pub map_in : (l : List A) (x : A) → Memᴰ x l → Memᴰ (f x) (map f l)
  map_in [] x m = absurd (Memᴰ.not-nil m)
  map_in (y ∷ l) x m = ⊎_elim (λ i. Memᴰ.head (ap f i)) (λ k. Memᴰ.tail (map_in l x k)) (Memᴰ.cases_cons m)

  pub get_or-map-in : (l : List A) (n : ℕ) (d : A) (e : B) → n < length l → get_or (map f l) n e ≡ f (get_or l n d)
  get_or-map-in [] n d e h = absurd (omega arith)
  get_or-map-in (x ∷ l) zero d e h = refl
  get_or-map-in (x ∷ l) (suc n) d e h = get_or-map-in l n d e (omega arith)

module _ {A : Type 0} (f : A → Bool) where
  pub in_filtered : (l : List A) (x : A) → Memᴰ x (filtered f l) → Memᴰ x l × (f x ≡ true)
  in_filtered [] x m = absurd (Memᴰ.not-nil m)
  in_filtered (a ∷ l) x m =
      split (f a)
      (λ t. ⊎_elim
      (λ i. (Memᴰ.head i, ap f i ∙ t))
      (λ k. let r = in_filtered l x k in (Memᴰ.tail r.0, r.1))
      (Memᴰ.cases_cons (rw (t, filtered) at m)))
      (λ t. let r = in_filtered l x (rw (t, filtered) at m) in (Memᴰ.tail r.0, r.1))

  pub filtered_in : (l : List A) (x : A) → Memᴰ x l → f x ≡ true → Memᴰ x (filtered f l)
  filtered_in [] x m e = absurd (Memᴰ.not-nil m)
  filtered_in (a ∷ l) x m e =
      split (f a)
      (λ t. rw (t, filtered) (⊎_elim (λ i. Memᴰ.head i) (λ k. Memᴰ.tail (filtered_in l x k e)) (Memᴰ.cases_cons m)))
      (λ t. rw (t, filtered) (⊎_elim (λ i. absurd (true≢false (sym e ∙ ap f i ∙ t))) (λ k. filtered_in l x k e) (Memᴰ.cases_cons m)))

  pub filtered-length : (l : List A) → length (filtered f l) ≤ length l
  filtered-length [] = zero-le
  filtered-length (x ∷ l) =
      let h = filtered-length l in
      split (f x) (λ t. rw (t, filtered) (omega arith)) (λ t. rw (t, filtered) (omega arith))

  pub filtered_append : (l m : List A) → filtered f (l ++ m) ≡ filtered f l ++ filtered f m
  filtered_append [] m = refl
  filtered_append (x ∷ l) m =
      split (f x)
      (λ t. rw (t, filtered) (ap (x ∷◌) (filtered_append l m)))
      (λ t. rw (t, filtered) (filtered_append l m))

  pub some_of_lem : (l : List A) → some_of f l ≡ true → (x : A) × Memᴰ x l × (f x ≡ true)
  some_of_lem [] e = absurd (true≢false (sym e))
  some_of_lem (a ∷ l) e =
      split (f a)
      (λ t. (a, Memᴰ.head refl, t))
      (λ t. let r = some_of_lem l (rw t at e) in (r.0, Memᴰ.tail r.1, r.2))

  pub of_some : (l : List A) (x : A) → Memᴰ x l → f x ≡ true → some_of f l ≡ true
  of_some [] x m e = absurd (Memᴰ.not-nil m)
  of_some (a ∷ l) x m e =
      split (f a)
      (λ t. rw t)
      (λ t. rw t (⊎_elim (λ i. absurd (true≢false (sym e ∙ ap f i ∙ t))) (λ k. of_some l x k e) (Memᴰ.cases_cons m)))

  pub none_of : (l : List A) → some_of f l ≡ false → (x : A) → Memᴰ x l → f x ≡ false
  none_of l e x m = split (f x) (λ t. absurd (true≢false (sym (of_some l x m t) ∙ e))) (λ t. t)

  pub all_fail : (l : List A) → ((x : A) → Memᴰ x l → f x ≡ false) → some_of f l ≡ false
  all_fail l h = split (some_of f l) (λ t. let r = some_of_lem l t in absurd (true≢false (sym r.2 ∙ h r.0 r.1))) (λ t. t)

module _ {A B : Type 0} (f : A → List B) where
  pub in_join : (l : List A) (y : B) → Memᴰ y (join_all (map f l)) → (x : A) × Memᴰ x l × Memᴰ y (f x)
  in_join [] y m = absurd (Memᴰ.not-nil m)
  in_join (x ∷ l) y m =
      ⊎_elim
      (λ i. (x, Memᴰ.head refl, i))
      (λ k. let r = in_join l y k in (r.0, Memᴰ.tail r.1, r.2))
      (Memᴰ.append_cases (f x) m)

  pub join_in : (l : List A) (x : A) (y : B) → Memᴰ x l → Memᴰ y (f x) → Memᴰ y (join_all (map f l))
  join_in [] x y m n = absurd (Memᴰ.not-nil m)
  join_in (z ∷ l) x y m n =
      ⊎_elim
      (λ i. Memᴰ.append_left (join_all (map f l)) (rw i at n))
      (λ k. Memᴰ.append_right (f z) (join_in l x y k n))
      (Memᴰ.cases_cons m)

module _ {A : Type 0} (f h : A → Bool) where
  -- tests that agree on the entries keep the same
  pub filtered-same : (l : List A) → ((x : A) → Memᴰ x l → f x ≡ h x) → filtered f l ≡ filtered h l
  filtered-same [] e = refl
  filtered-same (x ∷ l) e =
      let r = filtered-same l (λ y m. e y (Memᴰ.tail m)) in
      let here = e x (Memᴰ.head refl) in
      split (h x)
      (λ t. rw (here ∙ t, t, filtered) (ap (x ∷◌) r))
      (λ t. rw (here ∙ t, t, filtered) r)

-- a weaker test keeps more
module _ {A : Type 0} (f h : A → Bool) (weaker : (x : A) → f x ≡ true → h x ≡ true) where
  pub filtered_le : (l : List A) → length (filtered f l) ≤ length (filtered h l)
  filtered_le [] = zero-le
  filtered_le (a ∷ l) =
      let r = filtered_le l in
      split (f a)
      (λ t. rw (t, weaker a t, filtered) (omega arith))
      (λ t. split (h a) (λ u. rw (t, u, filtered) (omega arith)) (λ u. rw (t, u, filtered) (omega arith)))

  pub filtered-less : (l : List A) (x : A) → Memᴰ x l → f x ≡ false → h x ≡ true → length (filtered f l) < length (filtered h l)
  filtered-less [] x m n y = absurd (Memᴰ.not-nil m)
  filtered-less (a ∷ l) x m n y =
      let r = filtered_le l in
      ⊎_elim
      (λ i.
      let no : f a ≡ false = ap f (sym i) ∙ n in
      let yes : h a ≡ true = ap h (sym i) ∙ y in
      rw (no, yes, filtered) (omega arith))
      (λ k.
      let s = filtered-less l x k n y in
      split (f a)
      (λ t. rw (t, weaker a t, filtered) (omega arith))
      (λ t. split (h a) (λ u. rw (t, u, filtered) (omega arith)) (λ u. rw (t, u, filtered) (omega arith))))
      (Memᴰ.cases_cons m)
