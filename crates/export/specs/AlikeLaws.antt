-- Things that are met in some order are met in the same order under other names that tell them apart, and stand at the same places.
use Rattle.std.specs.Prelude.{◌≡◌, Bool, true, ◌||◌}
use Rattle.std.proofs.Math.Path.{refl}
use Rattle.std.proofs.Common.{sym, ap, ap₂, ◌∙◌, subst, ⊎_elim}
use mathlib.Core.List.{List, [], ◌∷◌, ◌++◌, map, map-append}
use mathlib.Core.List.Memᴰ
use mathlib.Core.List.{Memᴰ}
use Prim.Native.Nat.{ℕ, zero, suc, ◌+◌}
use Rattle.laws.specs.Cases.{split}
use Rattle.laws.specs.Lists.{some_of}
use Rattle.laws.specs.Same.{Exact}
use Rattle.laws.proofs.SameLaws.{exact-apart, apart-exact}
use Rattle.export.specs.Blocks.{each, met, block_at}
use Rattle.export.specs.BlocksLaws.{met_holds}

module _ {A B : Type 0} {same : A → A → Bool} (exact : Exact same) {same' : B → B → Bool} (exact' : Exact same') (S : A → Type 0) (f : A → B)
    (apart : (x y : A) → S x → S y → f x ≡ f y → x ≡ y) where
  same_name : (x y : A) → S x → S y → same' (f x) (f y) ≡ same x y
  same_name x y s t =
      split (same x y)
      (λ e. subst (λ z. same' (f x) z ≡ true) (ap f (exact.equal x y e)) (exact'.itself (f x)) ∙ sym e)
      (λ e. apart-exact exact' (f x) (f y) (λ i. exact-apart exact x y e (apart x y s t i)) ∙ sym e)

  abbrev AllIn : List A → Type 0
  AllIn l = (x : A) → Memᴰ x l → S x

  same_seen : (x : A) (l : List A) → S x → AllIn l → some_of (same' (f x)) (map f l) ≡ some_of (same x) l
  same_seen x [] s h = refl
  same_seen x (y ∷ l) s h = ap₂ ◌||◌ (same_name x y s (h y (Memᴰ.head refl))) (same_seen x l s (λ z m. h z (Memᴰ.tail m)))

  module _ (children : A → List A) (children' : B → List B) (stays : (p q : A) → S p → Memᴰ q (children p) → S q)
      (alike : (p : A) → S p → children' (f p) ≡ map f (children p)) where
    in_more : (seen : List A) (p : A) → AllIn seen → S p → AllIn (seen ++ p ∷ [])
    in_more seen p h s x m = ⊎_elim (λ i. h x i) (λ i. subst S (sym (Memᴰ.eq_of_singleton i)) s) (Memᴰ.append_cases seen m)

    met_in : (k : ℕ) (seen : List A) (p : A) → AllIn seen → S p → AllIn (met same children k seen p)
    met_in = met_holds exact children S stays AllIn (λ seen p h s e. in_more seen p h s)

    abbrev MetAlike : ℕ → Type 0
    MetAlike k = (seen : List A) (p : A) → AllIn seen → S p → met same' children' k (map f seen) (f p) ≡ map f (met same children k seen p)

    each-alike : (k : ℕ) → MetAlike k → (qs seen : List A) → AllIn seen → AllIn qs
        → each (met same' children' k) (map f seen) (map f qs) ≡ map f (each (met same children k) seen qs)
    each-alike k r [] seen h i = refl
    each-alike k r (q ∷ qs) seen h i =
        let s = i q (Memᴰ.head refl) in
        ap (λ l. each (met same' children' k) l (map f qs)) (r seen q h s)
        ∙ each-alike k r qs (met same children k seen q) (met_in k seen q h s) (λ x m. i x (Memᴰ.tail m))

    alike_from : (k : ℕ) → MetAlike k
    unfolding met
    alike_from zero seen p h s = refl
    alike_from (suc k) seen p h s =
        let e = same_seen p seen s h in
        split (some_of (same p) seen)
        (λ t. rw (t, met) (rw (e ∙ t, met)))
        (λ t. rw (t, met) (rw (e ∙ t, met)
        (ap₂ (each (met same' children' k)) (sym (map-append f seen (p ∷ []))) (alike p s)
        ∙ each-alike k (alike_from k) (children p) (seen ++ p ∷ []) (in_more seen p h s) (λ q m. stays p q s m))))

    pub met-alike : (k : ℕ) (p : A) → S p → met same' children' k [] (f p) ≡ map f (met same children k [] p)
    met-alike k p s = alike_from k [] p (λ x m. absurd (Memᴰ.not-nil m)) s

  -- and places
  module _ (size : A → ℕ) (size' : B → ℕ) (as_long : (x : A) → S x → size' (f x) ≡ size x) where
    pub places-alike : (l : List A) (at : ℕ) (p : A) → ((x : A) → Memᴰ x l → S x) → S p → block_at same' size' at (map f l) (f p) ≡ block_at same size at l p
    unfolding block_at
    places-alike [] at p h s = refl
    places-alike (q ∷ l) at p h s =
        let t = h q (Memᴰ.head refl) in
        let e = same_name p q s t in
        split (same p q)
        (λ x. rw (x, block_at) (rw (e ∙ x, block_at)))
        (λ x. rw (x, block_at) (rw (e ∙ x, block_at, as_long q t) (places-alike l (at + size q) p (λ z m. h z (Memᴰ.tail m)) s)))
