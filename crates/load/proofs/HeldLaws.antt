-- The held bytes h, of which n are used, before a piece p.
use mathlib.Core.Path.{◌≡◌, refl, ap, ◌∙◌}
use mathlib.Core.Bool.{true}
use mathlib.Core.List.{List, [], ◌∷◌, ◌++◌}
use Prim.Native.Nat.{ℕ, zero, suc, ◌+◌, ◌-◌, ◌≤◌, ◌<◌}
use native.Mathlib.Omega.{arith}
use native.Mathlib.Nat.{zero-add}
use borrow.Author.Tests.{eqb-true}
use lib.Dec.{eqb}
use lib.ListN.{length, get_or, take, drop, length-append, get_or-append}
use lib.Seq.{sets, drop-append-add, length-take-le, get_or-append-add, get_or-take}
use Rattle.laws.specs.Cases.{and_left, and_right}
use Rattle.laws.specs.ListWrites.{sets_append}
use Rattle.load.specs.Loading.{places, zeros}

first-zero : (x : ℕ) (xs : List ℕ) → zeros (x ∷ xs) ≡ true → x ≡ 0
unfolding zeros
first-zero x xs e = eqb-true x 0 (and_left (eqb x 0) (zeros xs) e)

rest-zeros : (x : ℕ) (xs : List ℕ) → zeros (x ∷ xs) ≡ true → zeros xs ≡ true
unfolding zeros
rest-zeros x xs e = and_right (eqb x 0) (zeros xs) e

held-places : (h : List ℕ) (n : ℕ) → length h ≡ 3 → n ≤ 3 → zeros (drop n h) ≡ true → places (take n h) ≡ h
held-places [] n l m e = absurd (omega arith)
held-places (a ∷ []) n l m e = absurd (omega arith)
held-places (a ∷ b ∷ []) n l m e = absurd (omega arith)
held-places (a ∷ b ∷ c ∷ d ∷ r) n l m e = absurd (omega arith)
held-places (a ∷ b ∷ c ∷ []) zero l m e =
    let f = rest-zeros a _ e in
    let g = rest-zeros b _ f in
    cc (first-zero a _ e, first-zero b _ f, first-zero c _ g)
held-places (a ∷ b ∷ c ∷ []) (suc zero) l m e = cc (first-zero b _ e, first-zero c _ (rest-zeros b _ e))
held-places (a ∷ b ∷ c ∷ []) (suc (suc zero)) l m e = cc (first-zero c _ e)
held-places (a ∷ b ∷ c ∷ []) (suc (suc (suc zero))) l m e = refl
held-places (a ∷ b ∷ c ∷ []) (suc (suc (suc (suc n)))) l m e = absurd (omega arith)

module _ (h : List ℕ) (n : ℕ) (p : List ℕ) (l : length h ≡ 3) (m : n ≤ 3) where
  used : length (take n h) ≡ n
  used = length-take-le n h (omega arith)

  pub held-then-length : length (take n h ++ p) ≡ n + length p
  held-then-length = length-append (take n h) p ∙ ap (λ k. k + length p) used

  pub held-then-held : (j : ℕ) → j < n → get_or (take n h ++ p) j 0 ≡ get_or h j 0
  held-then-held j q = get_or-append (take n h) p 0 j (rw used q) ∙ get_or-take n h j 0 q

  pub held-then-piece : (j : ℕ) → get_or (take n h ++ p) (n + j) 0 ≡ get_or p j 0
  held-then-piece j = rw used at (get_or-append-add (take n h) p j 0)

  pub held-then-rest : drop 4 (take n h ++ p) ≡ drop (4 - n) p
  held-then-rest =
      let e : n + (4 - n) ≡ 4 = omega arith in
      let d : drop (n + (4 - n)) (take n h ++ p) ≡ drop (4 - n) p = rw used at (drop-append-add (take n h) p (4 - n)) in
      rw e at d

  pub held-then-places : zeros (drop n h) ≡ true → places (take n h ++ p) ≡ sets h n p
  held-then-places e =
      sets_append (0 ∷ 0 ∷ 0 ∷ []) 0 (take n h) p
      ∙ ap (λ k. sets (places (take n h)) k p) (zero-add (length (take n h)) ∙ used)
      ∙ ap (λ z. sets z n p) (held-places h n l m e)
