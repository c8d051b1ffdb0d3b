-- The nodes at places from i on are done, one after the other.
use mathlib.Core.Path.{◌≡◌, refl, sym, ap, ◌∙◌, subst, fun_ext}
use mathlib.Core.Logic.{◌≢◌, inl, inr, ⊎_elim}
use mathlib.Core.List.{List}
use Prim.Native.Nat.{ℕ, ◌+◌, ◌≤◌, ◌<◌}
use native.Mathlib.Omega.{arith}
use lib.ListN.{length, get_or, set}
use lib.Seq.{get_or-set_same, get_or-set_other, get_or-drop}
use Rattle.laws.specs.Cases.{same?}
use Rattle.graph.specs.Lent.{Kept, kept-all, kept_then, kept_set}
use Rattle.loops.specs.NodeMarks.{mark, done, stacked, resized}
use Rattle.loops.specs.Search.{Released}

-- marks are written and the stack stays
pub same-stacked : {n : ℕ} {w w' : List ℕ} → Kept n w w' → stacked n w ≡ stacked n w'
same-stacked {n} {w} {w'} k =
    fun_ext (λ j. sym (get_or-drop n w j 0) ∙ ap (λ l. get_or l j 0) (sym k.rest) ∙ get_or-drop n w' j 0)

pub release-none : (n : ℕ) (w : List ℕ) (i : ℕ) → Released n w i i w
release-none n w i = record { kept = kept-all n w; all = λ k a b. absurd (omega arith); others = λ x. inl refl }

module _ (n : ℕ) (w : List ℕ) (i k : ℕ) (w' : List ℕ) (Q : Released n w i k w') where
  pub still-stacked : (j : ℕ) → stacked n w' j ≡ stacked n w j
  still-stacked j = ap (λ f. f j) (sym (same-stacked Q.kept))

  pub release-end : (j : ℕ) → k ≡ j → Released n w i j w'
  release-end j e = subst (λ m. Released n w i m w') e Q

  pub release-next : i ≤ k → stacked n w k < n → n ≤ length w → (x : ℕ) → x ≡ stacked n w k → Released n w i (k + 1) (set w' x done)
  release-next h node room x e =
      let l = Q.kept.size in
      let x< : x < length w' = omega arith in
      record {
        kept = kept_then Q.kept (kept_set n w' x done (omega arith));
        all = λ m a b. ⊎_elim
            (λ z. subst (λ y. mark (set w' x done) y ≡ done) (sym z) (get_or-set_same w' x done 0 x<))
            (λ z.
            let d : m ≢ k = λ y. z (ap (stacked n w) y ∙ sym e) in
            get_or-set_other w' x (stacked n w m) done 0 z ∙ Q.all m a (omega (arith, d)))
            (same? (stacked n w m) x);
        others = λ y. ⊎_elim
            (λ z. inr (record { place = k; within = omega arith; holds = sym e ∙ sym z }, h))
            (λ z. ⊎_elim
            (λ o. inl (get_or-set_other w' x y done 0 z ∙ o))
            (λ v. let b = v.0.within in inr (resized v.0 (omega arith), v.1))
            (Q.others y))
            (same? y x);
      }
