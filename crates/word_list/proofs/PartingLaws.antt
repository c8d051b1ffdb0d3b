-- Two words tile by tile.
use Rattle.std.proofs.Common.{◌≡◌, refl, ◌∙◌, [], ◌∷◌, ℕ, zero, suc, ◌≤◌, min, ap, Bool, eqb, length, take, arith}
use Rattle.std.specs.List.{prefix_len, zip}
use Rattle.std.proofs.lemmas.List.Folds.{length-prefix_len}
use Rattle.laws.specs.Cases.{split}
use Rattle.graph.specs.Words.{Word}
use Rattle.graph.specs.Order.{shared}

abbrev pub equal_pair : ℕ × ℕ → Bool
equal_pair p = eqb p.0 p.1

before_parting : (v w : Word) → prefix_len equal_pair (zip v w) ≡ shared v w
unfolding shared
before_parting [] w = refl
before_parting (t ∷ v) [] = refl
before_parting (t ∷ v) (s ∷ w) = split (eqb t s) (λ e. rw (e, shared) (let h = before_parting v w in omega arith)) (λ e. rw (e, shared))

-- what goes on past the end of either has no pair
cut_pairs : (v w : Word) (n : ℕ) → min (length v) (length w) ≤ n → zip (take n v) (take n w) ≡ zip v w
cut_pairs [] w zero h = refl
cut_pairs (t ∷ v) [] zero h = refl
cut_pairs (t ∷ v) (s ∷ w) zero h = absurd (omega arith)
cut_pairs [] w (suc n) h = refl
cut_pairs (t ∷ v) [] (suc n) h = refl
cut_pairs (t ∷ v) (s ∷ w) (suc n) h = ap (λ ps. (t, s) ∷ ps) (cut_pairs v w n (omega arith))

-- what they share is the pairs of equal tiles before the first other pair
pub shared-pairs : (v w : Word) (n : ℕ) → n ≡ min (length v) (length w)
    → (let ps = zip (take n v) (take n w) in length (take (prefix_len equal_pair ps) ps)) ≡ shared v w
shared-pairs v w n e = rw (cut_pairs v w n (omega arith)) (length-prefix_len equal_pair (zip v w) ∙ before_parting v w)
