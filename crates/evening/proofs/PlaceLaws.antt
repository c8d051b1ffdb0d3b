-- Entries of a list that pass a test, by their places.
use Rattle.std.specs.Prelude.{◌≡◌, refl, Bool, not, List, [], ◌∷◌, ℕ, zero, suc, ◌+◌, length, get_or}
use Rattle.std.proofs.Common.{ap, arith}
use Rattle.laws.specs.Cases.{split}
use Rattle.laws.specs.Lists.{filtered}
use Rattle.in_play.specs.InPlay.{up_from}

-- one number further
shifted : (f : ℕ → Bool) (first n : ℕ) → length (filtered f (up_from (suc first) n)) ≡ length (filtered (λ k. f (suc k)) (up_from first n))
shifted f first zero = refl
shifted f first (suc n) =
    let r = shifted f (suc first) n in
    split (f (suc first))
    (λ t. rw (t, filtered) (ap suc r))
    (λ t. rw (t, filtered) r)

-- the entries that pass and the places of those that do not are as many as there are entries
pub places-left : {A : Type 0} (f : A → Bool) (z : A) (l : List A)
    → length (filtered f l) + length (filtered (λ n. not (f (get_or l n z))) (up_from 0 (length l))) ≡ length l
places-left f z [] = refl
places-left f z (x ∷ l) =
    let r = places-left f z l in
    let s = shifted (λ n. not (f (get_or (x ∷ l) n z))) 0 (length l) in
    split (f x)
    (λ t. rw (t, filtered) (omega arith))
    (λ t. rw (t, filtered) (omega arith))
