-- One letter more in a word whose letters ascend: where it goes, and that it is the word of the tally with one more.
use Rattle.std.specs.Prelude.{◌≡◌, refl, List, [], ◌∷◌, ◌++◌, ℕ, zero, suc, ◌+◌, ◌≤◌, ◌<◌, ltb, length, replicate}
use Rattle.std.proofs.Common.{sym, ap, ◌∙◌, add-zero, arith, lt-ltb, le-ltb, ltb-true, ltb-false}
use Rattle.laws.specs.Cases.{split}
use Rattle.laws.specs.Sorting.{inserted}
use Rattle.graph.specs.Words.{Word}
use Rattle.alphagrams.specs.Alphagrams.{alphagram_from, alphagram, one_more}

-- a letter put into a word, before the first that is higher
abbrev pub with_letter : ℕ → Word → Word
with_letter t w = inserted ltb t w

pub with-letter-low : (u t : ℕ) (w : Word) → u < t → with_letter u (t ∷ w) ≡ u ∷ t ∷ w
with-letter-low u t w h = rw (lt-ltb u t h, inserted)

pub with-letter-high : (u t : ℕ) (w : Word) → t ≤ u → with_letter u (t ∷ w) ≡ t ∷ with_letter u w
with-letter-high u t w h = rw (le-ltb u t h, inserted)

-- the first letter is no higher than the letter put in
pub record Starts (u : ℕ) (w : Word) : Type 0 where
  pub first : ℕ
  pub rest : Word
  pub is : with_letter u w ≡ first ∷ rest
  pub low : first ≤ u

pub starts : (u : ℕ) (w : Word) → Starts u w
starts u [] = record { first = u; rest = []; is = refl; low = omega arith }
starts u (a ∷ w) =
    split (ltb u a)
    (λ t. record { first = u; rest = a ∷ w; is = with-letter-low u a w (ltb-true u a t); low = omega arith })
    (λ t. record { first = a; rest = with_letter u w; is = with-letter-high u a w (ltb-false u a t); low = ltb-false u a t })

-- ---- the tally with one more
past-copies : (n b u : ℕ) (w : Word) → b ≤ u → with_letter u (replicate n b ++ w) ≡ replicate n b ++ with_letter u w
past-copies zero b u w h = refl
past-copies (suc n) b u w h = with-letter-high u b (replicate n b ++ w) h ∙ ap (b ∷◌) (past-copies n b u w h)

copies-end : (n b : ℕ) (w : Word) → replicate n b ++ b ∷ w ≡ b ∷ replicate n b ++ w
copies-end zero b w = refl
copies-end (suc n) b w = ap (b ∷◌) (copies-end n b w)

-- a letter below all others goes first
before-letters : (u b : ℕ) (ns : List ℕ) → u < b → with_letter u (alphagram_from b ns) ≡ u ∷ alphagram_from b ns
unfolding alphagram_from
before-letters u b [] h = refl
before-letters u b (zero ∷ ns) h = before-letters u (suc b) ns (omega arith)
before-letters u b (suc n ∷ ns) h = with-letter-low u b (replicate n b ++ alphagram_from (suc b) ns) h

one-more-from : (k b : ℕ) (ns : List ℕ) → alphagram_from b (one_more k ns) ≡ with_letter (b + k) (alphagram_from b ns)
unfolding alphagram_from one_more
one-more-from zero b [] = ap (λ n. n ∷ []) (sym (add-zero b))
one-more-from (suc k) b [] = one-more-from k (suc b) [] ∙ ap (λ n. with_letter n (alphagram_from (suc b) [])) (omega arith)
one-more-from zero b (n ∷ ns) =
    let rest = alphagram_from (suc b) ns in
    sym (ap (λ u. with_letter u (replicate n b ++ rest)) (add-zero b)
    ∙ past-copies n b b rest (omega arith) ∙ ap (replicate n b ++◌) (before-letters b (suc b) ns (omega arith)) ∙ copies-end n b rest)
one-more-from (suc k) b (n ∷ ns) =
    ap (replicate n b ++◌) (one-more-from k (suc b) ns ∙ ap (λ u. with_letter u (alphagram_from (suc b) ns)) (omega arith))
    ∙ sym (past-copies n b (b + suc k) (alphagram_from (suc b) ns) (omega arith))

pub alphagram-one-more : (t : ℕ) (tally : List ℕ) → 0 < t → alphagram (one_more t tally) ≡ with_letter t (alphagram tally)
unfolding one_more
alphagram-one-more zero tally h = absurd (omega arith)
alphagram-one-more (suc k) [] h = one-more-from k 1 [] ∙ ap (λ u. with_letter u (alphagram_from 1 [])) (omega arith)
alphagram-one-more (suc k) (n ∷ ns) h = one-more-from k 1 ns ∙ ap (λ u. with_letter u (alphagram_from 1 ns)) (omega arith)

shorter : (t : ℕ) (ns : List ℕ) (m : ℕ) → t < m → length ns ≤ m → length (one_more t ns) ≤ m
unfolding one_more
shorter zero [] m h k = omega arith
shorter zero (n ∷ ns) m h k = k
shorter (suc t) [] zero h k = absurd (omega arith)
shorter (suc t) [] (suc m) h k = let r = shorter t [] m (omega arith) (omega arith) in omega arith
shorter (suc t) (n ∷ ns) zero h k = absurd (omega arith)
shorter (suc t) (n ∷ ns) (suc m) h k = let r = shorter t ns m (omega arith) (omega arith) in omega arith

pub one-more-short : (t : ℕ) (tally : List ℕ) → t < 64 → length tally ≤ 64 → length (one_more t tally) ≤ 64
one-more-short t tally h k = shorter t tally 64 h k
