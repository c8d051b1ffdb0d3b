-- The letters and the table of ranks that the writer makes are those of the labels, and small.
use Rattle.std.specs.Prelude.{◌≡◌, List, ℕ, ◌-◌, ◌≤◌, ◌<◌, ltb, length, get_or, take}
use Rattle.std.proofs.Common.{sym, ap, ◌∙◌, subst, arith, ltb-true, ltb-false, length-take, get_or-take}
use lib.ListN.{get_or-eq_default}
use Rattle.laws.specs.Cases.{split}
use Rattle.laws.specs.Lists.{All, all_mem}
use Rattle.laws.specs.Members.{at_in}
use Rattle.macondo_file.specs.Alphabet.{letters, letter_in, letter_of}
use Rattle.macondo_file.proofs.AlphabetLaws.{letter-most}
use Rattle.macondo_blocks.specs.LettersLaws.{letter-in, letters-below, letters-low}
use Rattle.letter_sets.specs.Letters.{Ranks, Small}

module _ (labels l : List ℕ) (e : l ≡ letters labels) where
  pub letters-tiles : length labels ≤ 50 → All (λ t. t < 64) l
  letters-tiles fifty = subst (All (λ t. t < 64)) (sym e) (letters-low labels fifty)

  module _ (fifty : length labels ≤ 50) (ranks : List ℕ) (h : (t : ℕ) → t < 64 → get_or ranks t 0 ≡ letter_in l t) where
    rank_is : (t : ℕ) → t < 64 → get_or ranks t 0 ≡ letter_of labels t
    rank_is t k = h t k ∙ ap (λ z. letter_in z t) e ∙ letter-in labels t

    pub ranks-are : Ranks labels ranks
    ranks-are t k = rank_is t (omega arith)

    pub ranks-small : length ranks ≡ 64 → Small ranks
    ranks-small n t =
        split (ltb t 64)
        (λ k. let a = rank_is t (ltb-true t 64 k) in let b = letter-most labels fifty t in omega arith)
        (λ k. let a = ltb-false t 64 k in let b = get_or-eq_default ranks 0 {n = t} (omega arith) in omega arith)

-- each of the first entries of a list that begins with the letters has a label
pub letter-entries-below : (labels list : List ℕ) → take (length labels - 1) list ≡ letters labels → length labels - 1 ≤ length list
    → (i : ℕ) → i < length labels - 1 → get_or list i 0 < length labels
letter-entries-below labels list e fits i h =
    let l = take (length labels - 1) list in
    let inside : i < length l = simp length-take (omega arith) in
    rw (sym (get_or-take (length labels - 1) list i 0 h))
    (all_mem (λ t. t < length labels) l (get_or l i 0) (subst (All (λ t. t < length labels)) (sym e) (letters-below labels)) (at_in l i 0 inside))
