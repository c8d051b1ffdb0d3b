-- A call by the facts that decide it.
use Rattle.std.specs.Prelude.{◌≡◌, refl, Bool, true, false, ◌≢◌, List, [], ◌∷◌, ℕ, ◌*◌, ◌≤◌, ◌<◌, eqb, length}
use Rattle.std.proofs.Common.{subst}
use borrow.Author.Tests.{lt-ltb, le-ltb, le-leb, lt-leb, eq-eqb, ne_eqb, ltb-true, leb-true}
use Rattle.std.proofs.Math.Dec.{ltb, leb}
use Rattle.laws.specs.Cases.{split}
use Rattle.answers.specs.Answers.{Answer, gives, nothing, refused, IsRefusal}
use Rattle.graph.specs.Runs.{Graph}
use Rattle.graph.specs.Words.{Word}
use Rattle.lookup.specs.Steps.{Try, on, stop, ◌>>=◌, lent, require}
use Rattle.lookup.specs.StepsLaws.{lent-on, lent_out, Comes, then-Comes}
use Rattle.lookup.specs.Walks.{word_index}
use Rattle.in_play.specs.declared.Move.{Move}
use Rattle.in_play.specs.InPlay.{in_play, turned, start_count, number_of, allowed, in_lexicon, recorded, played, moved_by, play}

-- ---- the start
module _ (nodes : Graph) (counts : List ℕ) (start : ℕ) where
  pub start-out : length nodes ≤ start → start_count nodes counts start ≡ stop (refused 14 [])
  unfolding start_count
  start-out h = rw (lent_out nodes start h)

  pub start_none : start < length nodes → start ≡ 0 → start_count nodes counts start ≡ on 0
  unfolding start_count
  start_none h z = rw (lent-on nodes start h) (rw (eq-eqb start 0 z, ◌>>=◌))

  pub start-count : start < length nodes → start ≢ 0 → start_count nodes counts start ≡ lent counts start
  unfolding start_count
  start-count h n = rw (lent-on nodes start h) (rw (ne_eqb start 0 n, ◌>>=◌))

-- ---- what goes on, and what stops is a refusal
require-Comes : (t : Bool) (k : ℕ) → Comes (λ _. t ≡ true) IsRefusal (require t (refused k []))
require-Comes true k = refl
require-Comes false k = tt

lent-Comes : (l : List ℕ) (i : ℕ) → Comes (λ _. Unit) IsRefusal (lent l i)
unfolding lent
lent-Comes l i = split (ltb i (length l)) (λ t. rw (t, lent) tt) (λ t. rw (t, lent) tt)

start-Comes : (nodes : Graph) (counts : List ℕ) (start : ℕ) → Comes (λ _. Unit) IsRefusal (start_count nodes counts start)
unfolding start_count
start-Comes nodes counts start =
    then-Comes (λ _. Unit) (λ _. Unit) IsRefusal (lent nodes start) _ (lent-Comes nodes start)
    (λ _ _ _. split (eqb start 0) (λ t. rw t tt) (λ t. rw t (lent-Comes counts start)))

number-Comes : (a : Answer) → Comes (λ _. Unit) IsRefusal (number_of a)
number-Comes (gives []) = tt
number-Comes (gives (n ∷ ns)) = tt
number-Comes nothing = tt
number-Comes (refused k vs) = tt

-- ---- the word
module _ (limit : ℕ) (nodes : Graph) (counts : List ℕ) (start : ℕ) (word : Word) (bytes : ℕ) where
  abbrev found : Try (ℕ × ℕ)
  found = in_lexicon limit nodes counts start word bytes

  pub no_start : {r : Answer} → start_count nodes counts start ≡ stop r → found ≡ stop r
  unfolding in_lexicon
  no_start e = rw e

  module _ {total : ℕ} (e : start_count nodes counts start ≡ on total) where
    pub few_bits : 8 * bytes < total → found ≡ stop (refused 11 [])
    unfolding in_lexicon
    few_bits h = rw e (rw (lt-leb total (8 * bytes) h))

    module _ (h : total ≤ 8 * bytes) where
      pub no_number : {r : Answer} → number_of (word_index limit nodes counts start word) ≡ stop r → found ≡ stop r
      unfolding in_lexicon
      no_number s = rw e (rw (le-leb total (8 * bytes) h) (rw s))

      module _ {n : ℕ} (s : number_of (word_index limit nodes counts start word) ≡ on n) where
        pub number_past : total ≤ n → found ≡ stop (refused 29 [])
        unfolding in_lexicon
        number_past l = rw e (rw (le-leb total (8 * bytes) h) (rw s (rw (le-ltb n total l))))

        pub number-within : n < total → found ≡ on (n, total)
        unfolding in_lexicon
        number-within l = rw e (rw (le-leb total (8 * bytes) h) (rw s (rw (lt-ltb n total l))))

  -- a word that is found is one of the start's, and has a bit of the record
  abbrev pub Within : ℕ × ℕ → Type 0
  Within f = (start_count nodes counts start ≡ on f.1) × (f.0 < f.1) × (f.1 ≤ 8 * bytes)

  pub found-Comes : Comes Within IsRefusal found
  unfolding in_lexicon
  found-Comes =
      then-Comes (λ _. Unit) Within IsRefusal (start_count nodes counts start) _ (start-Comes nodes counts start)
      (λ total counted _. then-Comes (λ _. leb total (8 * bytes) ≡ true) Within IsRefusal (require (leb total (8 * bytes)) (refused 11 [])) _
      (require-Comes (leb total (8 * bytes)) 11)
      (λ _ _ enough. then-Comes (λ _. Unit) Within IsRefusal (number_of (word_index limit nodes counts start word)) _
      (number-Comes (word_index limit nodes counts start word))
      (λ n _ _. then-Comes (λ _. ltb n total ≡ true) Within IsRefusal (require (ltb n total) (refused 29 [])) _
      (require-Comes (ltb n total) 29)
      (λ _ _ inside. (counted, ltb-true n total inside, leb-true total (8 * bytes) enough)))))

  pub found_within : {n total : ℕ} → found ≡ on (n, total) → (n < total) × (total ≤ 8 * bytes)
  found_within e = let w = subst (Comes Within IsRefusal) e found-Comes in (w.1, w.2)

-- ---- the move
module _ (limit : ℕ) (move : Move) (nodes : Graph) (counts : List ℕ) (start : ℕ) (word : Word) (bits : List ℕ) where
  pub play-unknown : {r : Answer} → in_lexicon limit nodes counts start word (length bits) ≡ stop r
      → play limit move nodes counts start word bits ≡ record { answer = r; bits = bits }
  unfolding play
  play-unknown e = rw e

  pub play-known : {n total : ℕ} → in_lexicon limit nodes counts start word (length bits) ≡ on (n, total)
      → play limit move nodes counts start word bits ≡ played bits (moved_by move bits n total)
  unfolding play
  play-known e = rw e

module _ (move : Move) (bits : List ℕ) (n total : ℕ) where
  pub not-allowed : {r : Answer} → allowed move (in_play bits n) ≡ stop r → played bits (moved_by move bits n total) ≡ record { answer = r; bits = bits }
  not-allowed e = rw e

  pub is-allowed : {b : Bool} → allowed move (in_play bits n) ≡ on b → played bits (moved_by move bits n total) ≡ recorded total (turned bits n)
  is-allowed e = rw e
