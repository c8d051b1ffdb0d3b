-- No tile is 165, so the tiles that a walk put into a word of 165s are those before the first of these.
use mathlib.Core.Path.{◌≡◌, refl, sym, ap, ◌∙◌}
use mathlib.Core.List.{List, [], ◌∷◌, ◌++◌, append-nil}
use Prim.Native.Nat.{ℕ, zero, suc, ◌+◌}
use native.Mathlib.Omega.{arith}
use borrow.Author.Tests.{ne_eqb, ltb-false}
use lib.Dec.{eqb, ltb}
use lib.ListN.{length, get_or, take, drop, replicate, length-replicate}
use lib.Seq.{take_all}
use Rattle.std.specs.List.{position_or_len}
use Rattle.std.specs.Prelude.{Option, Some, None, cond, unwrap_or}
use Rattle.laws.specs.Cases.{split}
use Rattle.lookup.specs.WalkedLaws.{Tiles, by-index-walked}
use Rattle.flat.specs.FlatLookups.{flat_word}
use Rattle.replay.specs.Lookups.{word_fields, word_walk, unmarked, word_reply_in, word_reply}

-- ---- the tiles before the first mark
after-first : (k t : ℕ) (ts : List ℕ) → take (1 + k) (t ∷ ts) ≡ t ∷ take k ts
after-first k t ts = let e : 1 + k ≡ suc k = omega arith in ap (λ n. take n (t ∷ ts)) e

unmarked-first : (word : List ℕ) → unmarked word ≡ take (position_or_len (λ t. eqb t 165) word) word
unfolding unmarked
unmarked-first [] = refl
unmarked-first (t ∷ ts) = split (eqb t 165) (λ e. rw e) (λ e. rw e (ap (t ∷◌) (unmarked-first ts) ∙ sym (after-first _ t ts)))

pub put-tiles : (word : List ℕ) {put : Option ℕ} → put ≡ cond (ltb (position_or_len (λ t. eqb t 165) word) (length word)) (Some (position_or_len (λ t. eqb t 165) word)) None
    → take (unwrap_or put (length word)) word ≡ unmarked word
put-tiles word e =
    let k = position_or_len (λ t. eqb t 165) word in
    split (ltb k (length word))
    (λ t. rw (e, t, unmarked-first word))
    (λ t. rw (e, t, unmarked-first word) (take_all _ word (omega arith) ∙ sym (take_all k word (ltb-false _ _ t))))

-- ---- over a walk
tiles-unmarked : (ts rest : List ℕ) → Tiles ts → unmarked (ts ++ rest) ≡ ts ++ unmarked rest
unfolding unmarked
tiles-unmarked [] rest h = refl
tiles-unmarked (t ∷ ts) rest h = rw (ne_eqb t 165 (λ e. omega (arith, h.0)), tiles-unmarked ts rest h.1)

marks-unmarked : (k n : ℕ) → unmarked (drop k (replicate n 165)) ≡ []
unfolding unmarked
marks-unmarked zero zero = refl
marks-unmarked zero (suc n) = refl
marks-unmarked (suc k) zero = refl
marks-unmarked (suc k) (suc n) = marks-unmarked k n

pub put-are : (ts : List ℕ) (n : ℕ) → Tiles ts → unmarked (ts ++ drop (length ts) (replicate n 165)) ≡ ts
put-are ts n h = tiles-unmarked ts (drop (length ts) (replicate n 165)) h ∙ ap (ts ++◌) (marks-unmarked (length ts) n) ∙ append-nil ts

-- a word of n 165s is lent
lent-marks : (ws : List ℕ) (n : ℕ) → word_reply_in ws (replicate n 165) ≡ word_fields (flat_word (word_walk ws n).1) ++ (word_walk ws n).0
unfolding word_reply_in word_walk
lent-marks ws n =
    let graph = drop 3 ws in
    let k = get_or ws 2 0 in
    let walk = by-index-walked (drop k graph) (take k graph) n (get_or ws 0 0) (get_or ws 1 0) in
    rw length-replicate (ap (word_fields (flat_word (word_walk ws n).1) ++◌) (put-are (word_walk ws n).0 n walk.tiles))

pub word-reply : (ws : List ℕ) → word_reply_in ws (replicate 514 165) ≡ word_reply ws
unfolding word_reply
word-reply ws = lent-marks ws 514
