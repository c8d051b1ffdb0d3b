-- The word of a line, label by label; how many tiles it has; and that a word that is read is the same wherever its line stands, with as much room or
-- with a tile for each byte.
use Rattle.std.specs.Prelude.{◌≡◌, refl, Bool, true, false, ◌⊎◌, eqb, leb, ltb, get_or, drop}
use Rattle.std.proofs.Common.{sym, ◌∙◌, inl, inr, add-one, ltb-true, ltb-false, drop_of_length-le}
use Rattle.std.proofs.Math.Path.{ap, subst}
use mathlib.Core.List.{List, [], ◌∷◌}
use Rattle.std.proofs.Math.Option.{Option, none, some}
use Prim.Native.Nat.{ℕ, zero, suc, ◌+◌, ◌-◌, ◌≤◌, ◌<◌}
use native.Mathlib.Omega.{arith}
use Rattle.std.proofs.Math.ListN.{length}
use Rattle.std.proofs.Math.Seq.{drop-cons}
use Rattle.laws.specs.Cases.{split, split_option}
use Rattle.answers.specs.Answers.{Answer, gives, nothing, refused, value_at}
use Rattle.answers.specs.RowLaws.{gives≢refused}
use Rattle.label_index.specs.Labels.{Label, labels_in}
use Rattle.label_index.specs.Matches.{Match, match_in}
use Rattle.label_index.specs.MatchLaws.{Match-takes}
use Rattle.typed.specs.Words.{TypedStep, tile_there, end_there, unmatched, or_unmatched, typed_step_in, typed_step, typed_from, typed_word}

-- ---- what is answered after n tiles: their number, or a refusal
pub data WordSaid (n : ℕ) : Answer → Type 0 where
  given : WordSaid n (gives (n ∷ []))
  unread : (r : ℕ) (vs : List ℕ) → WordSaid n (refused r vs)

unmatched-said : (first low : Bool) (place n : ℕ) → WordSaid n (unmatched first low place n)
unmatched-said true low place n = unread 28 (place ∷ [])
unmatched-said false true place n = given
unmatched-said false false place n = unread 28 (place ∷ [])

abbrev EndsSaid : ℕ → TypedStep → Type 0
EndsSaid n (tile_there t j) = Unit
EndsSaid n (end_there r) = WordSaid n r

pub split_step : {C : Type 0} (s : TypedStep) → ((t j : ℕ) → s ≡ tile_there t j → C) → ((r : Answer) → s ≡ end_there r → C) → C
split_step (tile_there t j) tile-case end-case = tile-case t j refl
split_step (end_there r) tile-case end-case = end-case r refl

module _ (ls : List Label) (line : List ℕ) (start : ℕ) where
  -- ---- a step
  pub step_past : (n i : ℕ) → length line ≤ i → typed_step ls line start n i ≡ end_there (gives (n ∷ []))
  unfolding typed_step
  step_past n i h = rw (drop_of_length-le line h)

  pub step_label : (n i : ℕ) (m : Match) → i < length line → match_in ls (drop i line) ≡ some m → typed_step ls line start n i ≡ tile_there m.0 (i + m.1)
  unfolding typed_step
  step_label n i m h e =
      let q = drop-cons line i 0 h in
      ap (λ (s : List ℕ). typed_step_in ls line start s n i) q
      ∙ ap (λ (o : Option Match). or_unmatched o i (unmatched (eqb i 0) (leb (get_or line i 0) 32) (start + i) n)) (ap (match_in ls) (sym q) ∙ e)

  pub step-none : (n i : ℕ) → i < length line → match_in ls (drop i line) ≡ none
      → typed_step ls line start n i ≡ end_there (unmatched (eqb i 0) (leb (get_or line i 0) 32) (start + i) n)
  unfolding typed_step
  step-none n i h e =
      let q = drop-cons line i 0 h in
      ap (λ (s : List ℕ). typed_step_in ls line start s n i) q
      ∙ ap (λ (o : Option Match). or_unmatched o i (unmatched (eqb i 0) (leb (get_or line i 0) 32) (start + i) n)) (ap (match_in ls) (sym q) ∙ e)

  -- ---- the walk
  abbrev walk : (room n i : ℕ) → List ℕ × Answer
  walk room n i = typed_from ls line start room n i

  pub word-ends : (room n i : ℕ) (r : Answer) → typed_step ls line start n i ≡ end_there r → walk room n i ≡ ([], r)
  unfolding typed_from
  word-ends zero n i r e = rw (e, typed_from)
  word-ends (suc room) n i r e = rw (e, typed_from)

  pub word-full : (room n i t j : ℕ) → room ≡ 0 → typed_step ls line start n i ≡ tile_there t j → walk room n i ≡ ([], refused 16 [])
  unfolding typed_from
  word-full zero n i t j h e = rw (e, typed_from)
  word-full (suc room) n i t j h e = absurd (omega arith)

  pub word-puts : (room n i t j : ℕ) → 0 < room → typed_step ls line start n i ≡ tile_there t j
      → walk room n i ≡ (t ∷ (walk (room - 1) (n + 1) j).0, (walk (room - 1) (n + 1) j).1)
  unfolding typed_from
  word-puts zero n i t j h e = absurd (omega arith)
  word-puts (suc room) n i t j h e =
      let k : suc room - 1 ≡ room = omega arith in
      rw (k, add-one) (rw (e, typed_from))

  -- ---- what it says
  step_in_said : (s : List ℕ) (n i : ℕ) → EndsSaid n (typed_step_in ls line start s n i)
  step_in_said [] n i = given
  step_in_said (b ∷ s) n i = by-Match (match_in ls (b ∷ s))
    where
      by-Match : (o : Option Match) → EndsSaid n (or_unmatched o i (unmatched (eqb i 0) (leb b 0x20) (start + i) n))
      by-Match (some m) = tt
      by-Match none = unmatched-said (eqb i 0) (leb b 0x20) (start + i) n

  ended-said : (room n i : ℕ) (r : Answer) → typed_step ls line start n i ≡ end_there r → WordSaid (n + length (walk room n i).0) (walk room n i).1
  unfolding typed_step
  ended-said room n i r e =
      let said : WordSaid n r = subst (EndsSaid n) e (step_in_said (drop i line) n i) in
      let m : n ≡ n + 0 = omega arith in
      subst (λ (w : List ℕ × Answer). WordSaid (n + length w.0) w.1) (sym (word-ends room n i r e)) (subst (λ k. WordSaid k r) m said)

  typed-said : (room n i : ℕ) → WordSaid (n + length (walk room n i).0) (walk room n i).1
  typed-said zero n i =
      split_step (typed_step ls line start n i)
      (λ t j e. subst (λ (w : List ℕ × Answer). WordSaid (n + length w.0) w.1) (sym (word-full zero n i t j refl e)) (unread 16 []))
      (λ r e. ended-said zero n i r e)
  typed-said (suc room) n i =
      split_step (typed_step ls line start n i)
      (λ t j e.
      let z : suc room - 1 ≡ room = omega arith in
      let w = word-puts (suc room) n i t j (omega arith) e ∙ ap (λ m. (t ∷ (walk m (n + 1) j).0, (walk m (n + 1) j).1)) z in
      let c : n + 1 + length (walk room (n + 1) j).0 ≡ n + suc (length (walk room (n + 1) j).0) = omega arith in
      subst (λ (v : List ℕ × Answer). WordSaid (n + length v.0) v.1) (sym w)
      (subst (λ k. WordSaid k (walk room (n + 1) j).1) c (typed-said room (n + 1) j)))
      (λ r e. ended-said (suc room) n i r e)

-- the whole word's
pub word-said : (ls : List Label) (line : List ℕ) (start room : ℕ) → WordSaid (length (typed_word ls line start room).0) (typed_word ls line start room).1
word-said ls line start room =
    let w = typed_word ls line start room in
    let z : 0 + length w.0 ≡ length w.0 = omega arith in
    subst (λ k. WordSaid k w.1) z (typed-said ls line start room 0 0)

-- ---- as many tiles as it says
-- 0 for values, 1 for none, 2 for a refusal
abbrev pub kind_of : Answer → ℕ
kind_of (gives vs) = 0
kind_of nothing = 1
kind_of (refused r vs) = 2

said-count : {n k : ℕ} {a : Answer} → WordSaid n a → a ≡ gives (k ∷ []) → k ≡ n
said-count given e = sym (ap (value_at 0) e)
said-count (unread r vs) e = let z = ap kind_of e in absurd (omega arith)

pub word_count : (ls : List Label) (line : List ℕ) (start room k : ℕ) → (typed_word ls line start room).1 ≡ gives (k ∷ [])
    → k ≡ length (typed_word ls line start room).0
word_count ls line start room k e = said-count (word-said ls line start room) e

-- ---- a word that is read, wherever its line stands in the text: with as much room, or with a tile for each byte
abbrev is_tile : TypedStep → ℕ
is_tile (tile_there t j) = 1
is_tile (end_there r) = 0

abbrev place_after : TypedStep → ℕ
place_after (tile_there t j) = j
place_after (end_there r) = 0

tile-not-end : {C : Type 0} {r : Answer} {t j : ℕ} → end_there r ≡ tile_there t j → C
tile-not-end q = let z = ap is_tile q in absurd (omega arith)

unmatched-same : (first low : Bool) (place place' n : ℕ) (vs : List ℕ) → unmatched first low place n ≡ gives vs → unmatched first low place' n ≡ gives vs
unmatched-same true low place place' n vs e = gives≢refused (sym e)
unmatched-same false true place place' n vs e = e
unmatched-same false false place place' n vs e = gives≢refused (sym e)

abbrev answer_in : TypedStep → Answer
answer_in (tile_there t j) = nothing
answer_in (end_there r) = r

module _ (file line : List ℕ) (start start' : ℕ) where
  abbrev ls : List Label
  ls = labels_in file

  module _ (n i : ℕ) where
    same-tile : (t j : ℕ) → typed_step ls line start n i ≡ tile_there t j → typed_step ls line start' n i ≡ tile_there t j
    unfolding typed_step
    same-tile t j = by-rest (drop i line)
      where
        by-Match : (o : Option Match) (a b : Answer) → or_unmatched o i a ≡ tile_there t j → or_unmatched o i b ≡ tile_there t j
        by-Match (some m) a b e = e
        by-Match none a b e = tile-not-end e

        by-rest : (s : List ℕ) → typed_step_in ls line start s n i ≡ tile_there t j → typed_step_in ls line start' s n i ≡ tile_there t j
        by-rest [] e = tile-not-end e
        by-rest (b ∷ s) e =
            by-Match (match_in ls (b ∷ s)) (unmatched (eqb i 0) (leb b 0x20) (start + i) n) (unmatched (eqb i 0) (leb b 0x20) (start' + i) n) e

    same_end : (vs : List ℕ) → typed_step ls line start n i ≡ end_there (gives vs) → typed_step ls line start' n i ≡ end_there (gives vs)
    unfolding typed_step
    same_end vs = by-rest (drop i line)
      where
        by-Match : (o : Option Match) (first low : Bool) → or_unmatched o i (unmatched first low (start + i) n) ≡ end_there (gives vs)
            → or_unmatched o i (unmatched first low (start' + i) n) ≡ end_there (gives vs)
        by-Match (some m) first low e = tile-not-end (sym e)
        by-Match none first low e = ap end_there (unmatched-same first low (start + i) (start' + i) n vs (ap answer_in e))

        by-rest : (s : List ℕ) → typed_step_in ls line start s n i ≡ end_there (gives vs) → typed_step_in ls line start' s n i ≡ end_there (gives vs)
        by-rest [] e = e
        by-rest (b ∷ s) e = by-Match (match_in ls (b ∷ s)) (eqb i 0) (leb b 0x20) e

    -- a label takes at least a byte
    goes_on : (t j : ℕ) → typed_step ls line start n i ≡ tile_there t j → (i < length line) × (i < j)
    goes_on t j e =
        split (ltb i (length line))
        (λ q. let h = ltb-true i (length line) q in
        split_option (match_in ls (drop i line))
        (λ m. tile-not-end (sym (step-none ls line start n i h m) ∙ e))
        (λ m k. let w = (Match-takes file (drop i line) m k).0 in let p = ap place_after (sym (step_label ls line start n i m h k) ∙ e) in (h, omega arith)))
        (λ q. tile-not-end (sym (step_past ls line start n i (ltb-false i (length line) q)) ∙ e))

  -- as much room as before, or a tile for each byte that is left
  abbrev pub Enough : (room room' i : ℕ) → Type 0
  Enough room room' i = (room ≤ room') ⊎ (length line ≤ i + room')

  enough-left : (room room' i j : ℕ) → i < length line → i < j → Enough (suc room) room' i → (0 < room') × Enough room (room' - 1) j
  enough-left room room' i j h k (inl e) = (omega arith, inl (omega arith))
  enough-left room room' i j h k (inr e) = (omega arith, inr (omega arith))

  ended_anywhere : (room room' n i k : ℕ) (r : Answer) → (typed_from ls line start room n i).1 ≡ gives (k ∷ []) → typed_step ls line start n i ≡ end_there r
      → typed_from ls line start' room' n i ≡ typed_from ls line start room n i
  ended_anywhere room room' n i k r e q =
      let w = word-ends ls line start room n i r q in
      let g : r ≡ gives (k ∷ []) = sym (ap (λ (v : List ℕ × Answer). v.1) w) ∙ e in
      word-ends ls line start' room' n i (gives (k ∷ [])) (same_end n i (k ∷ []) (q ∙ ap end_there g)) ∙ ap (λ (a : Answer). ([], a)) (sym g) ∙ sym w

  pub typed_anywhere : (room room' n i k : ℕ) → Enough room room' i → (typed_from ls line start room n i).1 ≡ gives (k ∷ [])
      → typed_from ls line start' room' n i ≡ typed_from ls line start room n i
  typed_anywhere zero room' n i k enough e =
      split_step (typed_step ls line start n i)
      (λ t j q. gives≢refused (sym (sym (ap (λ (w : List ℕ × Answer). w.1) (word-full ls line start zero n i t j refl q)) ∙ e)))
      (λ r q. ended_anywhere zero room' n i k r e q)
  typed_anywhere (suc room) room' n i k enough e =
      split_step (typed_step ls line start n i)
      (λ t j q.
      let z : suc room - 1 ≡ room = omega arith in
      let w = word-puts ls line start (suc room) n i t j (omega arith) q
      ∙ ap (λ m. (t ∷ (typed_from ls line start m (n + 1) j).0, (typed_from ls line start m (n + 1) j).1)) z in
      let o = goes_on n i t j q in
      let left = enough-left room room' i j o.0 o.1 enough in
      let rest = typed_anywhere room (room' - 1) (n + 1) j k left.1 (sym (ap (λ (v : List ℕ × Answer). v.1) w) ∙ e) in
      word-puts ls line start' room' n i t j left.0 (same-tile n i t j q) ∙ ap (λ (v : List ℕ × Answer). (t ∷ v.0, v.1)) rest ∙ sym w)
      (λ r q. ended_anywhere (suc room) room' n i k r e q)
