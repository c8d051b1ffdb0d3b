-- What stands where in the bytes of words, and where two words part. The idea: past the words before a place stand the bytes of those after it.
use Rattle.std.specs.Prelude.{◌≡◌, refl, true, false, List, [], ◌∷◌, ℕ, suc, ◌+◌, ◌-◌, ◌≤◌, ◌<◌, eqb, ltb, length, get_or, take, drop}
use Rattle.std.proofs.Common.{sym, ap, ap₂, ◌∙◌, zero-le, add-zero, add-one, arith, eqb-true, le-ltb, length-append, drop-drop, get_or-drop}
use Rattle.std.proofs.Math.Bool.{or-false}
use Rattle.std.proofs.Math.Seq.{take-append_seam, drop-append_seam}
use Rattle.laws.specs.Cases.{split}
use Rattle.graph.specs.Words.{Word}
use Rattle.graph.specs.Order.{shared}
use Rattle.built.specs.Listed.{list_bytes, word_below}
use Rattle.word_list.specs.Words.{rejoined, place_after}

-- ---- the bytes from a place on
pub bytes-from : (us ws : List Word) → drop (place_after us) (list_bytes (rejoined us ws)) ≡ list_bytes ws
unfolding place_after rejoined
bytes-from [] ws = refl
bytes-from (v ∷ us) ws =
    sym (drop-drop (suc (length v)) (place_after us) (list_bytes (rejoined us (v ∷ ws))))
    ∙ ap (drop (suc (length v))) (bytes-from us (v ∷ ws)) ∙ drop-append_seam v (list_bytes ws)

pub bytes-length : (us ws : List Word) → length (list_bytes (rejoined us ws)) ≡ place_after us + length (list_bytes ws)
unfolding place_after rejoined
bytes-length [] ws = omega arith
bytes-length (v ∷ us) ws = let h = bytes-length us (v ∷ ws) in let l = length-append v (list_bytes ws) in omega arith

pub bytes_inside : (us ws : List Word) → place_after us ≤ length (list_bytes (rejoined us ws))
bytes_inside us ws = let h = bytes-length us ws in omega arith

-- ---- the word at a place, and the one before it
next-drop : (p : ℕ) (l : List ℕ) → drop (suc p) l ≡ drop 1 (drop p l)
next-drop p l = ap (λ k. drop k l) (sym (add-one p)) ∙ sym (drop-drop 1 p l)

here : (p : ℕ) (l : List ℕ) → get_or l p 0 ≡ get_or (drop p l) 0 0
here p l = ap (λ k. get_or l k 0) (sym (add-zero p)) ∙ sym (get_or-drop p l 0 0)

pub word-here : (us : List Word) (w : Word) (rest : List Word) (l : List ℕ) → l ≡ list_bytes (rejoined us (w ∷ rest))
    → (get_or l (place_after us) 0 ≡ length w) × (take (length w) (drop (suc (place_after us)) l) ≡ w) × (place_after us + suc (length w) ≤ length l)
word-here us w rest l e =
    let p = place_after us in
    let d : drop p l ≡ list_bytes (w ∷ rest) = ap (drop p) e ∙ bytes-from us (w ∷ rest) in
    let n = ap length e ∙ bytes-length us (w ∷ rest) in
    let k = length-append w (list_bytes rest) in (
      here p l ∙ ap (λ x. get_or x 0 0) d,
      ap (take (length w)) (next-drop p l ∙ ap (drop 1) d) ∙ take-append_seam w (list_bytes rest),
      omega arith,
    )

pub place-before : (v : Word) (us : List Word) → (place_after (v ∷ us) - length v ≡ suc (place_after us)) × (place_after (v ∷ us) - length v - 1 ≡ place_after us)
unfolding place_after
place-before v us = (omega arith, omega arith)

pub word-before : (v : Word) (us ws : List Word) (l : List ℕ) → l ≡ list_bytes (rejoined (v ∷ us) ws)
    → take (length v) (drop (place_after (v ∷ us) - length v) l) ≡ v
unfolding rejoined
word-before v us ws l e = ap (λ k. take (length v) (drop k l)) (place-before v us).0 ∙ (word-here us v ws l e).1

-- ---- where two words part
pub shared_le : (v w : Word) → (shared v w ≤ length v) × (shared v w ≤ length w)
unfolding shared
shared_le [] w = (zero-le, zero-le)
shared_le (t ∷ v) [] = (zero-le, zero-le)
shared_le (t ∷ v) (s ∷ w) =
    let h = shared_le v w in
    let a = h.0 in
    let b = h.1 in
    split (eqb t s) (λ e. rw (e, shared) (omega arith, omega arith)) (λ e. rw (e, shared) (zero-le, zero-le))

-- up to there they are the same
pub shared_same : (v w : Word) → take (shared v w) v ≡ take (shared v w) w
unfolding shared
shared_same [] w = refl
shared_same (t ∷ v) [] = refl
shared_same (t ∷ v) (s ∷ w) = split (eqb t s) (λ e. rw (e, shared) (ap₂ ◌∷◌ (eqb-true t s e) (shared_same v w))) (λ e. rw (e, shared))

-- there the order is decided: a word that ends there is not above
pub ends-not-above : (v w : Word) → length w ≤ shared v w → word_below v w ≡ false
unfolding shared
ends-not-above [] [] h = refl
ends-not-above [] (s ∷ w) h = absurd (omega arith)
ends-not-above (t ∷ v) [] h = refl
ends-not-above (t ∷ v) (s ∷ w) h =
    split (eqb t s)
    (λ e.
    let i = eqb-true t s e in
    let k : suc (length w) ≤ suc (shared v w) = rw (e, shared) at h in
    rw (le-ltb t s (omega arith), e) (ends-not-above v w (omega arith)))
    (λ e. let k : suc (length w) ≤ 0 = rw (e, shared) at h in absurd (omega arith))

-- one that goes on where the other ends is above it
pub ends_above : (v w : Word) → length v ≤ shared v w → shared v w < length w → word_below v w ≡ true
unfolding shared
ends_above [] [] h k = absurd (omega arith)
ends_above [] (s ∷ w) h k = refl
ends_above (t ∷ v) [] h k = absurd (omega arith)
ends_above (t ∷ v) (s ∷ w) h k =
    split (eqb t s)
    (λ e.
    let i = eqb-true t s e in
    let a : suc (length v) ≤ suc (shared v w) = rw (e, shared) at h in
    let b : suc (shared v w) < suc (length w) = rw (e, shared) at k in
    rw (le-ltb t s (omega arith), e) (ends_above v w (omega arith) (omega arith)))
    (λ e. let a : suc (length v) ≤ 0 = rw (e, shared) at h in absurd (omega arith))

-- and else it is by the tiles that stand there
pub parts-above : (v w : Word) → shared v w < length v → shared v w < length w
    → word_below v w ≡ ltb (get_or v (shared v w) 0) (get_or w (shared v w) 0)
unfolding shared
parts-above [] w h k = absurd (omega arith)
parts-above (t ∷ v) [] h k = absurd (omega arith)
parts-above (t ∷ v) (s ∷ w) h k =
    split (eqb t s)
    (λ e.
    let i = eqb-true t s e in
    let a : suc (shared v w) < suc (length v) = rw (e, shared) at h in
    let b : suc (shared v w) < suc (length w) = rw (e, shared) at k in
    rw (e, shared) (rw (le-ltb t s (omega arith)) (parts-above v w (omega arith) (omega arith))))
    (λ e. rw (e, shared) (or-false (ltb t s)))
