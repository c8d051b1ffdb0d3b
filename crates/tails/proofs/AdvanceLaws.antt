-- The word at hand gives way to the word before it: the numbers that are then at hand, and how the shelf grows along the words.
use mathlib.Core.Path.{◌≡◌, refl, sym, ap, ◌∙◌}
use mathlib.Core.List.{List, [], ◌∷◌, ◌++◌, append_assoc}
use Prim.Native.Nat.{ℕ, zero, suc, ◌+◌, ◌≤◌, ◌<◌}
use native.Mathlib.Omega.{arith}
use lib.Dec.{eqb}
use lib.ListN.{length, get_or, take, drop}
use lib.Seq.{get_or-drop}
use Rattle.laws.specs.Cases.{split}
use Rattle.graph.specs.Words.{Word}
use Rattle.graph.specs.Order.{◌≺◌, shared}
use Rattle.shelf.specs.Shelf.{Shelf}
use Rattle.shelf.specs.Shelving.{close, fresh, advance, first_word, opened, shelved}
use Rattle.shelf.specs.GrowthLaws.{advance-numbers, passed-longer}
use Rattle.word_list.specs.Words.{rejoined}
use Rattle.tails.specs.Tails.{Behind}

pub fresh-zero : (v : Word) (d : ℕ) → get_or (fresh v) d 0 ≡ 0
fresh-zero [] zero = refl
fresh-zero [] (suc d) = refl
fresh-zero (t ∷ v) zero = refl
fresh-zero (t ∷ v) (suc d) = fresh-zero v d

-- ---- what the word before does not share has no number yet
zeros-after : (l : List ℕ) (x : ℕ) (z : List ℕ) → ((d : ℕ) → get_or z d 0 ≡ 0) → Behind (l ++ x ∷ z) (l ++ x ∷ [])
zeros-after [] x z none zero = refl
zeros-after [] x z none (suc d) = none d
zeros-after (y ∷ l) x z none zero = refl
zeros-after (y ∷ l) x z none (suc d) = zeros-after l x z none d

pub advance-behind : (sh : Shelf) (w : Word) (xs : List ℕ) (v : Word) → length w < length xs → v ≺ w
    → let c = shared v w in Behind (advance sh w xs v).numbers (take c xs ++ (close sh (drop c w) (drop c xs)).number ∷ [])
advance-behind sh w xs v h l d =
    let c = shared v w in
    let none : (p : ℕ) → get_or (drop 1 (fresh (drop c v))) p 0 ≡ 0 = λ p. get_or-drop 1 (fresh (drop c v)) p 0 ∙ fresh-zero (drop c v) (1 + p) in
    ap (λ n. get_or n d 0) (advance-numbers sh w xs v h l) ∙ zeros-after (take c xs) (close sh (drop c w) (drop c xs)).number (drop 1 (fresh (drop c v))) none d

-- ---- the word before has a number for each tile and one more
fresh-length : (v : Word) → length (fresh v) ≡ suc (length v)
fresh-length [] = refl
fresh-length (t ∷ v) = ap suc (fresh-length v)

advance-length : (sh : Shelf) (w : Word) (xs : List ℕ) (v : Word) → length (advance sh w xs v).numbers ≡ suc (length v)
unfolding advance
advance-length sh w xs [] = refl
advance-length sh [] xs (s ∷ v) = ap suc (fresh-length v)
advance-length sh (t ∷ u) [] (s ∷ v) = ap suc (fresh-length v)
advance-length sh (t ∷ u) (x ∷ xs) (s ∷ v) =
    split (eqb s t)
    (λ q. rw (q, advance) (ap suc (advance-length sh u xs v)))
    (λ q. rw (q, advance) (ap suc (fresh-length v)))

pub opened-length : (ws : List Word) → length (opened ws).numbers ≡ suc (length (first_word ws))
unfolding opened
opened-length [] = refl
opened-length (w ∷ ws) = advance-length (opened ws).shelf (first_word ws) (opened ws).numbers w

-- ---- the shelf only grows
rejoined-is : (us ws : List Word) → (vs : List Word) × (rejoined us ws ≡ vs ++ ws)
unfolding rejoined
rejoined-is [] ws = ([], refl)
rejoined-is (v ∷ us) ws = let r = rejoined-is us (v ∷ ws) in (r.0 ++ v ∷ [], r.1 ∙ sym (append_assoc r.0 (v ∷ []) ws))

pub rejoined-longer : (us ws : List Word) → length (opened ws).shelf ≤ length (shelved (rejoined us ws)).shelf
rejoined-longer us ws =
    let r = rejoined-is us ws in
    let e = ap (λ vs. length (shelved vs).shelf) r.1 in
    omega (arith, passed-longer r.0 ws, e)
