-- The shelf only grows along the pass, also in the middle of a word that is closed, so that at no time it has more entries than the graph of
-- the whole list has nodes after nodes 0 and 1.
use Rattle.std.specs.Prelude.{◌≡◌, refl, List, [], ◌∷◌, ◌++◌, ℕ, zero, suc, ◌+◌, ◌-◌, ◌≤◌, ◌<◌, eqb, length, take, drop}
use Rattle.std.proofs.Common.{sym, ap, ap₂, ◌∙◌, ⊎_elim, zero-le, arith, eqb-true, drop_of_length-le, drop-drop}
use Rattle.laws.specs.Cases.{split}
use Rattle.laws.specs.Lists.{is_empty}
use Rattle.graph.specs.Words.{Word}
use Rattle.graph.specs.Order.{◌≺◌, shared}
use Rattle.graph.specs.OrderLaws.{not-≺-empty, ≺-cons}
use Rattle.built.specs.Lexicon.{Lexicon}
use Rattle.built.specs.Built.{built}
use Rattle.shelf.specs.Shelf.{ShelfEntry, Shelf}
use Rattle.shelf.specs.Shelving.{shelf_entry, entry_number, put_on, close, fresh, advance, first_word, opened, shelved}
use Rattle.shelf.specs.FewNodes.{entries-few}

pub put-longer : (d : Shelf) (e : ShelfEntry) → length d ≤ length (put_on d e).shelf
unfolding put_on
put-longer d e = split (eqb (entry_number d e) 0) (λ t. rw (t, put_on) (omega arith)) (λ t. rw (t, put_on) (omega arith))

pub close-longer : (d : Shelf) (w : Word) (xs : List ℕ) → length d ≤ length (close d w xs).shelf
unfolding close
close-longer d w [] = omega arith
close-longer d [] (x ∷ xs) = omega arith
close-longer d (t ∷ u) (x ∷ xs) =
    let r = close-longer d u xs in
    let p = put-longer (close d u xs).shelf (shelf_entry t (is_empty u) (close d u xs).number x) in
    omega (arith, r, p)

close-empty : (d : Shelf) (xs : List ℕ) → (close d [] xs).shelf ≡ d
unfolding close
close-empty d [] = refl
close-empty d (x ∷ xs) = refl

-- the tiles of a word from tile k on are closed before the others
pub close-drop : (k : ℕ) (d : Shelf) (w : Word) (xs : List ℕ) → length (close d (drop k w) (drop k xs)).shelf ≤ length (close d w xs).shelf
unfolding close
close-drop zero d w xs = omega arith
close-drop (suc k) d w [] = omega arith
close-drop (suc k) d [] (x ∷ xs) = let e = ap length (close-empty d (drop k xs)) in omega arith
close-drop (suc k) d (t ∷ u) (x ∷ xs) =
    let r = close-drop k d u xs in
    let p = put-longer (close d u xs).shelf (shelf_entry t (is_empty u) (close d u xs).number x) in
    omega (arith, r, p)

-- from a tile to one before it the shelf only grows
pub close-deeper : (d : Shelf) (w : Word) (xs : List ℕ) (k m : ℕ) → k ≤ m
    → length (close d (drop m w) (drop m xs)).shelf ≤ length (close d (drop k w) (drop k xs)).shelf
close-deeper d w xs k m h =
    let i : k + (m - k) ≡ m = omega arith in
    let far : (l : List ℕ) → drop (m - k) (drop k l) ≡ drop m l = λ l. drop-drop (m - k) k l ∙ ap (λ j. drop j l) i in
    let e = ap₂ (λ x y. length (close d x y).shelf) (far w) (far xs) in
    omega (arith, close-drop (m - k) d (drop k w) (drop k xs), e)

-- ---- the word at hand gives way: what it does not share is closed
pub advance-shelf : (d : Shelf) (w : Word) (xs : List ℕ) (v : Word)
    → (advance d w xs v).shelf ≡ (close d (drop (shared v w) w) (drop (shared v w) xs)).shelf
unfolding advance shared close
advance-shelf d w xs [] = refl
advance-shelf d [] xs (s ∷ v) = sym (close-empty d xs)
advance-shelf d (t ∷ u) [] (s ∷ v) = rw (drop_of_length-le {A = ℕ} [] (zero-le {n = shared (s ∷ v) (t ∷ u)}))
advance-shelf d (t ∷ u) (x ∷ xs) (s ∷ v) =
    split (eqb s t)
    (λ q. rw (q, advance, shared) (advance-shelf d u xs v))
    (λ q. rw (q, advance, shared))

-- and the numbers of what it shares stay
pub advance-numbers : (d : Shelf) (w : Word) (xs : List ℕ) (v : Word) → length w < length xs → v ≺ w
    → let c = shared v w in (advance d w xs v).numbers ≡ take c xs ++ (close d (drop c w) (drop c xs)).number ∷ drop 1 (fresh (drop c v))
unfolding advance shared
advance-numbers d w xs [] h l = refl
advance-numbers d [] xs (s ∷ v) h l = absurd (not-≺-empty l refl)
advance-numbers d (t ∷ u) [] (s ∷ v) h l = absurd (omega arith)
advance-numbers d (t ∷ u) (x ∷ xs) (s ∷ v) h l =
    split (eqb s t)
    (λ q.
    let below : v ≺ u = ⊎_elim
    (λ (i : s < t). absurd (let e = eqb-true s t q in omega arith))
    (λ (i : (s ≡ t) × (v ≺ u)). i.1)
    (≺-cons l) in
    rw (q, advance, shared) (ap (x ∷◌) (advance-numbers d u xs v (omega arith) below)))
    (λ q. rw (q, advance, shared))

pub advance-longer : (d : Shelf) (w : Word) (xs : List ℕ) (v : Word) → length d ≤ length (advance d w xs v).shelf
advance-longer d w xs v =
    let e = ap length (advance-shelf d w xs v) in
    let l = close-longer d (drop (shared v w) w) (drop (shared v w) xs) in
    omega arith

-- ---- along the list
pub opened-longer : (us ws : List Word) → length (opened ws).shelf ≤ length (opened (us ++ ws)).shelf
unfolding opened
opened-longer [] ws = omega arith
opened-longer (u ∷ us) ws =
    let r = opened-longer us ws in
    let m = opened (us ++ ws) in
    let a = advance-longer m.shelf (first_word (us ++ ws)) m.numbers u in
    omega (arith, r, a)

pub passed-longer : (us ws : List Word) → length (opened ws).shelf ≤ length (shelved (us ++ ws)).shelf
unfolding shelved
passed-longer us ws =
    let m = opened (us ++ ws) in
    omega (arith, opened-longer us ws, close-longer m.shelf (first_word (us ++ ws)) m.numbers)

-- ---- so the graph has a node for each entry, whenever they are counted: once some words are passed;
pub few-passed : (us ws : List Word) → Lexicon 64 (us ++ ws) → 2 + length (opened ws).shelf ≤ length (built (us ++ ws))
few-passed us ws lex = omega (arith, passed-longer us ws, entries-few (us ++ ws) lex)

-- while the open word is closed down to what the next shares with it;
pub few-closing : (us : List Word) (w : Word) (ws : List Word) (k : ℕ) → Lexicon 64 (us ++ w ∷ ws) → shared w (first_word ws) ≤ k
    → 2 + length (close (opened ws).shelf (drop k (first_word ws)) (drop k (opened ws).numbers)).shelf ≤ length (built (us ++ w ∷ ws))
unfolding opened
few-closing us w ws k lex h =
    let m = opened ws in
    let first = first_word ws in
    let a = close-deeper m.shelf first m.numbers (shared w first) k h in
    let s = ap length (advance-shelf m.shelf first m.numbers w) in
    omega (arith, few-passed us (w ∷ ws) lex, a, s)

-- and while the first word is closed
pub few-closing-first : (ws : List Word) (k : ℕ) → Lexicon 64 ws
    → 2 + length (close (opened ws).shelf (drop k (first_word ws)) (drop k (opened ws).numbers)).shelf ≤ length (built ws)
unfolding shelved
few-closing-first ws k lex =
    let m = opened ws in
    omega (arith, close-drop k m.shelf (first_word ws) m.numbers, entries-few ws lex)
