-- The pass over the list keeps what the words so far are, has no more entries than tiles, and so makes the graph.
use Rattle.std.specs.Prelude.{◌≡◌, refl, List, [], ◌∷◌, ◌++◌, map, ℕ, ◌+◌, ◌≤◌, ◌<◌, eqb, length}
use Rattle.std.proofs.Common.{sym, ap, ap₂, ◌∙◌, subst, ⊎_elim, zero-le, arith, eqb-true}
use Rattle.std.proofs.lemmas.Bool.{eqb-false}
use Rattle.laws.specs.Cases.{split}
use Rattle.laws.specs.Lists.{All, is_empty}
use Rattle.graph.specs.Order.{Ascending, ◌≺◌}
use Rattle.graph.specs.OrderLaws.{not-≺-empty, ≺-cons}
use Rattle.graph.specs.Words.{Word}
use Rattle.built.specs.BranchLaws.{HasTile, all-some, branches-words, empty_word, with-word-words, words_of_all}
use Rattle.built.specs.Branches.{Branch, branch, branches, branches_with}
use Rattle.built.specs.Built.{built}
use Rattle.built.specs.Lexicon.{Lexicon}
use denote.Steps.{nothing}
use Rattle.shelf.specs.Shelf.{FirstAbove, Shelf, SoundShelf, number_words, numbered_graph, tail_of}
use Rattle.shelf.specs.ShelfBuilt.{built-numbered}
use Rattle.shelf.specs.ShelfLaws.{tail_zero, with-above, with-same}
use Rattle.shelf.specs.Shelving.{Moved, Put, advance, close, first_word, fresh, opened, shelved}
use Rattle.shelf.specs.ShelvingLaws.{Extends, Leaves, OpenWord, close-leaves, extends-same, open_branches}

-- ---- a word that nothing follows yet
fresh-open : (d : Shelf) (u : Word) → OpenWord d u (fresh u)
fresh-open d [] = zero-le
fresh-open d (t ∷ u) = (zero-le, subst (FirstAbove t) (sym (tail_zero d)) tt, fresh-open d u)

fresh-words : (d : Shelf) (u : Word) → empty_word (is_empty u) ++ words_of_all (open_branches d u (fresh u)) ≡ u ∷ []
fresh-words d [] = ap (λ bs. [] ∷ words_of_all bs) (tail_zero d)
fresh-words d (t ∷ u) =
    ap₂ (λ us bs. map (t ∷◌) us ++ words_of_all bs) (fresh-words d u) (tail_zero d)

-- ---- the branches with one word more before all others
abbrev with_front : Word → List Branch → List Branch
with_front [] bs = bs
with_front (t ∷ u) bs = branches_with t u bs

-- the same under a tile
front-under : (v u : Word) (bs : List Branch) → v ≺ u → v ∷ (empty_word (is_empty u) ++ words_of_all bs) ≡ empty_word (is_empty v) ++ words_of_all (with_front v bs)
front-under v [] bs h = absurd (not-≺-empty h refl)
front-under [] (t ∷ u) bs h = refl
front-under (s ∷ v) (t ∷ u) bs h = sym (with-word-words s v bs)

record Moves (d : Shelf) (n : ℕ) (w : Word) (bs : List Branch) (m : Moved) : Type 0 where
  valid : SoundShelf m.shelf
  extends : Extends d m.shelf
  begun : OpenWord m.shelf w m.numbers
  is : open_branches m.shelf w m.numbers ≡ bs
  few : length m.shelf ≤ n

-- a word with another first tile: what was open is closed, and stands after it
moves-apart : (d : Shelf) (n : ℕ) (s : ℕ) (v : Word) (bs : List Branch) (p : Put) → Leaves d bs p → length p.shelf ≤ n → FirstAbove s bs
    → Moves d n (s ∷ v) (branches_with s v bs) (record { shelf = p.shelf; numbers = p.number ∷ fresh v })
moves-apart d n s v bs p l f a =
    record {
      valid = l.valid;
      extends = l.extends;
      begun = (l.known, subst (FirstAbove s) (sym l.is) a, fresh-open p.shelf v);
      is = ap₂ (λ us cs. branch s us ∷ cs) (fresh-words p.shelf v) l.is ∙ sym (with-above s v bs a);
      few = f;
    }

moves : (d : Shelf) → SoundShelf d → (w : Word) (xs : List ℕ) → OpenWord d w xs → (v : Word) → v ≺ w
    → Moves d (length d + length w) v (with_front v (open_branches d w xs)) (advance d w xs v)
unfolding advance
moves d va w xs o [] h =
    let c = close-leaves d va w xs o in
    record { valid = c.0.valid; extends = c.0.extends; begun = c.0.known; is = c.0.is; few = c.1 }
moves d va [] xs o (s ∷ v) h = absurd (not-≺-empty h refl)
moves d va (t ∷ u) [] o (s ∷ v) h = absurd o
moves d va (t ∷ u) (x ∷ xs) o (s ∷ v) h =
    split (eqb s t)
    (λ q. rw (q, advance) (
    let e = eqb-true s t q in
    let below : v ≺ u = ⊎_elim (λ (l : s < t). absurd (omega arith)) (λ (l : (s ≡ t) × (v ≺ u)). l.1) (≺-cons h) in
    let r = moves d va u xs o.2 v below in
    let m = advance d u xs v in
    let xk = o.0 in
    let longer = r.extends.longer in
    let tail = r.extends.keeps x xk in
    let f = r.few in
    let a : FirstAbove s (tail_of m.shelf x) = subst (FirstAbove s) (sym tail) (subst (λ k. FirstAbove k (tail_of d x)) (sym e) o.1) in
    let us = empty_word (is_empty u) ++ words_of_all (open_branches d u xs) in
    record {
      valid = r.valid;
      extends = r.extends;
      begun = (omega arith, a, r.begun);
      is = ap₂ (λ cs bs. branch s (empty_word (is_empty v) ++ words_of_all cs) ∷ bs) r.is tail
          ∙ ap (λ ws. branch s ws ∷ tail_of d x) (sym (front-under v u (open_branches d u xs) below))
          ∙ sym (with-same s v us (tail_of d x))
          ∙ ap (λ k. branches_with s v (branch k us ∷ tail_of d x)) e;
      few = omega arith;
    }))
    (λ q. rw (q, advance) (
    let n = eqb-false s t q in
    let less : s < t = ⊎_elim (λ (l : s < t). l) (λ (l : (s ≡ t) × (v ≺ u)). absurd (n l.0)) (≺-cons h) in
    let c = close-leaves d va (t ∷ u) (x ∷ xs) o in
    moves-apart d (length d + length (t ∷ u)) s v (open_branches d (t ∷ u) (x ∷ xs)) (close d (t ∷ u) (x ∷ xs)) c.0 c.1 less))

-- ---- the whole list
abbrev pub tile_total : List Word → ℕ
tile_total [] = 0
tile_total (w ∷ ws) = length w + tile_total ws

-- the pass has come to the first of these words, and has it open
pub record Opened (ws : List Word) (m : Moved) : Type 0 where
  pub valid : SoundShelf m.shelf
  pub begun : OpenWord m.shelf (first_word ws) m.numbers
  pub is : open_branches m.shelf (first_word ws) m.numbers ≡ branches ws
  pub few : length m.shelf + length (first_word ws) ≤ tile_total ws

pub all-opened : (ws : List Word) → All HasTile ws → Ascending ws → Opened ws (opened ws)
unfolding opened advance branches
all-opened [] h a = record { valid = tt; begun = zero-le; is = tail_zero []; few = zero-le }
all-opened ([] ∷ ws) h a = absurd (let k = h.0 in omega arith)
all-opened ((t ∷ u) ∷ []) h a =
    let nothing : Put = record { shelf = []; number = 0 } in
    let k = moves-apart [] 0 t u [] nothing (record { valid = tt; extends = extends-same []; known = zero-le; is = tail_zero [] }) zero-le tt in
    record { valid = k.valid; begun = k.begun; is = k.is; few = omega arith }
all-opened ((t ∷ u) ∷ w ∷ ws) h a =
    let r = all-opened (w ∷ ws) h.1 a.1 in
    let m = opened (w ∷ ws) in
    let k = moves m.shelf r.valid w m.numbers r.begun (t ∷ u) a.0.0 in
    let f = k.few in
    let n = r.few in
    record { valid = k.valid; begun = k.begun; is = k.is ∙ ap (branches_with t u) r.is; few = omega arith }

-- the shelf's number stands for the list
pub record ShelfHolds (ws : List Word) (p : Put) : Type 0 where
  pub valid : SoundShelf p.shelf
  pub known : p.number ≤ length p.shelf
  pub words_are : number_words p.shelf p.number ≡ ws
  -- an entry takes a tile
  pub few : length p.shelf ≤ tile_total ws

pub all-shelved : (ws : List Word) → Lexicon 64 ws → ShelfHolds ws (shelved ws)
unfolding shelved
all-shelved ws lex =
    let some = all-some 64 ws lex in
    let r = all-opened ws some lex.ascending in
    let m = opened ws in
    let c = close-leaves m.shelf r.valid (first_word ws) m.numbers r.begun in
    let f = r.few in
    let n = c.1 in
    record {
      valid = c.0.valid;
      known = c.0.known;
      words_are = ap words_of_all (c.0.is ∙ r.is) ∙ branches-words ws some;
      few = omega arith;
    }

-- the graph, by the pass and numbers alone
pub shelf-built : (ws : List Word) → Lexicon 64 ws → built ws ≡ numbered_graph (shelved ws).shelf (shelved ws).number
shelf-built ws lex =
    let s = all-shelved ws lex in
    built-numbered (shelved ws).shelf s.valid (shelved ws).number s.known ws s.words_are
