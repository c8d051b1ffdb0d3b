-- A word closed tile by tile, from the last on. The idea: closing from a depth on is a put of that depth's tile over the closing from the next.
use mathlib.Core.Path.{◌≡◌, refl, sym, ap, ap₂, ◌∙◌, subst}
use mathlib.Core.Logic.{◌≢◌, ⊎_elim}
use mathlib.Core.List.{List, [], ◌∷◌, ◌++◌}
use Prim.Native.Nat.{ℕ, zero, suc, ◌+◌, ◌-◌, ◌≤◌, ◌<◌}
use native.Mathlib.Omega.{arith}
use borrow.Author.Tests.{ne_eqb}
use lib.Dec.{eqb, eqb-suc-suc}
use lib.ListN.{length, get_or, take, drop, set, length-set, length-append, get_or-append, get_or-eq_default}
use lib.Seq.{drop-cons, drop-length, get_or-take, get_or_at, get_or-set_same, get_or-set_other, length-take-le}
use Rattle.laws.specs.Cases.{same?, below?}
use Rattle.laws.specs.Lists.{all_mem, is_empty}
use Rattle.laws.specs.Members.{at_in}
use Rattle.graph.specs.Words.{Word}
use Rattle.dictionary.specs.KeyNumbered.{KeyNumbered}
use Rattle.dictionary.specs.NumberingLaws.{count_most}
use Rattle.dictionary.specs.declared.KeyNumber.{KeyNumber}
use Rattle.shelf.specs.Shelf.{ShelfEntry, Shelf, SoundShelf}
use Rattle.shelf.specs.Shelving.{shelf_entry, Put, put_on, close}
use Rattle.shelf.specs.ShelvingLaws.{OpenWord, close-leaves}
use Rattle.shelf.specs.GrowthLaws.{close-deeper}
use Rattle.tails.specs.Tails.{tail_limit, key_of, Narrow, HoldsTails, Closing, Closable, WordClosed}
use Rattle.tails.proofs.PutLaws.{put_holds, put-number}

-- ---- what is open, from a depth on
open-from : (sh : Shelf) (w : Word) (xs : List ℕ) (m : ℕ) → m ≤ length w → OpenWord sh w xs → OpenWord sh (drop m w) (drop m xs)
open-from sh w xs zero h o = o
open-from sh [] xs (suc m) h o = absurd (omega arith)
open-from sh (t ∷ u) [] (suc m) h o = absurd o
open-from sh (t ∷ u) (x ∷ xs) (suc m) h o = open-from sh u xs m (omega arith) o.2

empty-from : (w : Word) (d : ℕ) → d ≤ length w → is_empty (drop d w) ≡ eqb d (length w)
empty-from [] zero h = refl
empty-from [] (suc d) h = absurd (omega arith)
empty-from (t ∷ u) zero h = sym (ne_eqb 0 (suc (length u)) (λ e. omega arith))
empty-from (t ∷ u) (suc d) h = empty-from u d (omega arith) ∙ sym (eqb-suc-suc d (length u))

-- ---- the last tile closes first
close-last : (sh : Shelf) (w : Word) (xs : List ℕ) → length xs ≡ suc (length w)
    → close sh (drop (length w) w) (drop (length w) xs) ≡ record { shelf = sh; number = get_or xs (length w) 0 }
unfolding close
close-last sh w xs e = rw (drop-length w, drop-cons xs (length w) 0 (omega arith))

close-step : (sh : Shelf) (w : Word) (xs : List ℕ) (d : ℕ) → length xs ≡ suc (length w) → 0 < d → d ≤ length w
    → close sh (drop (d - 1) w) (drop (d - 1) xs)
    ≡ (let below = close sh (drop d w) (drop d xs) in put_on below.shelf (shelf_entry (get_or w (d - 1) 0) (eqb d (length w)) below.number (get_or xs (d - 1) 0)))
unfolding close
close-step sh w xs d e p h =
    let s : suc (d - 1) ≡ d = omega arith in
    let a : drop (d - 1) w ≡ get_or w (d - 1) 0 ∷ drop d w = drop-cons w (d - 1) 0 (omega arith) ∙ ap (λ k. get_or w (d - 1) 0 ∷ drop k w) s in
    let b : drop (d - 1) xs ≡ get_or xs (d - 1) 0 ∷ drop d xs = drop-cons xs (d - 1) 0 (omega arith) ∙ ap (λ k. get_or xs (d - 1) 0 ∷ drop k xs) s in
    ap₂ (close sh) a b
    ∙ ap (λ f. put_on (close sh (drop d w) (drop d xs)).shelf (shelf_entry (get_or w (d - 1) 0) f (close sh (drop d w) (drop d xs)).number (get_or xs (d - 1) 0)))
    (empty-from w d h)

-- ---- a word closed from depth d on
pub record ClosedFrom (w : Word) (sh : Shelf) (xs : List ℕ) (n : ℕ) (behind dict : List ℕ) (d k : ℕ) : Type 0 where
  pub holds : HoldsTails n dict k (close sh (drop d w) (drop d xs)).shelf
  pub here : get_or behind d 0 ≡ (close sh (drop d w) (drop d xs)).number
  pub below : (i : ℕ) → i < d → get_or behind i 0 ≡ get_or xs i 0
  pub above : (i : ℕ) → d < i → get_or behind i 0 ≡ 0

module _ {w : Word} {behind₀ : List ℕ} {n : ℕ} {dict₀ : List ℕ} {count : ℕ} {sh : Shelf} {xs : List ℕ}
    (c : Closing w behind₀ n dict₀ count sh xs) where
  closed_none : ClosedFrom w sh xs n behind₀ dict₀ (length w) count
  closed_none =
      let e = close-last sh w xs c.each in
      record {
        holds = rw e c.holds;
        here = c.numbers (length w) ∙ ap (λ (p : Put). p.number) (sym e);
        below = λ i h. c.numbers i;
        above = λ i h. c.numbers i ∙ get_or-eq_default xs 0 (let l = c.each in omega arith);
      }

  module _ {behind dict : List ℕ} {d k : ℕ} (q : ClosedFrom w sh xs n behind dict d k) (within : d ≤ length w) where
    abbrev beneath : Put
    beneath = close sh (drop d w) (drop d xs)

    known : beneath.number ≤ length beneath.shelf
    known = (close-leaves sh c.holds.shelves.valid (drop d w) (drop d xs) (open-from sh w xs d within c.begun)).0.known

    pub child-small : get_or behind d 0 < tail_limit
    child-small =
        let a = known in
        let b = q.here in
        let e = q.holds.size in
        let f = q.holds.few in
        let s = q.holds.small in
        omega arith

    module _ (some : 0 < d) where
      pub tile-small : get_or w (d - 1) 0 < 64
      tile-small = (all_mem (λ t. (1 ≤ t) × (t < 64)) w (get_or w (d - 1) 0) c.fine.tiles (at_in w (d - 1) 0 (omega arith))).1

      -- the entry that the tile before depth d becomes
      abbrev closing : ShelfEntry
      closing = shelf_entry (get_or w (d - 1) 0) (eqb d (length w)) beneath.number (get_or xs (d - 1) 0)

      entry-is : shelf_entry (get_or w (d - 1) 0) (eqb d (length w)) (get_or behind d 0) (get_or behind (d - 1) 0) ≡ closing
      entry-is = ap₂ (shelf_entry (get_or w (d - 1) 0) (eqb d (length w))) q.here (q.below (d - 1) (omega arith))

      module _ (room : k + 1 < n) (long : length behind ≡ 65) (short : d < 65) {key : ℕ} {dict' : List ℕ} {r : KeyNumber}
          (key-is : key ≡ key_of (shelf_entry (get_or w (d - 1) 0) (eqb d (length w)) (get_or behind d 0) (get_or behind (d - 1) 0)))
          (numbered : KeyNumbered n dict k key dict' r) where
        abbrev behind' : List ℕ
        behind' = set (set behind d 0) (d - 1) (r.number + 1)

        by_key : KeyNumbered n dict k (key_of closing) dict' r
        by_key = subst (λ x. KeyNumbered n dict k x dict' r) (key-is ∙ ap key_of entry-is) numbered

        narrow : Narrow closing
        narrow = record { tile = tile-small; child = let a = child-small in let b = q.here in omega arith }

        step : close sh (drop (d - 1) w) (drop (d - 1) xs) ≡ put_on beneath.shelf closing
        step = close-step sh w xs d c.each some within

        valid : SoundShelf (put_on beneath.shelf closing).shelf
        valid =
            subst (λ (p : Put). SoundShelf p.shelf) step
            (close-leaves sh c.holds.shelves.valid (drop (d - 1) w) (drop (d - 1) xs) (open-from sh w xs (d - 1) (omega arith) c.begun)).0.valid

        other : (i : ℕ) → i ≢ d → i ≢ d - 1 → get_or behind' i 0 ≡ get_or behind i 0
        other i a b = get_or-set_other (set behind d 0) (d - 1) i (r.number + 1) 0 b ∙ get_or-set_other behind d i 0 0 a

        pub closed-next : ClosedFrom w sh xs n behind' dict' (d - 1) r.count
        closed-next =
            record {
              holds = rw step (put_holds q.holds closing narrow valid room by_key);
              here = get_or-set_same (set behind d 0) (d - 1) (r.number + 1) 0 (let l = length-set behind d 0 in omega arith)
                  ∙ put-number q.holds closing narrow valid room by_key ∙ ap (λ (p : Put). p.number) (sym step);
              below = λ i h. other i (λ e. omega arith) (λ e. omega arith) ∙ q.below i (omega arith);
              above = λ i h. ⊎_elim
                  (λ (e : i ≡ d). get_or-set_other (set behind d 0) (d - 1) i (r.number + 1) 0 (λ f. omega arith)
                  ∙ ap (λ j. get_or (set behind d 0) j 0) e ∙ get_or-set_same behind d 0 0 (omega arith))
                  (λ (e : i ≢ d). other i e (λ f. omega arith) ∙ q.above i (omega arith))
                  (same? i d);
            }

  -- down to the tiles that are kept
  module _ {behind dict : List ℕ} {kept k : ℕ} (q : ClosedFrom w sh xs n behind dict kept k) (within : kept ≤ length w)
      (long : length behind ≡ 65) where
    pub word-closed : WordClosed w kept sh xs n behind dict k
    word-closed =
        let l = c.each in
        let t = length-take-le kept xs (omega arith) in
        let x = (close sh (drop kept w) (drop kept xs)).number in
        let m = length-append (take kept xs) (x ∷ []) in
        record {
          holds = q.holds;
          long = long;
          numbers = λ i. ⊎_elim
              (λ (h : i < kept). q.below i h ∙ sym (get_or-append (take kept xs) (x ∷ []) 0 i (omega arith) ∙ get_or-take kept xs i 0 h))
              (λ (h : kept ≤ i). ⊎_elim
              (λ (j : kept < i). q.above i j ∙ sym (get_or-eq_default (take kept xs ++ x ∷ []) 0 (omega arith)))
              (λ (j : i ≤ kept).
              let e : i ≡ kept = omega arith in
              ap (λ p. get_or behind p 0) e ∙ q.here ∙ sym (get_or_at (take kept xs) x [] 0 i (omega arith)))
              (below? kept i))
              (below? i kept);
        }

-- ---- the loop
pub record Closes (w : Word) (kept : ℕ) (behind₀ : List ℕ) (n : ℕ) (dict₀ : List ℕ) (count : ℕ) (behind dict : List ℕ) (d tails : ℕ) : Type 0 where
  pub from : kept ≤ d
  pub within : d ≤ length w
  pub long : length behind ≡ 65
  pub same-long : length dict ≡ length dict₀
  pub spent : tails + d ≤ count + length w
  pub closed : (sh : Shelf) (xs : List ℕ) → Closing w behind₀ n dict₀ count sh xs → ClosedFrom w sh xs n behind dict d tails

module _ {w : Word} {kept : ℕ} {behind₀ : List ℕ} {n : ℕ} {dict₀ : List ℕ} {count : ℕ} (c : Closable w kept behind₀ n dict₀ count) where
  pub Closes-start : Closes w kept behind₀ n dict₀ count behind₀ dict₀ (length w) count
  Closes-start =
      record {
        from = c.within;
        within = omega arith;
        long = c.closing.long;
        same-long = refl;
        spent = omega arith;
        closed = λ sh xs k. closed_none k;
      }

  module _ {behind dict : List ℕ} {d tails : ℕ} (q : Closes w kept behind₀ n dict₀ count behind dict d tails) where
    pub shallow : d < 65
    shallow = let a = q.within in let b = c.closing.fine.short in omega arith

    pub holding : HoldsTails n dict tails (close c.sh (drop d w) (drop d c.xs)).shelf
    holding = (q.closed c.sh c.xs c.closing).holds

    pub entry-small : kept < d → (get_or w (d - 1) 0 < 64) × (get_or behind d 0 < tail_limit)
    entry-small h =
        let f = q.closed c.sh c.xs c.closing in
        (tile-small c.closing f q.within (omega arith), child-small c.closing f q.within)

    -- the tile before depth d closed, at the place `above` counted from its own
    pub closes_next : kept < d → tails + 1 < n → {above key : ℕ} {dict' : List ℕ} {r : KeyNumber} → above ≡ d
        → key ≡ key_of (shelf_entry (get_or w (d - 1) 0) (eqb above (length w)) (get_or behind above 0) (get_or behind (d - 1) 0))
        → KeyNumbered n dict tails key dict' r → length dict' ≡ length dict
        → Closes w kept behind₀ n dict₀ count (set (set behind above 0) (d - 1) (r.number + 1)) dict' (d - 1) r.count
    closes_next h room {above} {key} {dict'} {r} at key-is numbered kept-long =
        let a = q.within in
        let b = q.spent in
        let most = count_most numbered in
        rw at (record {
          from = omega arith;
          within = omega arith;
          long = length-set (set behind d 0) (d - 1) (r.number + 1) ∙ length-set behind d 0 ∙ q.long;
          same-long = kept-long ∙ q.same-long;
          spent = omega arith;
          closed = λ sh xs k. closed-next k (q.closed sh xs k) q.within (omega arith) room q.long shallow (rw at at key-is) numbered;
        })

    -- no room for one more: there would be as many tails as a graph has nodes for
    pub no_room : kept < d → n ≤ tails + 1 → (sh : Shelf) (xs : List ℕ) → Closing w behind₀ n dict₀ count sh xs
        → tail_limit ≤ suc (length (close sh (drop kept w) (drop kept xs)).shelf)
    no_room h full sh xs k =
        let a = q.spent in
        let b = (q.closed sh xs k).holds.size in
        let g = close-deeper sh w xs kept d q.from in
        ⊎_elim (λ (r : count + length w < n). absurd (omega arith)) (λ (e : n ≡ tail_limit). omega arith) k.room

    pub closes_done : d ≤ kept → (sh : Shelf) (xs : List ℕ) → Closing w behind₀ n dict₀ count sh xs → WordClosed w kept sh xs n behind dict tails
    closes_done h sh xs k =
        let f = q.from in
        let e : d ≡ kept = omega arith in
        word-closed k (subst (λ j. ClosedFrom w sh xs n behind dict j tails) e (q.closed sh xs k)) c.within q.long
