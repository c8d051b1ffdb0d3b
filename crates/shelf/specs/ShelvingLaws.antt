-- What the pass leaves on the shelf stands for the list's words.
use Rattle.std.specs.Prelude.{◌≡◌, refl, Bool, true, ◌&&◌, ◌≢◌, ◌⊎◌, ℕ, suc, ◌+◌, ◌≤◌, ◌<◌, eqb, length}
use Rattle.std.proofs.Common.{sym, ap, ap₂, ◌∙◌, subst, true≢false, inl, inr, ⊎_elim, arith, eq-eqb, eqb-true}
use mathlib.Core.List.Memᴰ
use mathlib.Core.List.{List, [], ◌∷◌, ◌++◌, Memᴰ}
use Rattle.std.proofs.lemmas.Bool.{eqb-false}
use Rattle.laws.specs.Cases.{and_left, and_right, split}
use Rattle.laws.specs.Lists.{has_entries, is_empty}
use Rattle.laws.specs.Same.{Exact}
use Rattle.laws.proofs.SameLaws.{exact-apart}
use Rattle.base.specs.Numbers.{flag, flag-read}
use Rattle.graph.specs.Words.{Word}
use Rattle.built.specs.BranchLaws.{empty_word, words_of_all}
use Rattle.built.specs.Branches.{Branch, branch}
use Rattle.shelf.specs.Shelf.{FirstAbove, Shelf, ShelfEntry, SoundShelf, tail_of}
use Rattle.shelf.specs.ShelfLaws.{branch-below, branch_of, tail_below, tail_top}
use Rattle.shelf.specs.Shelving.{Put, close, entry_number, put_on, same_entry, shelf_entry}

-- ---- one shelf after another
pub record Extends (d d' : Shelf) : Type 0 where
  pub longer : length d ≤ length d'
  pub keeps : (n : ℕ) → n ≤ length d → tail_of d' n ≡ tail_of d n

pub extends-same : (d : Shelf) → Extends d d
extends-same d = record { longer = omega arith; keeps = λ n h. refl }

extends-then : {a b c : Shelf} → Extends a b → Extends b c → Extends a c
extends-then {a} {b} {c} h k =
    let x = h.longer in
    let y = k.longer in
    record { longer = omega arith; keeps = λ n i. k.keeps n (omega arith) ∙ h.keeps n i }

-- ---- an entry's number
flag_same : (a b : Bool) → flag a ≡ flag b → a ≡ b
flag_same a b e = sym (flag-read a) ∙ ap (λ k. eqb k 1) e ∙ flag-read b

entry-equal : (e f : ShelfEntry) → same_entry e f ≡ true → e ≡ f
entry-equal e f q =
    let a = eqb e.tile f.tile in
    let b = eqb (flag e.accepts) (flag f.accepts) in
    let c = eqb e.child f.child in
    let x = eqb e.next f.next in
    let abc = and_left (a && b && c) x q in
    let ab = and_left (a && b) c abc in
    let t = eqb-true e.tile f.tile (and_left a b ab) in
    let s = flag_same e.accepts f.accepts (eqb-true (flag e.accepts) (flag f.accepts) (and_right a b ab)) in
    let u = eqb-true e.child f.child (and_right (a && b) c abc) in
    let w = eqb-true e.next f.next (and_right (a && b && c) x q) in
    λ i. record { tile = t i; accepts = s i; child = u i; next = w i }

pub exact-entry : Exact same_entry
exact-entry =
    record {
      equal = entry-equal;
      itself = λ e. rw (
        eq-eqb e.tile e.tile refl,
        eq-eqb (flag e.accepts) (flag e.accepts) refl,
        eq-eqb e.child e.child refl,
        eq-eqb e.next e.next refl,
      );
    }

pub not_there : (d : Shelf) (e : ShelfEntry) → entry_number d e ≡ 0 → Memᴰ e d → ⊥
unfolding entry_number
not_there [] e q m = Memᴰ.not-nil m
not_there (f ∷ d) e q m =
    split (same_entry e f)
    (λ t. let z : suc (length d) ≡ 0 = rw (t, entry_number) at q in omega arith)
    (λ t. ⊎_elim
    (λ (i : e ≡ f). exact-apart exact-entry e f t i)
    (λ (k : Memᴰ e d). not_there d e (rw (t, entry_number) at q) k)
    (Memᴰ.cases_cons m))

-- what a number stands for that was put
record Stood (d : Shelf) (e : ShelfEntry) (n : ℕ) : Type 0 where
  known : n ≤ length d
  child-known : e.child ≤ length d
  next_known : e.next ≤ length d
  is : tail_of d n ≡ branch_of d e ∷ tail_of d e.next

top-Stood : (e : ShelfEntry) (d : Shelf) → e.child ≤ length d → e.next ≤ length d → Stood (e ∷ d) e (suc (length d))
top-Stood e d c n =
    record {
      known = omega arith;
      child-known = omega arith;
      next_known = omega arith;
      is = tail_top e d ∙ ap₂ ◌∷◌ (sym (branch-below e e d c)) (sym (tail_below e d e.next n));
    }

Stood-below : (f : ShelfEntry) (d : Shelf) (e : ShelfEntry) (n : ℕ) → Stood d e n → Stood (f ∷ d) e n
Stood-below f d e n s =
    let a = s.known in
    let b = s.child-known in
    let c = s.next_known in
    record {
      known = omega arith;
      child-known = omega arith;
      next_known = omega arith;
      is = tail_below f d n a ∙ s.is ∙ ap₂ ◌∷◌ (sym (branch-below f e d b)) (sym (tail_below f d e.next c));
    }

there : (d : Shelf) → SoundShelf d → (e : ShelfEntry) → entry_number d e ≢ 0 → Stood d e (entry_number d e)
unfolding entry_number
there [] v e n = absurd (n refl)
there (f ∷ d) v e n =
    split (same_entry e f)
    (λ t.
    let i = exact-entry.equal e f t in
    rw (t, entry_number) (subst (λ x. Stood (f ∷ d) x (suc (length d))) (sym i) (top-Stood f d v.0.child-known v.0.next_known)))
    (λ t. rw (t, entry_number) (Stood-below f d e (entry_number d e) (there d v.1 e (λ z. n (rw (t, entry_number) z)))))

-- ---- put
-- all that an entry needs but to be new
record Shelvable (d : Shelf) (e : ShelfEntry) : Type 0 where
  child-known : e.child ≤ length d
  next_known : e.next ≤ length d
  some : (e.accepts ≡ true) ⊎ (e.child ≢ 0)
  rises : FirstAbove e.tile (tail_of d e.next)

pub record Leaves (d : Shelf) (bs : List Branch) (p : Put) : Type 0 where
  pub valid : SoundShelf p.shelf
  pub extends : Extends d p.shelf
  pub known : p.number ≤ length p.shelf
  pub is : tail_of p.shelf p.number ≡ bs

put-leaves : (d : Shelf) → SoundShelf d → (e : ShelfEntry) → Shelvable d e
    → Leaves d (branch_of d e ∷ tail_of d e.next) (put_on d e) × (length (put_on d e).shelf ≤ suc (length d)) × (0 < (put_on d e).number)
unfolding put_on
put-leaves d v e r =
    split (eqb (entry_number d e) 0)
    (λ t. rw (t, put_on) (
      record {
        valid = (record { child-known = r.child-known; next_known = r.next_known; some = r.some; rises = r.rises; new = not_there d e (eqb-true (entry_number d e) 0 t) }, v);
        extends = record { longer = omega arith; keeps = tail_below e d };
        known = omega arith;
        is = tail_top e d;
      },
      omega arith,
      omega arith,
    ))
    (λ t.
    let n = eqb-false (entry_number d e) 0 t in
    let s = there d v e n in
    rw (t, put_on) (record { valid = v; extends = extends-same d; known = s.known; is = s.is }, omega arith, omega arith))

-- ---- the open word
abbrev pub OpenWord : Shelf → Word → List ℕ → Type 0
OpenWord d [] [] = ⊥
OpenWord d [] (x ∷ xs) = x ≤ length d
OpenWord d (t ∷ u) [] = ⊥
OpenWord d (t ∷ u) (x ∷ xs) = (x ≤ length d) × FirstAbove t (tail_of d x) × OpenWord d u xs

-- the branches that it stands for
abbrev pub open_branches : Shelf → Word → List ℕ → List Branch
open_branches d [] [] = []
open_branches d [] (x ∷ xs) = tail_of d x
open_branches d (t ∷ u) [] = []
open_branches d (t ∷ u) (x ∷ xs) = branch t (empty_word (is_empty u) ++ words_of_all (open_branches d u xs)) ∷ tail_of d x

filled_or : (w : Word) {C : Type 0} → (is_empty w ≡ true → C) → (has_entries w ≡ true → C) → C
filled_or [] a b = a refl
filled_or (t ∷ u) a b = b refl

pub close-leaves : (d : Shelf) → SoundShelf d → (w : Word) (xs : List ℕ) → OpenWord d w xs
    → Leaves d (open_branches d w xs) (close d w xs) × (length (close d w xs).shelf ≤ length d + length w) × (has_entries w ≡ true → 0 < (close d w xs).number)
unfolding close
close-leaves d v [] [] o = absurd o
close-leaves d v [] (x ∷ xs) o = (record { valid = v; extends = extends-same d; known = o; is = refl }, omega arith, λ e. absurd (true≢false (sym e)))
close-leaves d v (t ∷ u) [] o = absurd o
close-leaves d v (t ∷ u) (x ∷ xs) o =
    let r = close-leaves d v u xs o.2 in
    let c = close d u xs in
    let k = r.0 in
    let l = k.extends.longer in
    let xk = o.0 in
    let tail = k.extends.keeps x xk in
    let e = shelf_entry t (is_empty u) c.number x in
    let ready : Shelvable c.shelf e = record {
      child-known = k.known;
      next_known = omega arith;
      some = filled_or u (λ a. inl a) (λ f. inr (λ z. let p = r.2 f in omega arith));
      rises = subst (FirstAbove t) (sym tail) o.1;
    } in
    let p = put-leaves c.shelf k.valid e ready in
    let m = p.1 in
    let n = r.1 in (
      record {
        valid = p.0.valid;
        extends = extends-then k.extends p.0.extends;
        known = p.0.known;
        is = p.0.is ∙ ap₂ (λ ws bs. branch t (empty_word (is_empty u) ++ words_of_all ws) ∷ bs) k.is tail;
      },
      omega arith,
      λ _. p.2,
    )
