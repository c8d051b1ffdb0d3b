-- Bytes put by one call, and those of several calls put together.
use Rattle.std.specs.Prelude.{◌≡◌, refl, List, [], ◌++◌, ℕ, ◌+◌, length}
use Rattle.std.proofs.Common.{sym, ap, ◌∙◌, add-zero, arith, length-append}
use Rattle.std.proofs.lemmas.List.Edits.{sets}
use Rattle.std.proofs.Math.Seq.{length-sets}
use Rattle.laws.specs.ListWrites.{sets_append}
use Rattle.endian.specs.Putting.{Putting, put_next, put-done, put-end}

-- bytes stored from a place on, and the place after them
pub record Puts (bytes before : List ℕ) (at : ℕ) (after : List ℕ) (end : ℕ) : Type 0 where
  pub place : end ≡ at + length bytes
  pub stored : after ≡ sets before at bytes

pub put-none : {l : List ℕ} {at : ℕ} → Puts [] l at l at
put-none {l} {at} = record { place = sym (add-zero at); stored = refl }

module _ {xs ys a b c : List ℕ} {at mid end : ℕ} where
  pub put_both : Puts xs a at b mid → Puts ys b mid c end → Puts (xs ++ ys) a at c end
  put_both p q =
      record {
        place = omega (arith, p.place, q.place, length-append xs ys);
        stored = rw (q.stored, p.stored, p.place) (sym (sets_append a at xs ys));
      }

pub put-size : {xs a b : List ℕ} {at end : ℕ} → Puts xs a at b end → length b ≡ length a
put-size {xs} {a} {b} {at} p = ap length p.stored ∙ length-sets a at xs

-- ---- a list of pieces, of which some are left
pub next-put : {all before : List ℕ} {at : ℕ} {rest now now' piece : List ℕ} {w w' : ℕ} (left : List ℕ) → Putting all before at rest now w
    → rest ≡ piece ++ left → Puts piece now w now' w' → Putting all before at left now' w'
next-put {piece = piece} left h e p = put_next h piece left e p.place p.stored

pub all-put : {all before : List ℕ} {at : ℕ} {rest now : List ℕ} {w : ℕ} → Putting all before at rest now w → rest ≡ []
    → Puts all before at now w
all-put h e = record { place = put-end h e; stored = put-done h e }
