-- Bytes written piece after piece. The idea: what is left to write, written where it goes, gives the whole written at once.
use Rattle.std.specs.Prelude.{◌≡◌, refl, List, [], ◌++◌, ℕ, ◌+◌, ◌≤◌, length}
use Rattle.std.proofs.Common.{ap, sym, ◌∙◌, arith, length-append}
use Rattle.std.proofs.lemmas.List.Edits.{sets}
use Rattle.std.proofs.Math.Seq.{length-sets}
use Rattle.laws.specs.ListWrites.{sets_append}

-- `all` is written at `at` over `before`; what is left of it is `rest`, to be written at w over `now`
pub record Putting (all before : List ℕ) (at : ℕ) (rest now : List ℕ) (w : ℕ) : Type 0 where
  pub size : length now ≡ length before
  pub place : w + length rest ≡ at + length all
  pub stored : sets now w rest ≡ sets before at all

pub put-start : (all before : List ℕ) (at : ℕ) → Putting all before at all before at
put-start all before at = record { size = refl; place = refl; stored = refl }

module _ {all before : List ℕ} {at : ℕ} {rest now : List ℕ} {w : ℕ} (h : Putting all before at rest now w) where
  -- the next piece has room
  pub put-room : (piece rest' : List ℕ) → rest ≡ piece ++ rest' → at + length all ≤ length before → w + length piece ≤ length now
  put-room piece rest' e room = omega (arith, h.size, h.place, ap length e, length-append piece rest')

  pub put_next : (piece rest' : List ℕ) → rest ≡ piece ++ rest' → {now' : List ℕ} {w' : ℕ} → w' ≡ w + length piece → now' ≡ sets now w piece
      → Putting all before at rest' now' w'
  put_next piece rest' e i s =
      record {
        size = ap length s ∙ length-sets now w piece ∙ h.size;
        place = omega (arith, i, h.place, ap length e, length-append piece rest');
        stored = rw (s, i) (sym (sets_append now w piece rest') ∙ ap (sets now w) (sym e) ∙ h.stored);
      }

  pub put-done : rest ≡ [] → now ≡ sets before at all
  put-done e = sym (ap (sets now w) e) ∙ h.stored

  pub put-end : rest ≡ [] → w ≡ at + length all
  put-end e = omega (arith, h.place, ap length e)
