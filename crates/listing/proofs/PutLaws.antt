-- Bytes put at the front of a list, and the parts of a line put one after the other.
use mathlib.Core.Path.{◌≡◌, ◌∙◌}
use mathlib.Core.List.{List, [], ◌∷◌}
use Prim.Native.Nat.{ℕ, ◌≤◌}
use native.Mathlib.Omega.{arith}
use lib.ListN.{length, get_or}
use Rattle.laws.specs.ListWrites.{sets-front}
use Rattle.endian.specs.Puts.{Puts, put_both}
use Rattle.decimal.specs.Decimal.{decimal}
use Rattle.graph.specs.Words.{Word}
use Rattle.listing.specs.Lines.{parted, line}
use Rattle.listing.specs.Said.{AtFront}

pub put_front : {xs a b : List ℕ} {end : ℕ} → Puts xs a 0 b end → length xs ≤ length a → AtFront xs a b end
put_front {xs} {a} p h = record { size = p.place ∙ omega arith; stored = p.stored ∙ sets-front a xs h }

-- ---- the parts of a line
module _ {a b c : List ℕ} {at mid end : ℕ} (w : Word) where
  -- one of the others
  pub put-spaced : (t i : ℕ) → t ≡ get_or w i 0 → Puts (0x20 ∷ []) a at b mid → Puts (decimal t) b mid c end
      → Puts (0x20 ∷ decimal (get_or w i 0)) a at c end
  put-spaced t i e p q = rw (← e) (put_both p q)

pub put-parts : (n : ℕ) (w : Word) {a b c d e : List ℕ} {at tab tiles last end : ℕ} → Puts (decimal n) a at b tab
    → Puts (0x09 ∷ []) b tab c tiles
    → Puts (parted w) c tiles d last → Puts (0x0A ∷ []) d last e end → Puts (line n w) a at e end
unfolding line
put-parts n w p q r s = put_both (put_both p (put_both q r)) s
