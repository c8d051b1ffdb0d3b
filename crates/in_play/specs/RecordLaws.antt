-- One bit of the record turned over: what it says then of every number.
use Rattle.std.specs.Prelude.{◌≡◌, refl, not, ◌≢◌, List, ℕ, ◌/◌, ◌%◌, ◌^◌, ◌<◌, eqb, length}
use Rattle.std.proofs.Common.{sym, ◌∙◌, arith, eqb-true, eq-eqb, ne_eqb, length-set, get_or-set_other}
use Rattle.std.proofs.Math.Path.{ap, ap₂}
use Rattle.std.proofs.lemmas.Bool.{eqb-false}
use Rattle.std.specs.Int.Bits.{bit_xor}
use Rattle.std.proofs.Math.ListN.{get_or}
use Rattle.std.proofs.Math.Seq.{get_or-set_same}
use Rattle.laws.specs.Bits.{has_bit, power_bit, turned_if, xor_bit}
use Rattle.laws.specs.Cases.{split}
use Rattle.in_play.specs.InPlay.{in_play, turned}

module _ (bits : List ℕ) (n : ℕ) (h : n / 8 < length bits) where
  same_byte : (m : ℕ) → m / 8 ≡ n / 8 → in_play (turned bits n) m ≡ turned_if (in_play bits m) (eqb (m % 8) (n % 8))
  unfolding turned
  same_byte m e =
      ap (λ b. has_bit b (m % 8)) (ap (λ k. get_or (turned bits n) k 0) e ∙ get_or-set_same bits (n / 8) (bit_xor (get_or bits (n / 8) 0) (2 ^ (n % 8))) 0 h)
      ∙ xor_bit (get_or bits (n / 8) 0) (2 ^ (n % 8)) (m % 8)
      ∙ ap₂ turned_if (ap (λ k. has_bit (get_or bits k 0) (m % 8)) (sym e)) (power_bit (n % 8) (m % 8))

  other_byte : (m : ℕ) → m / 8 ≢ n / 8 → in_play (turned bits n) m ≡ in_play bits m
  unfolding turned
  other_byte m d = ap (λ b. has_bit b (m % 8)) (get_or-set_other bits (n / 8) (m / 8) (bit_xor (get_or bits (n / 8) 0) (2 ^ (n % 8))) 0 d)

  pub turned-here : in_play (turned bits n) n ≡ not (in_play bits n)
  turned-here = same_byte n refl ∙ ap (turned_if (in_play bits n)) (eq-eqb (n % 8) (n % 8) refl)

  pub turned_elsewhere : (m : ℕ) → m ≢ n → in_play (turned bits n) m ≡ in_play bits m
  turned_elsewhere m d =
      split (eqb (m / 8) (n / 8))
      (λ t.
      let e = eqb-true (m / 8) (n / 8) t in
      same_byte m e ∙ ap (turned_if (in_play bits m)) (ne_eqb (m % 8) (n % 8) (λ i. d (omega arith))))
      (λ t. other_byte m (eqb-false (m / 8) (n / 8) t))

pub turned-length : (bits : List ℕ) (n : ℕ) → length (turned bits n) ≡ length bits
unfolding turned
turned-length bits n = simp length-set
