-- The scan of the record, group after group. The idea: the numbers not in play from a group on are those of the group, told by its clear bits,
-- and those from the next group on.
use mathlib.Core.Path.{◌≡◌, sym, ap, ◌∙◌}
use mathlib.Core.Bool.{Bool, not}
use mathlib.Core.Logic.{◌≢◌}
use mathlib.Core.List.{List, [], ◌++◌, append-nil}
use Prim.Native.Nat.{ℕ, ◌+◌, ◌-◌, ◌*◌, ◌/◌, ◌%◌, ◌^◌, ◌≤◌, ◌<◌}
use native.Mathlib.Nat.{mod-lt}
use native.Mathlib.Omega.{arith}
use lib.Count.{ones, count_trailing_zeros}
use lib.ListN.{length, length-append}
use lib.Pow.{pow_pos}
use lib.Seq.{slice}
use Rattle.laws.specs.Bits.{has_bit}
use Rattle.laws.specs.Lists.{filtered, none_left}
use Rattle.laws.specs.Members.{filtered-length, filtered_append}
use Rattle.in_play.specs.InPlay.{in_play, up_from, not_in_play}
use Rattle.in_play.specs.Groups.{Bytes, joined, clear_bits, last_clear, first_or}
use Rattle.in_play.proofs.UpFromLaws.{told-count, told-lowest, lowest-below, up_append, up-length}
use Rattle.in_play.proofs.GroupLaws.{low_bits, clear-below, clear-bit}

module _ (bits : List ℕ) (total : ℕ) where
  abbrev out : ℕ → Bool
  out n = not (in_play bits n)

  -- the numbers not in play from group g on
  abbrev pub left_from : ℕ → List ℕ
  left_from g = filtered out (up_from (64 * g) (total - 64 * g))

  pub all_left : not_in_play bits total ≡ left_from 0
  unfolding not_in_play
  all_left = let e : total ≡ total - 0 = omega arith in ap (λ n. filtered out (up_from 0 n)) e

  -- no more are left than there are words
  pub left-most : length (not_in_play bits total) ≤ total
  unfolding not_in_play
  left-most =
      let k = filtered-length out (up_from 0 total) in
      let u = up-length 0 total in
      omega arith

  module _ (bytes : Bytes bits) (enough : total ≤ 8 * length bits) where
    -- ---- a group that lies wholly below the count
    module _ (g : ℕ) (h : 64 * g + 64 ≤ total) where
      abbrev clear : ℕ
      clear = clear_bits (joined (slice (g * 8) (g * 8 + 8) bits))

      here : List ℕ
      here = filtered out (up_from (64 * g) 64)

      told : (k : ℕ) → k < 64 → out (64 * g + k) ≡ has_bit clear k
      told k l = let e : 64 * g + k ≡ 8 * (g * 8) + k = omega arith in
          ap out e ∙ clear-bit bits bytes (g * 8) (g * 8 + 8) (omega arith) k (omega arith)

      small : clear < 2 ^ 64
      small = clear-below (joined (slice (g * 8) (g * 8 + 8) bits))

      here-first : left_from g ≡ here ++ left_from (g + 1)
      unfolding here
      here-first =
          let a : total - 64 * g ≡ 64 + (total - 64 * (g + 1)) = omega arith in
          let b : 64 * g + 64 ≡ 64 * (g + 1) = omega arith in
          ap (λ n. filtered out (up_from (64 * g) n)) a
          ∙ ap (filtered out) (up_append (64 * g) 64 (total - 64 * (g + 1)) ∙ ap (λ n. up_from (64 * g) 64 ++ up_from n (total - 64 * (g + 1))) b)
          ∙ filtered_append out (up_from (64 * g) 64) (up_from (64 * (g + 1)) (total - 64 * (g + 1)))

      here-count : length here ≡ ones clear
      unfolding here
      here-count = told-count out 64 (64 * g) clear small told

      pub count_next : length (left_from g) ≡ ones clear + length (left_from (g + 1))
      count_next = ap length here-first ∙ length-append here (left_from (g + 1)) ∙ ap (λ n. n + length (left_from (g + 1))) here-count

      pub lowest-here : clear ≢ 0 → (z : ℕ) → first_or z (left_from g) ≡ 64 * g + count_trailing_zeros 64 clear
      unfolding here
      lowest-here n z = ap (first_or z) here-first ∙ told-lowest out 64 64 (64 * g) clear (omega arith) small n told (left_from (g + 1)) z

      -- a group with no clear bit
      pub none_here : clear ≡ 0 → left_from g ≡ left_from (g + 1)
      unfolding ones
      none_here e = here-first ∙ ap (λ l. l ++ left_from (g + 1)) (none_left here (here-count ∙ ap ones e))

    -- ---- the group in which the count ends
    last-small : last_clear bits total < 2 ^ (total % 64)
    last-small = mod-lt _ (pow_pos (total % 64))

    last-told : (k : ℕ) → k < total % 64 → out (64 * (total / 64) + k) ≡ has_bit (last_clear bits total) k
    last-told k h =
        let e : 64 * (total / 64) + k ≡ 8 * (total / 64 * 8) + k = omega arith in
        ap out e
        ∙ clear-bit bits bytes (total / 64 * 8) ((total + 7) / 8) (omega arith) k (omega arith)
        ∙ low_bits (clear_bits (joined (slice (total / 64 * 8) ((total + 7) / 8) bits))) (total % 64) k h

    last-left : left_from (total / 64) ≡ filtered out (up_from (64 * (total / 64)) (total % 64))
    last-left = let e : total - 64 * (total / 64) ≡ total % 64 = omega arith in rw e

    pub count-last : length (left_from (total / 64)) ≡ ones (last_clear bits total)
    count-last = ap length last-left ∙ told-count out (total % 64) (64 * (total / 64)) (last_clear bits total) last-small last-told

    -- some clear bit where a word is left there
    pub last_some : 0 < length (left_from (total / 64)) → last_clear bits total ≢ 0
    unfolding ones
    last_some h e = let c = count-last ∙ ap ones e in omega arith

    module _ (n : last_clear bits total ≢ 0) where
      pub lowest-last : (z : ℕ) → first_or z (left_from (total / 64)) ≡ 64 * (total / 64) + count_trailing_zeros 64 (last_clear bits total)
      lowest-last z =
          ap (first_or z) (last-left ∙ sym (append-nil (filtered out (up_from (64 * (total / 64)) (total % 64)))))
          ∙ told-lowest out (total % 64) 64 (64 * (total / 64)) (last_clear bits total) (omega arith) last-small n last-told [] z

      pub last-below : count_trailing_zeros 64 (last_clear bits total) < total % 64
      last-below = lowest-below (total % 64) 64 (last_clear bits total) (omega arith) last-small n
