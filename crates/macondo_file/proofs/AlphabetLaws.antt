-- How many letters there are, how high the number written for a tile can be, that a tile's label stands at it among the code points, and
-- that no other tile has it. The idea: the letters are the tiles from 1 up, so a letter's place among them determines its tile.
use Rattle.std.specs.Prelude.{◌≡◌, refl, true, false, ◌≢◌, eqb, length, get_or}
use Rattle.std.proofs.Common.{sym, ◌∙◌}
use Rattle.std.proofs.Math.Path.{ap}
use mathlib.Core.List.{List, [], ◌∷◌, Memᴰ}
use Prim.Native.Nat.{ℕ, zero, suc, ◌-◌, ◌≤◌, ◌<◌}
use native.Mathlib.Omega.{arith}
use Rattle.std.proofs.lemmas.List.{length-map}
use borrow.Author.Tests.{eqb-true, eqb-false, ne_eqb}
use Rattle.laws.specs.Cases.{split}
use Rattle.laws.specs.Firsts.{place_in, place_le, place_lt, place_at}
use Rattle.laws.specs.Members.{get_or-map-in}
use Rattle.laws.specs.Sorting.{inserted_all, in_sorted, sorted_in, sorted-length}
use Rattle.laws.specs.Tables.{table, table-length, table_in, from-table}
use Rattle.macondo_file.specs.Alphabet.{precedes, tiles_up, letters, letter_in, letter_of}
use Rattle.macondo_file.specs.File.{code_points}

-- labels that descend: tile 2 ranks first, and so does its code point
letters_ranked : code_points (0x3F ∷ 0x42 ∷ 0x41 ∷ []) ≡ 0x41 ∷ 0x42 ∷ []
unfolding letters inserted_all table
letters_ranked = refl

module _ (labels : List ℕ) where
  letters-length : length (letters labels) ≡ length labels - 1
  unfolding letters
  letters-length = sorted-length (precedes labels) (tiles_up labels) ∙ table-length (length labels - 1) suc

  pub letter-most : length labels ≤ 50 → (t : ℕ) → letter_of labels t ≤ 50
  unfolding letter_of
  letter-most fifty t =
      let a = place_le (letters labels) t in
      let b = letters-length in
      split (eqb t 0) (λ e. rw (e, letter_in) (omega arith)) (λ e. rw (e, letter_in) (omega arith))

  letters_in : (t : ℕ) → 0 < t → t < length labels → Memᴰ t (letters labels)
  unfolding letters
  letters_in zero z h = absurd (omega arith)
  letters_in (suc i) z h =
      sorted_in (precedes labels) (tiles_up labels) (suc i) (table_in (length labels - 1) suc i (omega arith))

  pub in_letters : (t : ℕ) → Memᴰ t (letters labels) → (0 < t) × (t < length labels)
  unfolding letters
  in_letters t m =
      let r = from-table (length labels - 1) suc t (in_sorted (precedes labels) (tiles_up labels) t m) in
      let h = r.1 in
      let e = r.2 in
      (omega arith, omega arith)

  letter-place : (t : ℕ) → 0 < t → letter_of labels t ≡ place_in (letters labels) t
  unfolding letter_of
  letter-place t z = rw (ne_eqb t 0 (λ e. omega arith), letter_in)

  -- ---- the code points
  -- the one at a tile's letter is the tile's label
  pub code_point_at : (t : ℕ) → 0 < t → t < length labels → (z : ℕ) → get_or (code_points labels) (letter_of labels t) z ≡ get_or labels t 0
  code_point_at t some h z =
      let label : ℕ → ℕ = λ u. get_or labels u 0 in
      let m = letters_in t some h in
      ap (λ r. get_or (code_points labels) r z) (letter-place t some)
      ∙ get_or-map-in label (letters labels) (place_in (letters labels) t) 0 z (place_lt (letters labels) t m)
      ∙ ap label (place_at (letters labels) t m)

  pub code_points_length : length (code_points labels) ≡ length labels - 1
  code_points_length = length-map (letters labels) (λ t. get_or labels t 0) ∙ letters-length

  -- ---- a letter determines its tile
  abbrev tile_of : ℕ → ℕ
  tile_of r = elim (eqb r 50) [ true ↦ 0 | false ↦ get_or (letters labels) r 0 ]

  letter-back : length labels ≤ 50 → (t : ℕ) → t < length labels → tile_of (letter_of labels t) ≡ t
  unfolding letter_of
  letter-back fifty t h =
      split (eqb t 0)
      (λ e. rw (e, letter_in) (sym (eqb-true t 0 e)))
      (λ e.
      let n : t ≢ 0 = eqb-false t 0 e in
      let z : 0 < t = omega arith in
      let m = letters_in t z h in
      let a = place_lt (letters labels) t m in
      let b = letters-length in
      ap tile_of (letter-place t z) ∙ rw (ne_eqb (place_in (letters labels) t) 50 (λ i. omega arith), tile_of) (place_at (letters labels) t m))

  pub letter-apart : length labels ≤ 50 → (t u : ℕ) → t < length labels → u < length labels → letter_of labels t ≡ letter_of labels u → t ≡ u
  letter-apart fifty t u h k e = sym (letter-back fifty t h) ∙ ap tile_of e ∙ letter-back fifty u k
