-- The word buffer, label by label: the tiles put and those of the walk that is left are the whole's.
use mathlib.Core.Path.{◌≡◌}
use mathlib.Core.List.{List, []}
use Prim.Native.Nat.{ℕ, ◌+◌, ◌-◌, ◌≤◌, ◌<◌}
use native.Mathlib.Nat.{sub-zero}
use native.Mathlib.Omega.{arith}
use lib.ListN.{length, set, length-set}
use Rattle.laws.specs.Buffers.{Left, Filled, left-begins, left_is, left-put, left-done}
use Rattle.answers.specs.Answers.{Answer, refused}
use Rattle.label_index.specs.Labels.{Label}
use Rattle.typed.specs.Words.{tile_there, end_there, typed_step, typed_from}
use Rattle.typed.specs.WordLaws.{word-ends, word-full, word-puts}

pub left-start : (ls : List Label) (line : List ℕ) (start : ℕ) (w : List ℕ)
    → Left (typed_from ls line start (length w) 0 0) w 0 w (typed_from ls line start (length w - 0) 0 0)
left-start ls line start w = rw sub-zero (left-begins (typed_from ls line start (length w) 0 0) w)

module _ {whole : List ℕ × Answer} {w₀ : List ℕ} {n : ℕ} {w : List ℕ} (ls : List Label) (line : List ℕ) (start i : ℕ)
    (l : Left whole w₀ n w (typed_from ls line start (length w - n) n i)) where
  pub by_end : (r : Answer) → typed_step ls line start n i ≡ end_there r → Filled whole w₀ w r
  by_end r e = left-done r (left_is (word-ends ls line start (length w - n) n i r e) l)

  pub by-full : (t j : ℕ) → typed_step ls line start n i ≡ tile_there t j → length w ≤ n → Filled whole w₀ w (refused 16 [])
  by-full t j e h = left-done (refused 16 []) (left_is (word-full ls line start (length w - n) n i t j (omega arith) e) l)

  pub by-label : (t j : ℕ) → typed_step ls line start n i ≡ tile_there t j → n < length w
      → Left whole w₀ (n + 1) (set w n t) (typed_from ls line start (length (set w n t) - (n + 1)) (n + 1) j)
  by-label t j e h =
      let k : length w - n - 1 ≡ length w - (n + 1) = omega arith in
      rw length-set (rw (← k)
      (left-put t (typed_from ls line start (length w - n - 1) (n + 1) j).0 (typed_from ls line start (length w - n - 1) (n + 1) j).1 h
      (left_is (word-puts ls line start (length w - n) n i t j (omega arith) e) l)))
