-- The ranges by first byte.
use Rattle.std.proofs.Common.{◌≡◌, ℕ, List, ◌+◌, ◌≤◌, ◌<◌, ap, ◌∙◌, subst, arith, length, get_or, drop, get_or-drop}
use Rattle.label_index.specs.Labels.{Label}
use Rattle.label_index.specs.Index.{first_in, FirstByteRange, IndexReady}

-- ---- the lines from place i on
abbrev pub BegunFrom : ℕ → ℕ → List ℕ → List ℕ → Type 0
BegunFrom i n order begin = (k : ℕ) → i ≤ k → k < n → get_or begin (first_in order k) 0 ≤ k

-- ---- the range of a byte
pub range_of : {file : List ℕ} {ls : List Label} {starts order begin end : List ℕ} → IndexReady file ls starts order begin end → (b : ℕ)
    → FirstByteRange (length ls) order b (get_or begin b 0) (get_or end b 0)
range_of {file} {ls} {starts} {order} {begin} {end} x b = record {
  fits = x.within b;
  all = λ i h e. (subst (λ k. get_or begin k 0 ≤ i) e (x.begun i h), subst (λ k. i < get_or end k 0) e (x.ended i h));
}

-- the first byte of what stands from a place on
pub first_of : (line : List ℕ) (from : ℕ) → get_or (drop from line) 0 0 ≡ get_or line from 0
first_of line from = let e : from + 0 ≡ from = omega arith in get_or-drop from line 0 0 ∙ ap (λ k. get_or line k 0) e
