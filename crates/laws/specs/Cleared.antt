-- A list whose first numbers are set to 0.
use Rattle.std.specs.Prelude.{◌≡◌, List, ◌++◌, ℕ, suc, ◌+◌, ◌≤◌, ◌<◌, length, get_or, set, drop, replicate}
use Rattle.std.proofs.Common.{sym, ap, ap₂, ◌∙◌, arith, add-one, length-append, length-drop, drop-cons}
use Rattle.std.proofs.lemmas.List.{length-replicate, get_or-replicate, replicate-append-replicate, set_at}
use Rattle.std.proofs.Math.ListN.{get_or-append}
use Rattle.std.proofs.Math.Seq.{append_snoc}

abbrev pub cleared : ℕ → List ℕ → List ℕ
cleared n l = replicate n 0 ++ drop n l

pub cleared_more : (l : List ℕ) (i : ℕ) → i < length l → set (cleared i l) i 0 ≡ cleared (i + 1) l
cleared_more l i h =
    rw (drop-cons l i 0 h) (set_at (replicate i 0) (get_or l i 0) (drop (suc i) l) 0 i (length-replicate i 0))
    ∙ sym (append_snoc (replicate i 0) 0 (drop (suc i) l))
    ∙ ap₂ ◌++◌ (replicate-append-replicate i 1 0) (ap (λ k. drop k l) (sym (add-one i)))

module _ (n : ℕ) (l : List ℕ) where
  pub cleared-length : n ≤ length l → length (cleared n l) ≡ length l
  cleared-length h = simp (length-append, length-replicate, length-drop) (omega arith)

  pub cleared_at : (k : ℕ) → k < n → get_or (cleared n l) k 0 ≡ 0
  cleared_at k h =
      get_or-append (replicate n 0) (drop n l) 0 k (simp length-replicate h) ∙ get_or-replicate n k 0 0 h
