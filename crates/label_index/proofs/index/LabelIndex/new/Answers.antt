-- `index::LabelIndex::new` meets its contract: the ranges' ends are cleared before the index is made.
use Rattle.std.proofs.Common.{◌≡◌, ℕ, List, zero, suc, ap, ◌∙◌, arith, refl, length, get_or, replicate}
use Rattle.label_index.proofs.index.LabelIndex.new.Goals as goal

abbrev all_zero : ℕ → List ℕ
all_zero n = replicate n 0

zero-at : (n b : ℕ) → get_or (all_zero n) b 0 ≡ 0
zero-at zero b = refl
zero-at (suc n) zero = refl
zero-at (suc n) (suc b) = zero-at n b

pub index_labels-requires-clause-in_bounds_2 : goal.index_labels-requires-clause-in_bounds_2
index_labels-requires-clause-in_bounds_2 c =
    (omega arith, omega arith, λ b. ap (λ (s : List ℕ). get_or s b 0) (c.fill.ensures.after (λ y h. h)) ∙ zero-at (length c.args.room.now.end) b)
