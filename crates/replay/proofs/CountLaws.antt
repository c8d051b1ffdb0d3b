-- The flat answer of counting, and a count for each node, are what counting replies.
use mathlib.Core.Path.{◌≡◌, sym, ap, subst, ◌∙◌}
use mathlib.Core.Bool.{Bool}
use mathlib.Core.List.{List, [], ◌∷◌, ◌++◌}
use Prim.Native.Nat.{ℕ}
use lib.ListN.{length, take}
use Rattle.graph.specs.Counting.{IsCounted, count_limit}
use Rattle.flat.specs.FlatCounts.{counted_of, flat_counted}
use Rattle.flat.specs.declared.counting.FlatCounted.{FlatCounted}
use Rattle.stored.specs.Answers.{same}
use Rattle.replay.specs.Counts.{count_reply, CountReplied, replied}

pub count-replies : (nodes lent stored : List ℕ) (work : ℕ) (r : FlatCounted) (counts xs : List ℕ) {b : Bool}
    → IsCounted count_limit nodes lent work (counted_of r) counts → r ≡ flat_counted (counted_of r) → xs ≡ take (length nodes) counts
    → b ≡ same stored ((r.refusal ∷ r.arc ∷ r.node ∷ []) ++ xs) → CountReplied nodes lent work stored b
unfolding count_reply
count-replies nodes lent stored work r counts xs counted flat ex eb =
    let e = ap (λ (l : List ℕ). same stored ((r.refusal ∷ r.arc ∷ r.node ∷ []) ++ l)) ex in
    let f = ap (λ (x : FlatCounted). same stored ((x.refusal ∷ x.arc ∷ x.node ∷ []) ++ take (length nodes) counts)) flat in
    subst (CountReplied nodes lent work stored) (sym (eb ∙ e ∙ f)) (replied counted)
