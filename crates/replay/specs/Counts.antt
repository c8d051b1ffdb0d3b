-- What counting replies to the nodes of a case.
use Rattle.std.specs.Prelude.{Bool, List, [], ◌∷◌, ◌++◌, ℕ, length, take}
use Rattle.answers.specs.Answers.{Answer, refusal_in}
use Rattle.graph.specs.Counting.{IsCounted, count_limit}
use Rattle.flat.specs.Flat.{arc_carried, node_carried}
use Rattle.stored.specs.Answers.{same}

-- the number of the refusal, the arc and the node that it carries, and a count for each node
unfoldable pub count_reply : List ℕ → Answer → List ℕ → List ℕ
count_reply nodes a counts = (refusal_in a ∷ arc_carried a ∷ node_carried a ∷ []) ++ take (length nodes) counts

-- whether the reply is the stored one, for the answer and the counts that counting gives, which leave no choice (`counted-once`)
pub data CountReplied (nodes lent : List ℕ) (work : ℕ) (stored : List ℕ) : Bool → Type 0 where
  replied : {a : Answer} {counts : List ℕ} → IsCounted count_limit nodes lent work a counts
      → CountReplied nodes lent work stored (same stored (count_reply nodes a counts))
