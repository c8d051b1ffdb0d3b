-- What is counted of a run, or of none: the longest chain from it, and its words; for the checks 22 and 13 of document 01.
use Rattle.std.specs.Prelude.{◌≡◌, refl, Bool, false, ◌&&◌, ℕ, ◌+◌, ◌≤◌, min, ltb, length}
use Rattle.std.proofs.Common.{sym, arith, le-ltb}
use Rattle.base.specs.Numbers.{flag, most}
use Rattle.node.specs.Nodes.{kbwg, accepts}
use Rattle.graph.specs.Runs.{Graph}
use Rattle.graph.specs.Words.{words_within}
use Rattle.export.specs.Starts.{deeper}
use Rattle.survey.specs.ByArc.{where_there}

-- from q, if there is a run, the longest chain has so many runs, and there are so many words, or more than can be counted
pub record RunCounted (g : Graph) (there : Bool) (q runs words : ℕ) : Type 0 where
  pub depth : (k : ℕ) → there && deeper g k q ≡ ltb k runs
  pub words_are : (k : ℕ) → runs ≤ k → words ≡ min (where_there there (length (words_within kbwg k g q))) most

pub counted_none : (g : Graph) (q : ℕ) → RunCounted g false q 0 0
counted_none g q = record { depth = λ k. sym (le-ltb k 0 (omega arith)); words_are = λ k h. refl }

-- the words through node v: its own, and so many by its arc
abbrev pub words_through : ℕ → ℕ → ℕ
words_through v n = min (flag (accepts kbwg v) + n) most
