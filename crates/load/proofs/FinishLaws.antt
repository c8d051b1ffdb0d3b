-- Where finish answers a number of nodes, so many stand in the table: its row of checks never gives any.
use Rattle.std.specs.Prelude.{◌≡◌, refl, Bool, true, false, [], ◌∷◌, ℕ, ◌/◌, ◌≤◌, max, eqb, length}
use Rattle.std.proofs.Common.{ap, ◌∙◌, arith, length-set}
use Rattle.std.proofs.Math.Option.{Option, none, some}
use Rattle.answers.specs.Answers.{Answer, gives, first_of}
use Rattle.answers.specs.RowLaws.{row-never_gives, rows-passed}
use Rattle.graph.specs.Runs.{Graph}
use Rattle.load.specs.Loading.{sound_row, finish_row, finishes, finish}
use Rattle.load.proofs.StateLaws.{sound}
use Rattle.load.specs.declared.loader.Loader.{Loader}

passed-finish : (s : Loader) (nodes : Graph) {n : ℕ} → (o : Option Answer) → first_of (finish_row s nodes) ≡ o
    → (finishes o (eqb s.announced 4) s nodes).answer ≡ gives (n ∷ []) → n ≤ length (finishes o (eqb s.announced 4) s nodes).nodes
passed-finish s nodes (some r) e i = row-never_gives (finish_row s nodes) (e ∙ ap some i)
passed-finish s nodes {n} none e i =
    one_or_more (eqb s.announced 4) (sound s (length nodes) (rows-passed (sound_row s (length nodes)) _ e)).announced.room i
  where
    one_or_more : (one : Bool) → max (s.announced / 4) 2 ≤ length nodes → (finishes none one s nodes).answer ≡ gives (n ∷ [])
        → n ≤ length (finishes none one s nodes).nodes
    one_or_more true room j = let k : 2 ≡ n = cc in simp length-set (omega arith)
    one_or_more false room j = let k : s.announced / 4 ≡ n = cc in omega arith

pub finished-within : (s : Loader) (nodes : Graph) {n : ℕ} → (finish s nodes).answer ≡ gives (n ∷ []) → n ≤ length (finish s nodes).nodes
unfolding finish
finished-within s nodes i = passed-finish s nodes (first_of (finish_row s nodes)) refl i
