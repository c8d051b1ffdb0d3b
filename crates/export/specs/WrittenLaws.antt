-- What a writer leaves where its row of checks refuses, and where it passes.
use Rattle.std.specs.Prelude.{◌≡◌, List, [], ◌∷◌, ◌++◌, ℕ, ◌≤◌, length}
use Rattle.std.proofs.Common.{sym, ap, ◌∙◌}
use Rattle.std.proofs.Math.Option.{none, some}
use Rattle.std.proofs.lemmas.List.Edits.{sets}
use Rattle.laws.specs.ListWrites.{sets-front}
use Rattle.answers.specs.Answers.{Answer, gives, Row, first_of}
use Rattle.answers.specs.RowLaws.{rows_refuse, rows_pass}
use Rattle.export.specs.Written.{Written, written}

module _ (row : Row) (file lent : List ℕ) where
  pub refused_by : {r : Answer} → first_of row ≡ some r → record { answer = r; bytes = lent } ≡ written (first_of row) file lent
  refused_by e = ap (λ o. written o file lent) (sym e)

  pub accepted-by : (n : ℕ) {after : List ℕ} → first_of row ≡ none → n ≡ length file → length file ≤ length lent → after ≡ sets lent 0 file
      → record { answer = gives (n ∷ []); bytes = after } ≡ written (first_of row) file lent
  accepted-by n e i room s = rw (e, i, s, sets-front lent file room)

-- ---- by the checks before the walk, then by those of the walk
module _ (checks walk : Row) (file lent : List ℕ) where
  pub written_refused : {r : Answer} → first_of checks ≡ some r → record { answer = r; bytes = lent } ≡ written (first_of (checks ++ walk)) file lent
  written_refused e = refused_by (checks ++ walk) file lent (rows_refuse checks walk e)

  pub written-past : {x : Written} → first_of checks ≡ none → x ≡ written (first_of walk) file lent → x ≡ written (first_of (checks ++ walk)) file lent
  written-past e h = h ∙ ap (λ o. written o file lent) (sym (rows_pass checks walk e))
