-- What the writer leaves where its row refuses, and where it passes.
use mathlib.Core.Path.{◌≡◌}
use mathlib.Core.List.{List}
use mathlib.Core.Option.{none, some}
use Prim.Native.Nat.{ℕ, ◌*◌, ◌≤◌}
use lib.ListN.{length}
use Rattle.answers.specs.Answers.{Row, first_of}
use Rattle.graph.specs.Runs.{Graph}
use Rattle.export.specs.Written.{written}
use Rattle.export.specs.WrittenLaws.{written_refused, written-past}
use Rattle.macondo_file.specs.File.{Format, macondo_file}
use Rattle.macondo_file.specs.Row.{macondo_checks, macondo_walk_row, macondo_row, to_macondo}
use Rattle.macondo_file.specs.RowLaws.{MacondoChecked}
use Rattle.std.specs.Prelude.{Result}
use Rattle.macondo.specs.declared.MacondoRefusal.{MacondoRefusal}
use Rattle.macondo.specs.Said.{said_macondo, macondo_written_as}

-- ---- by the checks before the walk, and by those of the walk
module _ (g : Graph) (labels name : List ℕ) (f : Format) (lent_work : ℕ) (lent : List ℕ) (r : Result ℕ MacondoRefusal) where
  abbrev checks : Row
  checks = macondo_checks g labels name lent_work

  abbrev walk : Row
  walk = macondo_walk_row g labels name f (length lent)

  pub refused_before : first_of checks ≡ some (said_macondo r) → macondo_written_as r lent ≡ to_macondo g labels name f lent_work lent
  unfolding to_macondo macondo_row
  refused_before e = written_refused checks walk (macondo_file g labels f name) lent e

  pub passed-before : first_of checks ≡ none → {after : List ℕ} → macondo_written_as r after ≡ written (first_of walk) (macondo_file g labels f name) lent
      → macondo_written_as r after ≡ to_macondo g labels name f lent_work lent
  unfolding to_macondo macondo_row
  passed-before e h = written-past checks walk (macondo_file g labels f name) lent e h

-- ---- a part of the work list that is long enough will do
pub with_part : {g : Graph} {labels name : List ℕ} {lent_work : ℕ} → MacondoChecked g labels name lent_work → (part : ℕ) → 8 * length g ≤ part
    → MacondoChecked g labels name part
with_part c part h = record { ready = c.ready; some-label = c.some-label; short-name = c.short-name; work = h }
