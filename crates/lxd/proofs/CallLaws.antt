-- The whole call by its checks before the walk, and what is known past them.
use mathlib.Core.Path.{◌≡◌}
use mathlib.Core.List.{List}
use mathlib.Core.Option.{none, some}
use Prim.Native.Nat.{ℕ, ◌*◌, ◌≤◌}
use lib.ListN.{length}
use borrow.Author.Tests.{ltb-false}
use Rattle.answers.specs.Answers.{Answer, Row, first_of}
use Rattle.answers.specs.RowLaws.{passed-all}
use Rattle.graph.specs.Runs.{Graph}
use Rattle.export.specs.Written.{Written}
use Rattle.export.specs.WrittenLaws.{written_refused, written-past}
use Rattle.lxd_file.specs.File.{lxd_file}
use Rattle.lxd_file.specs.Row.{lxd_checks, lxd_walk_row, lxd_row, to_lxd}
use Rattle.lxd.specs.Said.{after_checks}

module _ (g : Graph) (labels title date : List ℕ) (lent_work : ℕ) where
  abbrev checks : Row
  checks = lxd_checks g labels title date lent_work

  module _ (lent : List ℕ) where
    abbrev walk : Row
    walk = lxd_walk_row g labels title date (length lent)

    pub call-refuses : {r : Answer} → first_of checks ≡ some r → record { answer = r; bytes = lent } ≡ to_lxd g labels title date lent_work lent
    unfolding lxd_row to_lxd
    call-refuses e = written_refused checks walk (lxd_file g labels title date) lent e

    pub call-walks : {x : Written} {g' labels' : List ℕ} → first_of checks ≡ none → (g' ≡ g) × (labels' ≡ labels)
        → x ≡ after_checks g' labels' title date lent → x ≡ to_lxd g labels title date lent_work lent
    unfolding lxd_row to_lxd
    call-walks e same i = written-past checks walk (lxd_file g labels title date) lent e (rw (same.0, same.1) at i)

  pub passed-work : first_of checks ≡ none → 8 * length g ≤ lent_work
  passed-work passed = ltb-false _ _ (passed-all checks passed).1.1.1.1.1.1.1.1.0
