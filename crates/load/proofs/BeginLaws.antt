-- A length of 0 is refused by the row of begin, and what holds of a length that passes it.
use Rattle.std.specs.Prelude.{◌≡◌, not, [], ℕ, ◌/◌, ◌%◌, ◌≤◌, max, eqb}
use Rattle.std.proofs.Math.Option.{none, some}
use Rattle.std.proofs.Common.{eq-eqb, eqb-true, ltb-false}
use Rattle.std.proofs.lemmas.Bool.{eqb-false, not-false}
use Rattle.laws.specs.Cases.{or_false-left, or_false-right}
use Rattle.answers.specs.Answers.{refused, first_of}
use Rattle.answers.specs.RowLaws.{row-refuses, row-passed}
use Rattle.load.specs.Loading.{begin_row}

-- a length that begin takes for a buffer of so many nodes
pub record Takes (n lent_nodes : ℕ) : Type 0 where
  pub some_bytes : n ≡ 0 → ⊥
  pub whole : n % 4 ≡ 0
  pub within : n ≤ 67_108_864
  pub room : max (n / 4) 2 ≤ lent_nodes

module _ (n lent_nodes : ℕ) where
  pub begin-empty : n ≡ 0 → first_of (begin_row n lent_nodes) ≡ some (refused 1 [])
  begin-empty h = row-refuses _ _ _ (rw (eq-eqb n 0 h))

  pub takes : first_of (begin_row n lent_nodes) ≡ none → Takes n lent_nodes
  takes e =
      let a = row-passed _ _ _ e in
      let b = row-passed _ _ _ a.1 in
      let d = row-passed _ _ _ b.1 in
      record {
        some_bytes = eqb-false n 0 (or_false-left (eqb n 0) (not (eqb (n % 4) 0)) a.0);
        whole = eqb-true (n % 4) 0 (not-false (eqb (n % 4) 0) (or_false-right (eqb n 0) (not (eqb (n % 4) 0)) a.0));
        within = ltb-false 67_108_864 n b.0;
        room = ltb-false lent_nodes (max (n / 4) 2) d.0;
      }
