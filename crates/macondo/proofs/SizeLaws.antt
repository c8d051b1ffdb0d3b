-- The checks of the sizes, by what the walk counted, and the file that is written where they pass.
use mathlib.Core.Path.{◌≡◌, ap, ◌∙◌}
use mathlib.Core.List.{List}
use Prim.Native.Nat.{ℕ, ◌+◌, ◌-◌, ◌*◌, ◌^◌, ◌≤◌, ◌<◌}
use native.Mathlib.Omega.{arith}
use borrow.Author.Tests.{lt-ltb, le-ltb}
use lib.ListN.{length, take, drop}
use lib.Seq.{sets}
use Rattle.answers.specs.Answers.{Row, first_of}
use Rattle.answers.specs.RowLaws.{row-refuses, row-passes, row_ends}
use Rattle.endian.specs.Bytes.{big_endian}
use Rattle.graph.specs.Runs.{Graph}
use Rattle.export.specs.WrittenLaws.{refused_by, accepted-by}
use Rattle.block_record.specs.declared.BlockTally.{BlockTally}
use Rattle.macondo_file.specs.Alphabet.{letters}
use Rattle.macondo_file.specs.File.{Format, marks, macondo_nodes, macondo_file}
use Rattle.macondo_file.specs.Row.{macondo_walk_row}
use Rattle.macondo_file.specs.RowLaws.{MacondoReady}
use Rattle.letter_sets.specs.Letters.{Ranks}
use Rattle.macondo_writing.specs.declared.tables.SectionCounts.{SectionCounts}
use Rattle.std.specs.Prelude.{Ok, Err}
use Rattle.macondo.specs.declared.MacondoRefusal.TheVariants as M
use Rattle.macondo.specs.Said.{macondo_written_as, written_past}
use Rattle.macondo_writing.specs.FileTables.{file_in}
use Rattle.macondo.specs.BlocksHeld.{BlocksHeld}
use Rattle.macondo.proofs.TablesLaws.{TablesRecorded, nodes-count, file-size-is, tables-file-is}

module _ (g : Graph) (labels name : List ℕ) (f : Format) (lent : List ℕ) where
  -- the last two checks
  abbrev sizes : Row
  sizes = drop 2 (macondo_walk_row g labels name f (length lent))

-- by the blocks
module _ {g : Graph} {labels : List ℕ} {f : Format} {w : List ℕ} {t : BlockTally} (b : BlocksHeld g labels f w t) (name lent : List ℕ) where
  pub too_many : 16777216 < t.nodes → macondo_written_as (Err M.TooManyNodes) lent ≡ written_past 2 g labels name f lent
  too_many h =
      let n = nodes-count b in
      refused_by (sizes g labels name f lent) (macondo_file g labels f name) lent
      (row-refuses _ _ _ (lt-ltb (2 ^ 24) (length (macondo_nodes g labels f)) (omega arith)))

  many-passed : t.nodes ≤ 16777216 → first_of (sizes g labels name f lent) ≡ first_of (drop 1 (sizes g labels name f lent))
  many-passed h = let n = nodes-count b in row-passes _ _ _ (le-ltb (2 ^ 24) (length (macondo_nodes g labels f)) (omega arith))

-- and by the sets
module _ {g : Graph} {labels : List ℕ} (c : MacondoReady g labels) (f : Format) (name : List ℕ)
    {w : List ℕ} {k : SectionCounts} (t : TablesRecorded g labels f w k) (lent : List ℕ) (few : k.nodes ≤ 16777216)
    (n : ℕ) (size : n ≡ 17 + length name + 4 * (length labels - 1) + 8 * k.sets + 4 * k.nodes) where
  length-is : n ≡ length (macondo_file g labels f name)
  length-is = let z = file-size-is c f t name in omega arith

  pub too_short : length lent < n → macondo_written_as (Err M.FileTooShort) lent ≡ written_past 2 g labels name f lent
  too_short h =
      let l = length-is in
      refused_by (sizes g labels name f lent) (macondo_file g labels f name) lent
      (many-passed t.first name lent few ∙ row-refuses _ _ _ (lt-ltb (length lent) (length (macondo_file g labels f name)) (omega arith)))

  pub all-written : (magic : ℕ) → big_endian 4 magic ≡ (marks f).magic → (ranks : List ℕ) → Ranks labels ranks
      → (l : List ℕ) → take (length labels - 1) l ≡ letters labels
      → n ≤ length lent → {after : List ℕ} → after ≡ sets lent 0 (file_in magic name g labels l ranks w k)
      → macondo_written_as (Ok n) after ≡ written_past 2 g labels name f lent
  all-written magic m ranks ranked l e room s =
      let z = length-is in
      accepted-by (sizes g labels name f lent) (macondo_file g labels f name) lent n
      (many-passed t.first name lent few ∙ row-passes _ _ _ (le-ltb (length lent) (length (macondo_file g labels f name)) (omega arith)) ∙ row_ends)
      z (omega arith) (s ∙ ap (sets lent 0) (tables-file-is c f t ranks ranked magic m name l e))
