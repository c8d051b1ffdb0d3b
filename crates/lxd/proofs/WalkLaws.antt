-- The checks of the walk, decided by the labels, the survey, the numbering and the file's length; and what is left by the first of them
-- that refuses, or by none.
use mathlib.Core.Path.{◌≡◌, refl, sym, ap, ap₂, ◌∙◌}
use mathlib.Core.Bool.{true, false}
use mathlib.Core.Logic.{◌≢◌}
use mathlib.Core.List.{List, [], ◌∷◌, ◌++◌}
use mathlib.Core.Option.{none}
use Prim.Native.Nat.{ℕ, zero, suc, ◌+◌, ◌*◌, ◌^◌, ◌≤◌, ◌<◌}
use native.Mathlib.Nat.{zero-add}
use native.Mathlib.Omega.{arith}
use lib.Dec.{eqb, ltb, leb}
use lib.ListN.{length, get_or}
use lib.Seq.{sets}
use borrow.Author.Tests.{lt-ltb, le-ltb, lt-leb}
use Rattle.laws.specs.Members.{all_fail}
use Rattle.laws.specs.Cases.{or_false-left, or_false-right}
use Rattle.laws.specs.Lists.{some_of}
use Rattle.base.specs.Numbers.{most}
use Rattle.endian.specs.Bytes.{node_bytes}
use Rattle.answers.specs.Answers.{gives, Row, first_of}
use Rattle.node.specs.Nodes.{kbwg, tile}
use Rattle.graph.specs.Runs.{Graph, start_node}
use Rattle.graph.specs.Words.{count}
use Rattle.graph.specs.ChecksLaws.{Fit, start-inside}
use Rattle.export.specs.Starts.{arcs_from, unlabelled}
use Rattle.export.specs.Blocks.{met, total}
use Rattle.export.specs.WrittenLaws.{refused_by, accepted-by}
use Rattle.windows1252.specs.Windows1252.{byte_of, no_byte}
use Rattle.survey.specs.Survey.{byteless, byteless_within, Surveys}
use Rattle.survey.specs.ReachLaws.{survey-byteless, survey-many, survey-count}
use Rattle.survey.specs.declared.Findings.{Findings}
use Rattle.block_record.specs.declared.BlockTally.{BlockTally}
use Rattle.lxd_file.specs.File.{header, runs, reached, run_size, lxd_nodes, lxd_file}
use Rattle.lxd_file.proofs.FileLaws.{length-header, length-file}
use Rattle.lxd_file.specs.Row.{lxd_walk_row}
use Rattle.lxd_file.proofs.RunsLaws.{reached-size}
use Rattle.laws.specs.Cleared.{cleared, cleared-length, cleared_at}
use Rattle.block_record.specs.Depths.{Below}
use Rattle.block_record.specs.DepthsLaws.{depths-none}
use Rattle.lxd_blocks.specs.NumberedLaws.{none-recorded}
use Rattle.lxd_blocks.specs.RunsNumbered.{RunsNumbered, RunsRecorded}
use Rattle.lxd_blocks.specs.declared.numbering.Walked.{Walked}
use Rattle.lxd.specs.Said.{after_checks}
use Rattle.lxd.specs.Planned.{ChecksPassed, Planned, nodes_written}
use Rattle.lxd.proofs.HeaderLaws.{written_after}
use Rattle.lxd.proofs.PlannedLaws.{total-nodes, count-nodes}
use Rattle.answers.specs.RowLaws.{StopsAt, answer_at, stops_at, all_pass}

-- ---- by the labels alone: 23
has-byte : (labels : List ℕ) (t : ℕ) → some_of no_byte labels ≡ false → no_byte (get_or labels t 0) ≡ false
unfolding byte_of
has-byte [] t e = refl
has-byte (c ∷ labels) zero e = or_false-left (no_byte c) (some_of no_byte labels) e
has-byte (c ∷ labels) (suc t) e = has-byte labels t (or_false-right (no_byte c) (some_of no_byte labels) e)

module _ (g : Graph) (labels : List ℕ) where
  pub all-have-bytes : some_of no_byte labels ≡ false → some_of (byteless labels) (reached g) ≡ false
  all-have-bytes e = all_fail (byteless labels) (reached g) (λ v m. has-byte labels (tile kbwg v) e)

  -- ---- by the survey: 23 and 13
  module _ (f : Findings) (surveys : Surveys g labels 64 (start_node g 0) f) where
    pub byteless-label : some_of (byteless labels) (reached g) ≡ f.byteless
    unfolding runs
    byteless-label = survey-byteless g labels 64 (start_node g 0) f surveys

    module _ (sound : Fit g) where
      pub many-words : leb most (count kbwg g (start_node g 0)) ≡ eqb f.words most
      many-words = survey-many g labels 64 (start_node g 0) f surveys sound.steps (start-inside sound 0 (omega arith))

      checks-passed : unlabelled g labels ≡ false → some_of (byteless labels) (reached g) ≡ false → f.words ≢ most → ChecksPassed g labels f.words
      checks-passed labelled bytes n =
          let e = surveys.words in
          record {
            sound = sound;
            labelled = labelled;
            ended = surveys.deep;
            bytes = bytes;
            counted = survey-count g labels 64 (start_node g 0) f surveys sound.steps (start-inside sound 0 (omega arith)) n;
            few = omega arith;
          }

  -- ---- by the numbering: 22, 13 and 25
  -- what a survey would find, but for labels without a byte
  pub surveys_too : {w₀ w o : List ℕ} {f : Walked} {p : ℕ} → p ≡ start_node g 0 → RunsNumbered g w₀ w o true p 64 f
      → Surveys g labels 64 (start_node g 0) (record { runs = f.runs; words = f.words; byteless = byteless_within g labels 64 (start_node g 0) })
  surveys_too {f = f} e m =
      let n = rw e at m in
      record {
        deep = n.counted.depth 64 ∙ le-ltb 64 f.runs n.ends;
        runs = n.counted.depth;
        words = n.counted.words_are 64 n.ends;
        byteless = refl;
      }

  module _ (words : ℕ) (h : ChecksPassed g labels words) where
    pub few_words : leb most (count kbwg g (start_node g 0)) ≡ false
    few_words = let l : count kbwg g (start_node g 0) < most = let e = h.counted in let f = h.few in omega arith in lt-leb _ _ l

  -- so the file can be written
  pub numbered_plan : Fit g → unlabelled g labels ≡ false → some_of (byteless labels) (reached g) ≡ false → {w₀ w : List ℕ} {f : Walked} {p : ℕ}
      → p ≡ start_node g 0 → RunsNumbered g w₀ w (met eqb (arcs_from g) 64 [] p) true p 64 f
      → f.words ≢ most → length g + length g < length w → Planned g labels w f.words f.tally
  unfolding runs
  numbered_plan sound labelled bytes e n few room =
      record { found = checks-passed _ (surveys_too e n) sound labelled bytes few; room = room; held = (rw e at n).held }

pub many-nodes : (g : Graph) {p : ℕ} → p ≡ start_node g 0 → 2 ^ 22 < 2 + total (run_size g) (met eqb (arcs_from g) 64 [] p)
    → 2 ^ 22 < 2 + length (reached g)
unfolding runs
many-nodes g i m = let n = rw i at m in let e = reached-size g in omega arith

-- ---- the record that numbering begins with
module _ (g : Graph) (w : List ℕ) (room : 8 * length g ≤ length w) {w' : List ℕ} (e : w' ≡ cleared (length g) w) where
  pub emptied : (p : ℕ) → p < length g → get_or w' p 0 ≡ 0
  emptied p h = ap (λ x. get_or x p 0) e ∙ cleared_at (length g) w p h

  pub empty-recorded : {t : BlockTally} → t.blocks ≡ 0 → t.nodes ≡ 2 → RunsRecorded g w' t
  empty-recorded a b = let l = ap length e ∙ cleared-length (length g) w (omega arith) in none-recorded g (omega arith) emptied a b

  pub empty-below : (p : ℕ) → Below g w' p
  empty-below p = (depths-none g w' emptied).1 p

module _ (g : Graph) (labels title date lent : List ℕ) where
  abbrev file : List ℕ
  file = lxd_file g labels title date

  abbrev pub walk_of : Row
  walk_of = lxd_walk_row g labels title date (length lent)

  -- "A refusal writes no file byte."
  pub walk-refuses : (k : ℕ) → StopsAt k walk_of → record { answer = answer_at k walk_of; bytes = lent } ≡ after_checks g labels title date lent
  walk-refuses k s = refused_by walk_of file lent (stops_at k walk_of s)

  -- ---- by the file's length: 11, or the file
  module _ {w : List ℕ} {words : ℕ} {t : BlockTally} (p : Planned g labels w words t) (n : ℕ) (counted : n ≡ nodes_written words t.nodes) where
    few-nodes : ltb (2 ^ 22) (2 + length (reached g)) ≡ false
    few-nodes =
        let l : 2 + length (reached g) ≤ 2 ^ 22 = let a = total-nodes p in let b = p.held.within in omega arith in
        le-ltb _ _ l

    node-count-is : n ≡ length (lxd_nodes g labels)
    node-count-is = counted ∙ count-nodes p

    file-long : 64 + 4 * n ≡ length file
    file-long = ap (λ k. 64 + 4 * k) node-count-is ∙ sym (length-file g labels title date)

    pub file-short : length lent < 64 + 4 * n → StopsAt 4 walk_of
    file-short l =
        let f = p.found in
        let m : length lent < length file = let e = file-long in omega arith in
        (f.ended, (f.bytes, (few_words g labels words f, (few-nodes, lt-ltb _ _ m))))

    module _ (fits : 64 + 4 * n ≤ length lent) where
      whole : length file ≤ length lent
      whole = let e = file-long in omega arith

      passes : first_of walk_of ≡ none
      passes = let f = p.found in all_pass walk_of (f.ended, (f.bytes, (few_words g labels words f, (few-nodes, (le-ltb _ _ whole, tt)))))

      in_two-parts : header n title date words ++ node_bytes (lxd_nodes g labels) ≡ file
      unfolding lxd_file
      in_two-parts =
          ap₂ (λ k c. header k title date c ++ node_bytes (lxd_nodes g labels)) node-count-is p.found.counted

      bytes_after : {a b : List ℕ} → a ≡ sets lent 0 (header n title date words) → b ≡ sets a 64 (node_bytes (lxd_nodes g labels))
          → b ≡ sets lent 0 file
      bytes_after i j =
          j ∙ ap (λ x. sets x 64 (node_bytes (lxd_nodes g labels))) i
          ∙ written_after lent (header n title date words) (node_bytes (lxd_nodes g labels)) 0 64
          (zero-add (length (header n title date words)) ∙ length-header n title date words)
          ∙ ap (sets lent 0) in_two-parts

      pub file-written : {a b : List ℕ} → a ≡ sets lent 0 (header n title date words) → b ≡ sets a 64 (node_bytes (lxd_nodes g labels))
          → record { answer = gives ((64 + 4 * n) ∷ []); bytes = b } ≡ after_checks g labels title date lent
      file-written i j = accepted-by walk_of file lent (64 + 4 * n) passes file-long whole (bytes_after i j)
