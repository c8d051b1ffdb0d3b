-- From a run's place the graph spells the run's words, with a turn for each tile of the longest.
use Rattle.std.specs.Prelude.{◌≡◌, true, drop, length}
use Rattle.std.proofs.Common.{sym, ◌∙◌, true≢false, arith}
use Rattle.std.proofs.Math.Path.{ap}
use mathlib.Core.List.{List, [], ◌∷◌, Memᴰ}
use Prim.Native.Nat.{ℕ, zero, suc, ◌≤◌, ◌<◌}
use Rattle.laws.specs.Lists.{has_entries}
use Rattle.node.specs.Nodes.{kbwg}
use Rattle.graph.specs.Runs.{run}
use Rattle.graph.specs.Words.{Word, in_order, spelled, words_within}
use Rattle.built.specs.BranchLaws.{all-some, branch-rests, branches-some, branches-words, onward-lexicon}
use Rattle.built.specs.Branches.{branches, onward}
use Rattle.built.specs.Built.{arc_to, built, word_runs, words_place}
use Rattle.built.proofs.FieldLaws.{arc-some, arc-zero, branch-fields}
use Rattle.built.specs.Lexicon.{Lexicon}
use Rattle.built.proofs.RunNodeLaws.{EndsRead, branch-spelled, branch_node, in_order-run, run-nodes}
use Rattle.built.proofs.RunsLaws.{arc-to, onward_in_runs, run-stands, run_block, run_blocks}

module _ (ws : List Word) (lex : Lexicon 64 ws) (few : length (built ws) ≤ 16_777_216) where
  pub ends_read : (us : List Word) → Memᴰ us (word_runs ws) → EndsRead (arc_to ws) (branches us)
  ends_read us m b n e = (branch-fields ws lex few us m b n e).end_is

  -- the run from a run's place
  pub built-run-at : (us : List Word) → Memᴰ us (word_runs ws) → 0 < length (branches us) → run kbwg (drop (words_place ws us) (built ws)) ≡ run_block ws us
  built-run-at us m l =
      let f = run-stands ws us m in
      ap (run kbwg) f.from ∙ run-nodes (arc_to ws) (branches us) (run_blocks ws f.stands.after) (ends_read us m) l

  pub words-within-at : (k : ℕ) (us : List Word) → Memᴰ us (word_runs ws) → Lexicon k us → has_entries us ≡ true
      → words_within kbwg k (built ws) (words_place ws us) ≡ us
  unfolding words_within
  words-within-at zero [] m l e = absurd (true≢false (sym e))
  words-within-at zero (u ∷ us) m l e = absurd (let a = l.fine.0.some in let b = l.fine.0.short in omega arith)
  words-within-at (suc k) us m l e =
      let from : ℕ → List Word = λ q. words_within kbwg k (built ws) q in
      ap (in_order (spelled kbwg from)) (built-run-at us m (branches-some (suc k) us l e))
      ∙ in_order-run (arc_to ws) (spelled kbwg from) (branches us)
      (λ b n x.
      let inside = onward_in_runs ws lex us m b n in
      branch-spelled from (branch_node (arc_to ws) b x) b x (arc_to ws (onward b)) (branch-fields ws lex few us m b n x) (branch-rests (suc k) us l b n)
      (arc-zero ws lex (onward b) inside)
      (λ z. let s = arc-some ws lex (onward b) z in
      ap from (arc-to ws (onward b) s) ∙ words-within-at k (onward b) (inside s) (onward-lexicon k us l b n) s))
      ∙ branches-words us (all-some (suc k) us l)
