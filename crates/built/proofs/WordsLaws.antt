-- The words from node 2 are the list, and from any run's place the run's words.
use Rattle.std.specs.Prelude.{◌≡◌, refl, true, ℕ, zero, suc, ◌+◌, ◌≤◌, length}
use Rattle.std.proofs.Common.{sym, ap, ◌∙◌, suc-add, zero-add, arith}
use mathlib.Core.List.Memᴰ
use mathlib.Core.List.{List, [], Memᴰ}
use Rattle.laws.specs.Lists.{has_entries, split-empty}
use Rattle.node.specs.Nodes.{BitLayout, kbwg, arc}
use Rattle.graph.specs.Loops.{Clear}
use Rattle.graph.specs.Runs.{Graph, run}
use Rattle.graph.specs.Words.{Word, in_order, words, words_within}
use Rattle.graph.specs.WordsEquation.{Short, clear-short, no_run}
use Rattle.graph.proofs.WordsEquationLaws.{words-within_stable}
use Rattle.export.specs.Blocks.{met}
use Rattle.built.specs.BranchLaws.{lexicon-longer}
use Rattle.built.specs.Branches.{branches, onwards}
use Rattle.built.specs.Built.{arc_to, built, run_nodes, word_runs, words_place}
use Rattle.built.specs.Lexicon.{Lexicon}
use Rattle.built.proofs.LooplessLaws.{all-clear}
use Rattle.built.proofs.RunsLaws.{list_in_runs, place-first, runs-lexicon, words-place-within}
use Rattle.built.proofs.WithinLaws.{words-within-at}

-- ---- where nothing loops, more turns than nodes give no more words
module _ (y : BitLayout) (g : Graph) where
  short-more : (k p : ℕ) → Short y g k p → Short y g (suc k) p
  short-more zero p s = λ v m n. absurd (Memᴰ.not-nil (rw (no_run y g p s) at m))
  short-more (suc k) p s = λ v m n. short-more k (arc y v) (s v m n)

  short-by : (d k p : ℕ) → Short y g k p → Short y g (d + k) p
  short-by zero k p s = rw zero-add s
  short-by (suc d) k p s = rw suc-add (short-more (d + k) p (short-by d k p s))

  within_by : (d k p : ℕ) → Short y g k p → words_within y (d + k) g p ≡ words_within y k g p
  within_by zero k p s = rw zero-add
  within_by (suc d) k p s = rw suc-add (words-within_stable y g (d + k) p (short-by d k p s) ∙ within_by d k p s)

  pub clear_within : (d p : ℕ) → Clear y g p → words_within y (d + length g) g p ≡ words y g p
  unfolding words
  clear_within d p c = within_by d (length g) p (clear-short y g p c)

module _ (ws : List Word) (lex : Lexicon 64 ws) (few : length (built ws) ≤ 16_777_216) where
  pub words-at : (us : List Word) → Memᴰ us (word_runs ws) → has_entries us ≡ true → words kbwg (built ws) (words_place ws us) ≡ us
  words-at us m e =
      let n = length (built ws) in
      let h = (words-place-within ws lex us m e).1 in
      sym (clear_within kbwg (built ws) 64 (words_place ws us) (all-clear ws lex few (words_place ws us) h))
      ∙ words-within-at ws lex few (64 + n) us m (lexicon-longer 64 (64 + n) us (omega arith) (runs-lexicon ws lex us m)) e

no_words : words kbwg (built []) 2 ≡ []
unfolding words words_within in_order run built word_runs met onwards branches run_nodes arc_to
no_words = refl

-- "its words from the root must be the list"
pub built-words : (ws : List Word) → Lexicon 64 ws → length (built ws) ≤ 16_777_216 → words kbwg (built ws) 2 ≡ ws
built-words ws lex few =
    split-empty ws
    (λ z. ap (λ l. words kbwg (built l) 2) z ∙ no_words ∙ sym z)
    (λ s. ap (words kbwg (built ws)) (sym (place-first ws)) ∙ words-at ws lex few ws (list_in_runs ws lex) s)
