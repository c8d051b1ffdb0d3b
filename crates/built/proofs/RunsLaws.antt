-- The runs of a word list: each is a lexicon, each that a run leads to is among them, and where each stands in the graph.
use Rattle.std.specs.Prelude.{◌≡◌, true, false, ℕ, zero, suc, ◌≤◌, ◌<◌, drop, length}
use Rattle.std.proofs.Math.Path.{refl, ap}
use Rattle.std.proofs.Common.{sym, ◌∙◌, true≢false, arith, length-append}
use mathlib.Core.List.{List, [], ◌∷◌, ◌++◌, map, Memᴰ}
use Rattle.std.proofs.Math.Seq.{drop-append_seam}
use Rattle.laws.specs.Lists.{has_entries, join_map_append, join_all}
use Rattle.laws.specs.Same.{Exact}
use Rattle.laws.proofs.SameLaws.{exact-list, exact_same}
use Rattle.graph.specs.Runs.{Graph}
use Rattle.graph.specs.Words.{Word}
use Rattle.export.specs.Blocks.{block_at}
use Rattle.export.specs.BlocksLaws.{Low, Stands, block-first, block-stands, children_met, every-met, first-met, start-met}
use Rattle.built.specs.BranchLaws.{branches-some, in_onwards, lexicon-longer, onwards-lexicon}
use Rattle.built.specs.Branches.{Branch, branches, first_tiles, onward, onwards}
use Rattle.built.specs.Built.{arc_to, built, node_of, run_nodes, same_words, word_runs, words_place}
use Rattle.built.specs.Lexicon.{Lexicon}

pub run_length_lem : (to : List Word → ℕ) (bs : List Branch) → length (run_nodes to bs) ≡ length bs
unfolding run_nodes
run_length_lem to [] = refl
run_length_lem to (b ∷ bs) = ap suc (run_length_lem to bs)

-- chains of runs are no longer than the words
low : (k : ℕ) (ws : List Word) → Lexicon k ws → has_entries ws ≡ true → Low onwards k ws
low zero [] lex e = true≢false (sym e)
low zero (w ∷ ws) lex e = let a = lex.fine.0.some in let b = lex.fine.0.short in omega arith
low (suc k) ws lex e = λ us m. let r = onwards-lexicon k ws lex us m in low k us r.0 r.1

pub exact-words : Exact same_words
unfolding same_words
exact-words = exact-list exact_same

module _ (ws : List Word) where
  abbrev pub run_block : List Word → List ℕ
  run_block us = run_nodes (arc_to ws) (branches us)

  abbrev pub run_blocks : List (List Word) → List ℕ
  run_blocks l = join_all (map run_block l)

  pub arc-to : (us : List Word) → has_entries us ≡ true → arc_to ws us ≡ words_place ws us
  unfolding arc_to
  arc-to [] e = absurd (true≢false (sym e))
  arc-to (u ∷ us) e = refl

  pub arc-to_nothing : arc_to ws [] ≡ 0
  unfolding arc_to
  arc-to_nothing = refl

  -- the nodes of the runs l, after nodes 0 and 1
  abbrev pub up_to : List (List Word) → Graph
  up_to l = node_of 0 false true (arc_to ws ws) ∷ node_of 0 false true 0 ∷ run_blocks l

  pub built-is : built ws ≡ up_to (word_runs ws)
  unfolding built
  built-is = refl

  pub built-split : (us : List Word) (s : Stands (word_runs ws) us) → built ws ≡ up_to s.before ++ (run_block us ++ run_blocks s.after)
  built-split us s = built-is ∙ ap up_to s.is ∙ ap (λ l. node_of 0 false true (arc_to ws ws) ∷ node_of 0 false true 0 ∷ l) (join_map_append run_block s.before (us ∷ s.after))

  pub place-first : words_place ws ws ≡ 2
  unfolding word_runs
  place-first =
      let r = first-met exact-words onwards 63 ws in
      ap (λ l. block_at same_words first_tiles 2 l ws) r.1 ∙ block-first exact-words first_tiles 2 ws r.0

  -- where a run stands
  pub record RunStands (us : List Word) : Type 0 where
    pub stands : Stands (word_runs ws) us
    pub is : words_place ws us ≡ length (up_to stands.before)
    pub from : drop (words_place ws us) (built ws) ≡ run_block us ++ run_blocks stands.after

  pub run-stands : (us : List Word) → Memᴰ us (word_runs ws) → RunStands us
  run-stands us m =
      let r = block-stands exact-words first_tiles run_block (λ q. run_length_lem (arc_to ws) (branches q)) (word_runs ws) 2 us m in
      let e : words_place ws us ≡ length (up_to r.0.before) = let x = r.1 in omega arith in
      record {
        stands = r.0;
        is = e;
        from = ap (λ n. drop n (built ws)) e ∙ ap (drop (length (up_to r.0.before))) (built-split us r.0)
            ∙ drop-append_seam (up_to r.0.before) (run_block us ++ run_blocks r.0.after);
      }

  module _ (lex : Lexicon 64 ws) where
    pub runs-lexicon : (us : List Word) → Memᴰ us (word_runs ws) → Lexicon 64 us
    unfolding word_runs
    runs-lexicon = every-met exact-words onwards (Lexicon 64) (λ p q l m. lexicon-longer 63 64 q (omega arith) (onwards-lexicon 63 p l q m).0) 64 ws lex

    pub low-start : Low onwards 64 ws
    low-start = λ us m. let r = onwards-lexicon 63 ws lex us m in low 63 us r.0 r.1

    pub list_in_runs : Memᴰ ws (word_runs ws)
    unfolding word_runs
    list_in_runs = start-met exact-words onwards 64 ws low-start

    pub onwards_in_runs : (us vs : List Word) → Memᴰ us (word_runs ws) → Memᴰ vs (onwards us) → Memᴰ vs (word_runs ws)
    unfolding word_runs
    onwards_in_runs us vs m n = children_met exact-words onwards 64 ws low-start us vs m n

    pub onward_in_runs : (us : List Word) → Memᴰ us (word_runs ws) → (b : Branch) → Memᴰ b (branches us) → has_entries (onward b) ≡ true
        → Memᴰ (onward b) (word_runs ws)
    onward_in_runs us m b n e = onwards_in_runs us (onward b) m (in_onwards us b n e)

    -- a run's place is a node's, after nodes 0 and 1
    pub words-place-within : (us : List Word) → Memᴰ us (word_runs ws) → has_entries us ≡ true → (2 ≤ words_place ws us) × (words_place ws us < length (built ws))
    words-place-within us m e =
        let f = run-stands us m in
        let b = up_to f.stands.before in
        let n = ap length (built-split us f.stands) ∙ length-append b (run_block us ++ run_blocks f.stands.after) in
        let k = length-append (run_block us) (run_blocks f.stands.after) in
        let l = run_length_lem (arc_to ws) (branches us) in
        let s = branches-some 64 us (runs-lexicon us m) e in
        let i = f.is in
        (omega arith, omega arith)
