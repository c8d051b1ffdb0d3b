-- The graph's own numbers are those that `to_lxd` gives: its runs are met in the order in which they stand, and each arc leads to the
-- same place in the file.
use Rattle.std.specs.Prelude.{◌≡◌, Bool, ℕ, ◌≤◌, drop, length}
use Rattle.std.proofs.Math.Path.{refl, ap}
use Rattle.std.proofs.Common.{sym, ap₂, ◌∙◌, ⊎_elim, arith, eq-eqb, ne_eqb}
use Rattle.std.proofs.Math.Bool.{true, false, not}
use mathlib.Core.List.{List, [], ◌∷◌, ◌++◌, map, Memᴰ}
use Rattle.std.proofs.Math.Dec.{eqb}
use Rattle.laws.specs.Cases.{same?}
use Rattle.laws.specs.Lists.{filtered, has_entries, is_empty, join_all, split-empty}
use Rattle.laws.proofs.SameLaws.{exact-number}
use Rattle.node.specs.Nodes.{kbwg, arc}
use Rattle.graph.specs.Runs.{Graph, node, start_node}
use Rattle.graph.specs.Words.{Word, words}
use Rattle.export.specs.Blocks.{met, block_at}
use Rattle.export.specs.AlikeLaws.{met-alike, places-alike}
use Rattle.export.specs.BlocksLaws.{every-met}
use Rattle.export.specs.Starts.{arcs_from, has_arc, run_of}
use Rattle.lxd_file.specs.File.{child, reached, run_size, runs as lxd_runs}
use Rattle.lxd_file.proofs.RunsLaws.{child-place, no-child}
use Rattle.built.specs.BranchLaws.{branches-some, onwards-lexicon}
use Rattle.built.specs.Branches.{Branch, branches, first_tiles, onward, onwards}
use Rattle.built.specs.Built.{arc_to, built, run_nodes, word_runs, words_place}
use Rattle.built.proofs.FieldLaws.{branch-fields}
use Rattle.built.specs.Lexicon.{Lexicon}
use Rattle.built.proofs.LooplessLaws.{root-fields}
use Rattle.built.proofs.RunNodeLaws.{branch_node}
use Rattle.built.proofs.RunsLaws.{arc-to, arc-to_nothing, built-is, exact-words, list_in_runs, onward_in_runs, onwards_in_runs, run_length_lem}
use Rattle.built.proofs.RunsLaws.{run_block, runs-lexicon, words-place-within}
use Rattle.built.proofs.SoundLaws.{arcs_lead}
use Rattle.built.proofs.WithinLaws.{built-run-at}
use Rattle.built.proofs.WordsLaws.{words-at}

module _ (ws : List Word) (lex : Lexicon 64 ws) (few : length (built ws) ≤ 16_777_216) where
  abbrev g : Graph
  g = built ws

  -- a run with words
  abbrev Full : List Word → Type 0
  Full us = Memᴰ us (word_runs ws) × (has_entries us ≡ true)

  apart : (us vs : List Word) → Full us → Full vs → words_place ws us ≡ words_place ws vs → us ≡ vs
  apart us vs a b e = sym (words-at ws lex few us a.0 a.1) ∙ ap (words kbwg g) e ∙ words-at ws lex few vs b.0 b.1

  full-onwards : (us vs : List Word) → Full us → Memᴰ vs (onwards us) → Full vs
  full-onwards us vs a m = (onwards_in_runs ws lex us vs a.0 m, (onwards-lexicon 63 us (runs-lexicon ws lex us a.0) vs m).1)

  run-of : (us : List Word) → Full us → run_of g (words_place ws us) ≡ run_block ws us
  run-of us a = built-run-at ws lex few us a.0 (branches-some 64 us (runs-lexicon ws lex us a.0) a.1)

  -- the arcs of a run lead to the places of its onward runs
  arcs-of : (bs : List Branch) → ((b : Branch) → Memᴰ b bs → (e : Bool) → arc kbwg (branch_node (arc_to ws) b e) ≡ arc_to ws (onward b))
      → ((b : Branch) → Memᴰ b bs → has_entries (onward b) ≡ true → 2 ≤ words_place ws (onward b))
      → map (arc kbwg) (filtered has_arc (run_nodes (arc_to ws) bs)) ≡ map (words_place ws) (filtered has_entries (map onward bs))
  unfolding run_nodes
  arcs-of [] a p = refl
  arcs-of (b ∷ bs) a p =
      let v = branch_node (arc_to ws) b (is_empty bs) in
      let e = a b (Memᴰ.head refl) (is_empty bs) in
      let r = arcs-of bs (λ c m. a c (Memᴰ.tail m)) (λ c m. p c (Memᴰ.tail m)) in
      split-empty (onward b)
      (λ z.
      let no : has_arc v ≡ false = ap not (eq-eqb (arc kbwg v) 0 (e ∙ ap (arc_to ws) z ∙ arc-to_nothing ws)) in
      let not-filled : has_entries (onward b) ≡ false = ap has_entries z in
      rw (no, filtered) (rw (not-filled, filtered) r))
      (λ s.
      let to = arc-to ws (onward b) s in
      let two = p b (Memᴰ.head refl) s in
      let yes : has_arc v ≡ true = ap not (ne_eqb (arc kbwg v) 0 (λ z. omega arith)) in
      rw (yes, filtered) (rw (s, filtered) (ap₂ ◌∷◌ (e ∙ to) r)))

  alike : (us : List Word) → Full us → arcs_from g (words_place ws us) ≡ map (words_place ws) (onwards us)
  unfolding onwards
  alike us a =
      ap (λ l. map (arc kbwg) (filtered has_arc l)) (run-of us a)
      ∙ arcs-of (branches us)
      (λ b m e. (branch-fields ws lex few us a.0 b m e).arc-is)
      (λ b m s. (words-place-within ws lex (onward b) (onward_in_runs ws lex us a.0 b m s) s).0)

  module _ (some : has_entries ws ≡ true) where
    full_start : Full ws
    full_start = (list_in_runs ws lex, some)

    pub start-at : start_node g 0 ≡ words_place ws ws
    start-at = ap (λ l. arc kbwg (node l 0)) (built-is ws) ∙ (root-fields ws lex few).arc-is ∙ arc-to ws ws some

    all-full : (us : List Word) → Memᴰ us (word_runs ws) → Full us
    unfolding word_runs
    all-full = every-met exact-words onwards Full full-onwards 64 ws full_start

    -- "runs take consecutive places when first met, as in LXD"
    pub lxd-runs : lxd_runs g ≡ map (words_place ws) (word_runs ws)
    unfolding lxd_runs word_runs
    lxd-runs =
        ap (met eqb (arcs_from g) 64 []) start-at
        ∙ met-alike exact-words exact-number Full (words_place ws) apart onwards (arcs_from g) full-onwards alike 64 ws full_start

    as_long : (us : List Word) → Full us → run_size g (words_place ws us) ≡ first_tiles us
    as_long us a = ap length (run-of us a) ∙ run_length_lem (arc_to ws) (branches us)

    own-place : (us : List Word) → Full us → child g (words_place ws us) ≡ words_place ws us
    own-place us a =
        let h = (words-place-within ws lex us a.0 a.1).0 in
        child-place g (words_place ws us) (λ z. omega arith)
        ∙ ap (λ l. block_at eqb (run_size g) 2 l (words_place ws us)) lxd-runs
        ∙ places-alike exact-words exact-number Full (words_place ws) apart first_tiles (run_size g) as_long (word_runs ws) 2 us all-full a

    pub lxd-child : (v : ℕ) → Memᴰ v g → child g (arc kbwg v) ≡ arc kbwg v
    lxd-child v m =
        ⊎_elim
        (λ z. ap (child g) z ∙ no-child g ∙ sym z)
        (λ n.
        let a = arcs_lead ws lex few v m n in
        ap (child g) a.is ∙ own-place a.run (a.among, a.some) ∙ sym a.is)
        (same? (arc kbwg v) 0)

    same_blocks : (l : List (List Word)) → ((us : List Word) → Memᴰ us l → Full us) → join_all (map (run_of g) (map (words_place ws) l)) ≡ join_all (map (run_block ws) l)
    same_blocks [] h = refl
    same_blocks (us ∷ l) h = ap₂ ◌++◌ (run-of us (h us (Memᴰ.head refl))) (same_blocks l (λ vs m. h vs (Memᴰ.tail m)))

    -- the file's nodes after its first two are the graph's, in order
    pub lxd-nodes : reached g ≡ drop 2 g
    lxd-nodes = ap (λ l. join_all (map (run_of g) l)) lxd-runs ∙ same_blocks (word_runs ws) all-full ∙ sym (ap (drop 2) (built-is ws))
