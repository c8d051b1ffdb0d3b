-- The graph passes every check: its runs ascend, its arcs lead to run beginnings among its nodes, its last node is an end, and no two
-- arcs lead to the same words.
use Rattle.std.specs.Prelude.{◌≡◌, Bool, not, ◌≢◌, ℕ, ◌-◌, ◌^◌, ◌≤◌, ◌<◌, eqb}
use Rattle.std.proofs.Math.Path.{refl, ap, subst}
use Rattle.std.proofs.Common.{sym, ◌∙◌, ⊎_elim, arith, eqb-true, le-ltb}
use Rattle.std.proofs.Math.Bool.{true, false}
use mathlib.Core.List.Memᴰ
use mathlib.Core.List.{List, [], ◌∷◌, ◌++◌, Memᴰ}
use Rattle.std.proofs.Math.Option.{none, some}
use Rattle.std.proofs.lemmas.Bool.{eqb-false, lt-leb}
use Rattle.std.proofs.Math.ListN.{get_or-append, length}
use Rattle.laws.specs.Cases.{split}
use Rattle.laws.specs.Lists.{has_entries}
use Rattle.laws.specs.Members.{in_join}
use Rattle.answers.specs.Answers.{first_of}
use Rattle.answers.specs.RowLaws.{all_pass, row-passes}
use Rattle.node.specs.Nodes.{kbwg, arc, is_end}
use Rattle.graph.specs.Checks.{graph_row, nodes_row}
use Rattle.graph.specs.ChecksLaws.{last_of}
use Rattle.graph.specs.Counting.{Counts}
use Rattle.graph.specs.Runs.{Graph, ascends, largest_arc, last_ends, node, run}
use Rattle.graph.specs.Words.{Word, count, words}
use Rattle.built.specs.BranchLaws.{all-some, branches-climb}
use Rattle.built.specs.Branches.{Branch, branches, onward}
use Rattle.built.specs.Built.{arc_to, built, node_of, run_nodes, word_runs, words_place}
use Rattle.built.proofs.EndLaws.{Ended, ended-all, ended-node, ended-run, largest-below, run-ascends}
use Rattle.built.proofs.FieldLaws.{arc-some, branch-fields, built-two}
use Rattle.built.specs.Lexicon.{Lexicon}
use Rattle.built.proofs.LooplessLaws.{bare-fields, built-loopless, root-fields}
use Rattle.built.proofs.RunNodeLaws.{branch_node, in_run-nodes, run-nodes-end}
use Rattle.built.proofs.RunsLaws.{arc-to, built-is, built-split, list_in_runs, onward_in_runs, run-stands, run_block, run_blocks, runs-lexicon}
use Rattle.built.proofs.RunsLaws.{up_to, words-place-within}
use Rattle.built.proofs.WithinLaws.{ends_read}
use Rattle.built.proofs.WordsLaws.{words-at}

module _ (ws : List Word) (lex : Lexicon 64 ws) (few : length (built ws) ≤ 16_777_216) where
  abbrev g : Graph
  g = built ws

  -- ---- the runs one after the other
  block-ended : (us : List Word) → Memᴰ us (word_runs ws) → (ys : Graph) → Ended ys → Ended (run_block ws us ++ ys)
  unfolding run_nodes
  block-ended us m ys k =
      by_length (branches us) refl
    where
      by_length : (bs : List Branch) → branches us ≡ bs → Ended (run_block ws us ++ ys)
      by_length [] e = subst (λ l. Ended (run_nodes (arc_to ws) l ++ ys)) (sym e) k
      by_length (b ∷ bs) e =
          let lu = runs-lexicon ws lex us m in
          let h = ap length e in
          ended-run (run_block ws us) ys
          (run-ascends (arc_to ws) (branches us) (λ c n x. (branch-fields ws lex few us m c n x).tile-is) (branches-climb us (all-some 64 us lu) lu.ascending))
          (run-nodes-end (arc_to ws) (branches us) (ends_read ws lex few us m) (omega arith))
          k

  up-to-ended : (l : List (List Word)) → ((us : List Word) → Memᴰ us l → Memᴰ us (word_runs ws)) → Ended (up_to ws l)
  up-to-ended l h =
      ended-node (node_of 0 false true (arc_to ws ws)) (node_of 0 false true 0 ∷ run_blocks ws l) (root-fields ws lex few).end_is
      (ended-node (node_of 0 false true 0) (run_blocks ws l) (bare-fields ws lex few).end_is
      (ended-all (run_block ws) l (λ us m. block-ended us (h us m))))

  up-to-last : (l : List (List Word)) → ((us : List Word) → Memᴰ us l → Memᴰ us (word_runs ws)) → last_ends kbwg (up_to ws l) ≡ true
  unfolding last_ends
  up-to-last l h = (up-to-ended l h).last (node_of 0 false true 0) (bare-fields ws lex few).end_is

  -- "then runs that ascend"
  pub built-ascends : ascends kbwg g ≡ true
  built-ascends = subst (λ l. ascends kbwg l ≡ true) (sym (built-is ws)) (up-to-ended (word_runs ws) (λ us m. m)).rising

  pub built-ends : last_ends kbwg g ≡ true
  built-ends = subst (λ l. last_ends kbwg l ≡ true) (sym (built-is ws)) (up-to-last (word_runs ws) (λ us m. m))

  -- ---- every node is the root, the bare node, or a branch's
  each-node : (P : ℕ → Type 0) → P (node_of 0 false true (arc_to ws ws)) → P (node_of 0 false true 0)
      → ((us : List Word) → Memᴰ us (word_runs ws) → (b : Branch) → Memᴰ b (branches us) → (e : Bool) → P (branch_node (arc_to ws) b e))
      → (v : ℕ) → Memᴰ v g → P v
  each-node P root bare inner v m =
      ⊎_elim
      (λ i. subst P (sym i) root)
      (λ k. ⊎_elim
      (λ i. subst P (sym i) bare)
      (λ j.
      let r = in_join (run_block ws) (word_runs ws) v j in
      let n = in_run-nodes (arc_to ws) (branches r.0) v r.2 in
      subst P (sym n.3) (inner r.0 r.1 n.0 n.1 n.2))
      (Memᴰ.cases_cons k))
      (Memᴰ.cases_cons (subst (Memᴰ v) (built-is ws) m))

  -- an arc leads to the place of a run
  pub record Leads (p : ℕ) : Type 0 where
    pub run : List Word
    pub among : Memᴰ run (word_runs ws)
    pub some : has_entries run ≡ true
    pub is : p ≡ words_place ws run

  leads-to : (us : List Word) (p : ℕ) → p ≡ arc_to ws us → p ≢ 0 → (has_entries us ≡ true → Memᴰ us (word_runs ws)) → Leads p
  leads-to us p e n m =
      let s = arc-some ws lex us (λ z. n (e ∙ z)) in
      record { run = us; among = m s; some = s; is = e ∙ arc-to ws us s }

  pub arcs_lead : (v : ℕ) → Memᴰ v g → arc kbwg v ≢ 0 → Leads (arc kbwg v)
  arcs_lead =
      each-node (λ v. arc kbwg v ≢ 0 → Leads (arc kbwg v))
      (λ n. leads-to ws (arc kbwg (node_of 0 false true (arc_to ws ws))) (root-fields ws lex few).arc-is n (λ _. list_in_runs ws lex))
      (λ n. absurd (n (bare-fields ws lex few).arc-is))
      (λ us m b k e n. leads-to (onward b) (arc kbwg (branch_node (arc_to ws) b e)) (branch-fields ws lex few us m b k e).arc-is n (onward_in_runs ws lex us m b k))

  pub nodes-below : (v : ℕ) → Memᴰ v g → v < 2 ^ 32
  nodes-below =
      each-node (λ v. v < 2 ^ 32) (root-fields ws lex few).below (bare-fields ws lex few).below
      (λ us m b k e. (branch-fields ws lex few us m b k e).below)

  pub built-arcs-inside : (v : ℕ) → Memᴰ v g → arc kbwg v < length g
  built-arcs-inside v m =
      split (eqb (arc kbwg v) 0)
      (λ t. let e = eqb-true (arc kbwg v) 0 t in let two = built-two ws lex in omega arith)
      (λ t.
      let a = arcs_lead v m (eqb-false (arc kbwg v) 0 t) in
      let e = a.is in
      let h = (words-place-within ws lex a.run a.among a.some).1 in
      omega arith)

  -- "It must load": neither 8 nor 9, and with 2 to 16,777,216 nodes not 10
  pub built-sound : first_of (nodes_row g) ≡ none
  built-sound =
      let largest = largest-below g (length g) (let two = built-two ws lex in omega arith) built-arcs-inside in
      all_pass (nodes_row g) (lt-leb (length g) (largest_arc kbwg g) largest, (ap not built-ends, tt))

  pub built-fits : first_of (graph_row g) ≡ none
  built-fits = row-passes _ _ _ (rw (le-ltb (length g) 2 (built-two ws lex), le-ltb 16_777_216 (length g) few)) ∙ built-sound

  -- "and count unless the list has too many words"
  pub built-counts : (limit : ℕ) → ((p : ℕ) → p < length g → count kbwg g p < limit) → Counts limit g
  built-counts limit h = record { fit = built-fits; loopless = built-loopless ws lex few; few = h }

  -- "Each arc goes to a run's first node": the node before it is an end
  begins-at : (us : List Word) → Memᴰ us (word_runs ws) → is_end kbwg (node g (words_place ws us - 1)) ≡ true
  begins-at us m =
      let f = run-stands ws us m in
      let s = f.stands in
      let l = up_to ws s.before in
      let r = run_block ws us ++ run_blocks ws s.after in
      let e : words_place ws us - 1 ≡ length l - 1 = ap (λ n. n - 1) f.is in
      ap (λ n. is_end kbwg (node g n)) e
      ∙ ap (λ h. is_end kbwg (node h (length l - 1))) (built-split ws us s)
      ∙ ap (is_end kbwg) (get_or-append l r 0 (length l - 1) (omega arith))
      ∙ last_of kbwg l (omega arith)
      ∙ up-to-last s.before (λ vs n. subst (Memᴰ vs) (sym s.is) (Memᴰ.append_left (us ∷ s.after) n))

  pub arcs-begin : (v : ℕ) → Memᴰ v g → arc kbwg v ≢ 0 → (2 ≤ arc kbwg v) × (is_end kbwg (node g (arc kbwg v - 1)) ≡ true)
  arcs-begin v m n =
      let a = arcs_lead v m n in
      let e = a.is in
      let h = (words-place-within ws lex a.run a.among a.some).0 in
      (omega arith, ap (λ p. is_end kbwg (node g (p - 1))) e ∙ begins-at a.run a.among)

  -- "and no two of these hold the same words"
  pub arcs-apart : (v w : ℕ) → Memᴰ v g → Memᴰ w g → arc kbwg v ≢ 0 → arc kbwg w ≢ 0
      → words kbwg g (arc kbwg v) ≡ words kbwg g (arc kbwg w) → arc kbwg v ≡ arc kbwg w
  arcs-apart v w m k n z e =
      let a = arcs_lead v m n in
      let b = arcs_lead w k z in
      let x = ap (words kbwg g) a.is ∙ words-at ws lex few a.run a.among a.some in
      let y = ap (words kbwg g) b.is ∙ words-at ws lex few b.run b.among b.some in
      a.is ∙ ap (words_place ws) (sym x ∙ e ∙ y) ∙ sym b.is
