-- No node has more words than the list, so the graph counts wherever the list does not have too many words.
use Rattle.std.specs.Prelude.{◌≡◌, refl, true, false, ◌≢◌, ℕ, zero, suc, ◌+◌, ◌≤◌, ◌<◌, drop}
use Rattle.std.proofs.Math.Path.{ap}
use Rattle.std.proofs.Common.{ap₂, ◌∙◌, ⊎_elim, zero-le, length-drop}
use mathlib.Core.List.{List, [], ◌∷◌, ◌++◌, map, Memᴰ}
use native.Mathlib.Omega.{arith}
use Rattle.std.proofs.lemmas.Bool.{eqb-false}
use Rattle.std.proofs.Math.Dec.{eqb}
use Rattle.std.proofs.Math.ListN.{length, length-append, length-map}
use Rattle.std.proofs.Math.Seq.{drop-append-add}
use Rattle.std.proofs.lemmas.List.{drop-append-le}
use Rattle.laws.specs.Cases.{split}
use Rattle.laws.specs.Lists.{has_entries, join_all}
use Rattle.laws.specs.Members.{filtered-length, in_drop, in_filtered, in_map}
use Rattle.node.specs.Nodes.{kbwg, tile}
use Rattle.node.specs.PackedLaws.{Fields}
use Rattle.graph.specs.Counting.{Counts}
use Rattle.graph.specs.RunLaws.{run-last}
use Rattle.graph.specs.Runs.{Graph, run}
use Rattle.graph.specs.Words.{Word, count, in_order, spelled, words}
use Rattle.graph.proofs.WordsEquationLaws.{words-equation}
use Rattle.export.specs.BlocksLaws.{among-blocks, every-met}
use Rattle.built.specs.BranchLaws.{all-some, branch-rests, branches-words, lexicon-longer, onwards-lexicon, words_of, words_of_all}
use Rattle.built.specs.Branches.{Branch, branches, first_tiles, onward, onwards}
use Rattle.built.specs.Built.{arc_to, built, node_of, run_nodes, word_runs}
use Rattle.built.proofs.FieldLaws.{arc-some, arc-zero, branch-fields}
use Rattle.built.specs.Lexicon.{Lexicon}
use Rattle.built.proofs.LooplessLaws.{all-clear, bare-fields, root-fields, stands_in}
use Rattle.built.proofs.RunNodeLaws.{branch-spelled, branch_node, in_order-run, run-nodes}
use Rattle.built.proofs.RunsLaws.{arc-to, built-is, built-split, exact-words, list_in_runs, onward_in_runs, run_length_lem, run_block, run_blocks}
use Rattle.built.proofs.RunsLaws.{runs-lexicon, up_to}
use Rattle.built.proofs.SoundLaws.{built-counts}
use Rattle.built.proofs.WithinLaws.{ends_read}
use Rattle.built.proofs.WordsLaws.{words-at}

-- ---- lists joined
module _ {A B : Type 0} (f : A → List B) where
  one_of_all : (l : List A) (x : A) → Memᴰ x l → length (f x) ≤ length (join_all (map f l))
  one_of_all [] x m = absurd (mathlib.Core.List.Memᴰ.not-nil m)
  one_of_all (y ∷ l) x m =
      let n = length-append (f y) (join_all (map f l)) in
      ⊎_elim
      (λ (i : x ≡ y). let e = ap (λ z. length (f z)) i in omega arith)
      (λ (k : Memᴰ x l). let r = one_of_all l x k in omega arith)
      (mathlib.Core.List.Memᴰ.cases_cons m)

  some_of_all : (j : ℕ) (l : List A) → length (join_all (map f (drop j l))) ≤ length (join_all (map f l))
  some_of_all zero l = omega arith
  some_of_all (suc j) [] = omega arith
  some_of_all (suc j) (x ∷ l) =
      let r = some_of_all j l in
      let n = length-append (f x) (join_all (map f l)) in
      omega arith

drop-run : (to : List Word → ℕ) (j : ℕ) (bs : List Branch) → drop j (run_nodes to bs) ≡ run_nodes to (drop j bs)
unfolding run_nodes
drop-run to zero bs = refl
drop-run to (suc j) [] = refl
drop-run to (suc j) (b ∷ bs) = drop-run to j bs

-- ---- a run has no more words than the list
onwards_fewer : (ws us : List Word) → Lexicon 64 ws → Memᴰ us (onwards ws) → length us ≤ length ws
unfolding onwards
onwards_fewer ws us lex m =
    let r = in_filtered has_entries (map onward (branches ws)) us m in
    let s = in_map onward (branches ws) us r.0 in
    let b = s.0 in
    let e = ap length s.2 in
    let k = filtered-length has_entries b.rests in
    let n = length-map b.rests (b.first ∷◌) in
    let o = one_of_all words_of (branches ws) b s.1 in
    let w = ap length (branches-words ws (all-some 64 ws lex)) in
    omega arith

pub runs_fewer : (ws : List Word) → Lexicon 64 ws → (us : List Word) → Memᴰ us (word_runs ws) → length us ≤ length ws
unfolding word_runs
runs_fewer ws lex us m =
    (every-met exact-words onwards (λ p. Lexicon 64 p × (length p ≤ length ws))
    (λ p q h n. let o = onwards_fewer p q h.0 n in let k = h.1 in (lexicon-longer 63 64 q (omega arith) (onwards-lexicon 63 p h.0 q n).0, omega arith))
    64 ws (lex, omega arith) us m).1

module _ (ws : List Word) (lex : Lexicon 64 ws) (few : length (built ws) ≤ 16_777_216) where
  abbrev g : Graph
  g = built ws

  -- ---- the words from a node within a run: those of its branches from there on
  words-along : (us : List Word) → Memᴰ us (word_runs ws) → (p j : ℕ) (rest : List ℕ) → p < length g → j < length (branches us)
      → drop p g ≡ run_nodes (arc_to ws) (drop j (branches us)) ++ rest → words kbwg g p ≡ words_of_all (drop j (branches us))
  words-along us m p j rest h k d =
      let bs = drop j (branches us) in
      let l = length-drop j (branches us) in
      words-equation kbwg g p (all-clear ws lex few p h)
      ∙ ap (λ x. in_order (spelled kbwg (words kbwg g)) (run kbwg x)) d
      ∙ ap (in_order (spelled kbwg (words kbwg g))) (run-nodes (arc_to ws) bs rest (λ b n. ends_read ws lex few us m b (in_drop b j (branches us) n)) (omega arith))
      ∙ in_order-run (arc_to ws) (spelled kbwg (words kbwg g)) bs
      (λ b n x.
      let i = in_drop b j (branches us) n in
      let within = onward_in_runs ws lex us m b i in
      branch-spelled (words kbwg g) (branch_node (arc_to ws) b x) b x (arc_to ws (onward b)) (branch-fields ws lex few us m b i x)
      (branch-rests 64 us (runs-lexicon ws lex us m) b i)
      (arc-zero ws lex (onward b) within)
      (λ z. let s = arc-some ws lex (onward b) z in ap (words kbwg g) (arc-to ws (onward b) s) ∙ words-at ws lex few (onward b) (within s) s))

  inner_few : (i : ℕ) → i < length (run_blocks ws (word_runs ws)) → count kbwg g (suc (suc i)) ≤ length ws
  inner_few i h =
      let r = among-blocks (run_block ws) (word_runs ws) i h in
      let us = r.one in
      let m = stands_in ws lex few us r.stands in
      let b = up_to ws r.stands.before in
      let rest = run_blocks ws r.stands.after in
      let w = r.within in
      let n = run_length_lem (arc_to ws) (branches us) in
      let x = r.is in
      let e : suc (suc i) ≡ length b + r.along = omega arith in
      let d : drop (suc (suc i)) g ≡ run_nodes (arc_to ws) (drop r.along (branches us)) ++ rest =
      ap₂ drop e (built-split ws us r.stands)
      ∙ drop-append-add b (run_block ws us ++ rest) r.along
      ∙ drop-append-le r.along (run_block ws us) rest (omega arith)
      ∙ ap (◌++ rest) (drop-run (arc_to ws) r.along (branches us)) in
      let first_tiles = ap length (built-is ws) in
      let c = ap length (words-along us m (suc (suc i)) r.along rest (omega arith) (omega arith) d) in
      let s = some_of_all words_of r.along (branches us) in
      let t = ap length (branches-words us (all-some 64 us (runs-lexicon ws lex us m))) in
      let u = runs_fewer ws lex us m in
      omega arith

  -- ---- nodes 0 and 1
  alone-count : (p v r : ℕ) (l : Graph) → p < length g → drop p g ≡ v ∷ l → Fields kbwg v 0 false true r
      → count kbwg g p ≡ length (spelled kbwg (words kbwg g) v)
  unfolding in_order
  alone-count p v r l h d f =
      ap length
      (words-equation kbwg g p (all-clear ws lex few p h)
      ∙ ap (λ x. in_order (spelled kbwg (words kbwg g)) (run kbwg x)) d
      ∙ ap (in_order (spelled kbwg (words kbwg g))) (run-last kbwg v l f.end_is))
      ∙ length-append (spelled kbwg (words kbwg g) v) []
      ∙ omega arith

  spelled-few : (v r : ℕ) → Fields kbwg v 0 false true r → (r ≢ 0 → count kbwg g r ≤ length ws) → length (spelled kbwg (words kbwg g) v) ≤ length ws
  unfolding spelled
  spelled-few v r f h =
      split (eqb r 0)
      (λ z. rw (f.accepts-is, ap (λ k. eqb k 0) f.arc-is ∙ z, spelled) zero-le)
      (λ z. rw (f.accepts-is, ap (λ k. eqb k 0) f.arc-is ∙ z, spelled, f.arc-is)
      (let n = length-map (words kbwg g r) (tile kbwg v ∷◌) in let k = h (eqb-false r 0 z) in omega arith))

  pub count-few : (p : ℕ) → p < length g → count kbwg g p ≤ length ws
  count-few zero h =
      let f = root-fields ws lex few in
      let c = alone-count 0 (node_of 0 false true (arc_to ws ws)) (arc_to ws ws) (node_of 0 false true 0 ∷ run_blocks ws (word_runs ws)) h (built-is ws) f in
      let s = spelled-few (node_of 0 false true (arc_to ws ws)) (arc_to ws ws) f
      (λ n.
      let t = arc-some ws lex ws n in
      let e = ap (λ q. length (words kbwg g q)) (arc-to ws ws t) ∙ ap length (words-at ws lex few ws (list_in_runs ws lex) t) in
      omega arith) in
      omega arith
  count-few (suc zero) h =
      let f = bare-fields ws lex few in
      let c = alone-count 1 (node_of 0 false true 0) 0 (run_blocks ws (word_runs ws)) h (ap (drop 1) (built-is ws)) f in
      let s = spelled-few (node_of 0 false true 0) 0 f (λ n. absurd (n refl)) in
      omega arith
  count-few (suc (suc i)) h = let e = ap length (built-is ws) in inner_few i (omega arith)

  -- "and count unless the list has too many words, where counting says so as before"
  pub counts_unless : (limit : ℕ) → length ws < limit → Counts limit g
  counts_unless limit h = built-counts ws lex few limit (λ p k. let c = count-few p k in omega arith)
