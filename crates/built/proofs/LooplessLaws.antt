-- Nothing loops: an arc leads to words that are shorter, and along a run there is an end.
use Rattle.std.specs.Prelude.{◌≡◌, refl, true, false, ◌≢◌, drop, length}
use Rattle.std.proofs.Math.Path.{sym, ap, subst}
use Rattle.std.proofs.Common.{◌∙◌, true≢false, length-drop, drop-cons}
use mathlib.Core.List.Memᴰ
use mathlib.Core.List.{List, [], ◌∷◌, ◌++◌, Memᴰ, head-eq_of_cons-eq, tail-eq_of_cons-eq}
use Prim.Native.Nat.{ℕ, zero, suc, ◌+◌, ◌-◌, ◌≤◌, ◌<◌}
use Rattle.std.proofs.Math.Nat.{add-zero}
use native.Mathlib.Omega.{arith}
use Rattle.std.proofs.Math.Seq.{drop-append_seam}
use Rattle.node.specs.Nodes.{kbwg, arc, is_end}
use Rattle.node.specs.PackedLaws.{Fields}
use Rattle.graph.specs.Counting.{Loopless}
use Rattle.graph.specs.LoopLaws.{clear_above, Reach-inside}
use Rattle.graph.specs.Loops.{Clear, Step, by-arc, by-run}
use Rattle.graph.specs.Runs.{Graph, last_ends, node}
use Rattle.graph.specs.Words.{Word}
use Rattle.export.specs.BlocksLaws.{Stands, among-blocks}
use Rattle.built.specs.BranchLaws.{branches-some, onward-lexicon}
use Rattle.built.specs.Branches.{branches, onward}
use Rattle.built.specs.Built.{arc_to, built, node_of, word_runs, words_place}
use Rattle.built.proofs.FieldLaws.{arc_in, arc-some, branch-fields, kbwg-fields}
use Rattle.built.specs.Lexicon.{Lexicon}
use Rattle.built.proofs.RunNodeLaws.{in_run-nodes, run-nodes-end}
use Rattle.built.proofs.RunsLaws.{arc-to, built-is, built-split, list_in_runs, onward_in_runs, run_length_lem, run-stands, run_block, run_blocks}
use Rattle.built.proofs.RunsLaws.{runs-lexicon, up_to}
use Rattle.built.proofs.WithinLaws.{ends_read}

-- a node that stands at p
record Here (g : Graph) (p v : ℕ) (l : Graph) : Type 0 where
  within : p < length g
  is : node g p ≡ v
  rest : drop (suc p) g ≡ l

here : (g : Graph) (p v : ℕ) (l : Graph) → drop p g ≡ v ∷ l → Here g p v l
here g p v l e =
    let n : length g - p ≡ suc (length l) = sym (length-drop p g) ∙ ap length e in
    let h : p < length g = omega arith in
    let c : node g p ∷ drop (suc p) g ≡ v ∷ l = sym (drop-cons g p 0 h) ∙ e in
    record { within = h; is = head-eq_of_cons-eq c; rest = tail-eq_of_cons-eq c }

-- ---- a node, by where its steps lead
module _ (g : Graph) where
  clear-node : (p v : ℕ) → node g p ≡ v → (arc kbwg v ≢ 0 → Clear kbwg g (arc kbwg v)) → (is_end kbwg v ≡ false → Clear kbwg g (suc p))
      → Clear kbwg g p
  clear-node p v e by by' = clear_above kbwg g p (λ q s. next s)
    where
      next : {q : ℕ} → Step kbwg g p q → Clear kbwg g q
      next (by-arc h n) = subst (λ w. Clear kbwg g (arc kbwg w)) (sym e) (by (λ z. n (ap (arc kbwg) e ∙ z)))
      next (by-run h n) = by' (ap (is_end kbwg) (sym e) ∙ n)

  clear-run : (vs rest : List ℕ) (p : ℕ) → drop p g ≡ vs ++ rest → last_ends kbwg vs ≡ true
      → ((v : ℕ) → Memᴰ v vs → arc kbwg v ≢ 0 → Clear kbwg g (arc kbwg v)) → (j : ℕ) → j < length vs → Clear kbwg g (p + j)
  unfolding last_ends
  clear-run [] rest p d e f j h = absurd (omega arith)
  clear-run (v ∷ []) rest p d e f zero h =
      rw add-zero (clear-node p v (here g p v rest d).is (f v (Memᴰ.head refl)) (λ x. absurd (true≢false (sym e ∙ x))))
  clear-run (v ∷ []) rest p d e f (suc j) h = absurd (omega arith)
  clear-run (v ∷ w ∷ vs) rest p d e f zero h =
      let at = here g p v (w ∷ vs ++ rest) d in
      rw add-zero (clear-node p v at.is (f v (Memᴰ.head refl))
      (λ x. subst (Clear kbwg g) (add-zero (suc p)) (clear-run (w ∷ vs) rest (suc p) at.rest e (λ u m. f u (Memᴰ.tail m)) 0 (omega arith))))
  clear-run (v ∷ w ∷ vs) rest p d e f (suc j) h =
      let at = here g p v (w ∷ vs ++ rest) d in
      let i : suc p + j ≡ p + suc j = omega arith in
      subst (Clear kbwg g) i (clear-run (w ∷ vs) rest (suc p) at.rest e (λ u m. f u (Memᴰ.tail m)) j (omega arith))

-- ---- every node of the graph
module _ (ws : List Word) (lex : Lexicon 64 ws) (few : length (built ws) ≤ 16_777_216) where
  abbrev g : Graph
  g = built ws

  clear_at : (k : ℕ) (us : List Word) → Memᴰ us (word_runs ws) → Lexicon k us → (p : ℕ) (rest : List ℕ) → drop p g ≡ run_block ws us ++ rest
      → (j : ℕ) → j < length (branches us) → Clear kbwg g (p + j)
  unfolding branches
  clear_at zero [] m l p rest d j h = absurd (omega arith)
  clear_at zero (u ∷ us) m l p rest d j h = absurd (let a = l.fine.0.some in let b = l.fine.0.short in omega arith)
  clear_at (suc k) us m l p rest d j h =
      let n = run_length_lem (arc_to ws) (branches us) in
      clear-run g (run_block ws us) rest p d (run-nodes-end (arc_to ws) (branches us) (ends_read ws lex few us m) (omega arith))
      (λ v i z.
      let r = in_run-nodes (arc_to ws) (branches us) v i in
      let b = r.0 in
      let e : arc kbwg v ≡ arc_to ws (onward b) = ap (arc kbwg) r.3 ∙ (branch-fields ws lex few us m b r.1 r.2).arc-is in
      let s = arc-some ws lex (onward b) (λ x. z (e ∙ x)) in
      let o = onward_in_runs ws lex us m b r.1 s in
      let t = onward-lexicon k us l b r.1 in
      let f = run-stands ws (onward b) o in
      let c = clear_at k (onward b) o t (words_place ws (onward b)) (run_blocks ws f.stands.after) f.from 0 (branches-some k (onward b) t s) in
      subst (Clear kbwg g) (add-zero (words_place ws (onward b)) ∙ sym (e ∙ arc-to ws (onward b) s)) c)
      j (omega arith)

  pub stands_in : (us : List Word) → Stands (word_runs ws) us → Memᴰ us (word_runs ws)
  stands_in us s = subst (Memᴰ us) (sym s.is) (Memᴰ.append_right s.before (Memᴰ.head refl))

  clear_inner : (i : ℕ) → i < length (run_blocks ws (word_runs ws)) → Clear kbwg g (suc (suc i))
  clear_inner i h =
      let r = among-blocks (run_block ws) (word_runs ws) i h in
      let b = up_to ws r.stands.before in
      let rest = run_blocks ws r.stands.after in
      let m = stands_in r.one r.stands in
      let n = run_length_lem (arc_to ws) (branches r.one) in
      let w = r.within in
      let d : drop (length b) g ≡ run_block ws r.one ++ rest = ap (drop (length b)) (built-split ws r.one r.stands) ∙ drop-append_seam b (run_block ws r.one ++ rest) in
      let c = clear_at 64 r.one m (runs-lexicon ws lex r.one m) (length b) rest d r.along (omega arith) in
      let x = r.is in
      let e : length b + r.along ≡ suc (suc i) = omega arith in
      subst (Clear kbwg g) e c

  start-clear : arc_to ws ws ≢ 0 → Clear kbwg g (arc_to ws ws)
  start-clear n =
      let s = arc-some ws lex ws n in
      let m = list_in_runs ws lex in
      let f = run-stands ws ws m in
      let c = clear_at 64 ws m lex (words_place ws ws) (run_blocks ws f.stands.after) f.from 0 (branches-some 64 ws lex s) in
      subst (Clear kbwg g) (add-zero (words_place ws ws) ∙ sym (arc-to ws ws s)) c

  pub root-fields : Fields kbwg (node_of 0 false true (arc_to ws ws)) 0 false true (arc_to ws ws)
  root-fields = let a = arc_in ws lex ws (λ _. list_in_runs ws lex) in kbwg-fields 0 false true (arc_to ws ws) (omega arith) (omega arith)

  pub bare-fields : Fields kbwg (node_of 0 false true 0) 0 false true 0
  bare-fields = kbwg-fields 0 false true 0 (omega arith) (omega arith)

  pub all-clear : (p : ℕ) → p < length g → Clear kbwg g p
  all-clear zero h =
      let f = root-fields in
      clear-node g 0 (node_of 0 false true (arc_to ws ws)) (ap (λ l. node l 0) (built-is ws))
      (λ n. subst (Clear kbwg g) (sym f.arc-is) (start-clear (λ z. n (f.arc-is ∙ z))))
      (λ x. absurd (true≢false (sym f.end_is ∙ x)))
  all-clear (suc zero) h =
      let f = bare-fields in
      clear-node g 1 (node_of 0 false true 0) (ap (λ l. node l 1) (built-is ws))
      (λ n. absurd (n f.arc-is))
      (λ x. absurd (true≢false (sym f.end_is ∙ x)))
  all-clear (suc (suc i)) h = let e = ap length (built-is ws) in clear_inner i (omega arith)

  pub built-loopless : Loopless g
  built-loopless q r = (all-clear q (Reach-inside kbwg r)).itself r
