-- The nodes of a run: they end where the branches do, and spell the branches' words.
use Rattle.std.specs.Prelude.{◌≡◌, Bool, ◌≢◌, ℕ, ◌<◌, eqb, length}
use Rattle.std.proofs.Math.Path.{refl, ap, ap₂}
use Rattle.std.proofs.Common.{sym, ◌∙◌, arith, eqb-true}
use Rattle.std.proofs.Math.Bool.{true, false}
use Rattle.std.proofs.Math.Logic.{⊎_elim}
use mathlib.Core.List.Memᴰ
use mathlib.Core.List.{List, [], ◌∷◌, ◌++◌, map, map-append, Memᴰ}
use Rattle.std.proofs.lemmas.Bool.{eqb-false}
use Rattle.laws.specs.Cases.{split}
use Rattle.laws.specs.Lists.{is_empty}
use Rattle.node.specs.Nodes.{kbwg, is_end}
use Rattle.node.specs.PackedLaws.{Fields}
use Rattle.graph.specs.Order.{Ascending}
use Rattle.graph.specs.RunLaws.{run-last, run-next}
use Rattle.graph.specs.Runs.{last_ends, run}
use Rattle.graph.specs.Words.{Word, in_order, spelled}
use Rattle.built.specs.BranchLaws.{empty_word, rests-split, words_of, words_of_all}
use Rattle.built.specs.Branches.{Branch, onward, tile_alone}
use Rattle.built.specs.Built.{node_of, run_nodes}

-- ---- one branch
-- its words: the tile alone, then the tile before the onward words
branch-words : (b : Branch) → Ascending b.rests → (a : Bool) (o : List Word) → tile_alone b ≡ a → onward b ≡ o
    → words_of b ≡ map (b.first ∷◌) (empty_word a) ++ map (b.first ∷◌) o
branch-words b s a o e f =
    ap (map (b.first ∷◌)) (rests-split b.rests s ∙ ap₂ (λ x y. empty_word x ++ y) e f)
    ∙ map-append (b.first ∷◌) (empty_word a) o

pub branch-spelled : (from : ℕ → List Word) (v : ℕ) (b : Branch) (e : Bool) (r : ℕ) → Fields kbwg v b.first (tile_alone b) e r
    → Ascending b.rests → (r ≡ 0 → onward b ≡ []) → (r ≢ 0 → from r ≡ onward b) → spelled kbwg from v ≡ words_of b
unfolding spelled
branch-spelled from v b e r f s none some =
    let yes = f.accepts-is in
    let to = ap (λ k. eqb k 0) f.arc-is in
    split (tile_alone b)
    (λ x. split (eqb r 0)
    (λ z. rw (yes ∙ x, to ∙ z, spelled, f.tile-is) (sym (branch-words b s true [] x (none (eqb-true r 0 z)))))
    (λ z. rw (yes ∙ x, to ∙ z, spelled, f.tile-is, f.arc-is, some (eqb-false r 0 z)) (sym (branch-words b s true (onward b) x refl))))
    (λ x. split (eqb r 0)
    (λ z. rw (yes ∙ x, to ∙ z, spelled) (sym (branch-words b s false [] x (none (eqb-true r 0 z)))))
    (λ z. rw (yes ∙ x, to ∙ z, spelled, f.tile-is, f.arc-is, some (eqb-false r 0 z)) (sym (branch-words b s false (onward b) x refl))))

module _ (to : List Word → ℕ) where
  -- a branch's node, an end or not
  abbrev pub branch_node : Branch → Bool → ℕ
  branch_node b e = node_of b.first (tile_alone b) e (to (onward b))

  pub in_run-nodes : (bs : List Branch) (v : ℕ) → Memᴰ v (run_nodes to bs) → (b : Branch) × Memᴰ b bs × (e : Bool) × (v ≡ branch_node b e)
  unfolding run_nodes
  in_run-nodes [] v m = absurd (Memᴰ.not-nil m)
  in_run-nodes (b ∷ bs) v m =
      ⊎_elim
      (λ i. (b, Memᴰ.head refl, is_empty bs, i))
      (λ k. let r = in_run-nodes bs v k in (r.0, Memᴰ.tail r.1, r.2, r.3))
      (Memᴰ.cases_cons m)

  pub in_order-run : (f : ℕ → List Word) (bs : List Branch) → ((b : Branch) → Memᴰ b bs → (e : Bool) → f (branch_node b e) ≡ words_of b)
      → in_order f (run_nodes to bs) ≡ words_of_all bs
  unfolding in_order run_nodes
  in_order-run f [] h = refl
  in_order-run f (b ∷ bs) h = ap₂ ◌++◌ (h b (Memᴰ.head refl) (is_empty bs)) (in_order-run f bs (λ c m. h c (Memᴰ.tail m)))

  -- ---- where a run ends
  module _ (bs : List Branch) where
    abbrev pub EndsRead : Type 0
    EndsRead = (b : Branch) → Memᴰ b bs → (e : Bool) → is_end kbwg (branch_node b e) ≡ e

  pub run-nodes : (bs : List Branch) (rest : List ℕ) → EndsRead bs → 0 < length bs → run kbwg (run_nodes to bs ++ rest) ≡ run_nodes to bs
  unfolding run_nodes
  run-nodes [] rest h l = absurd (omega arith)
  run-nodes (b ∷ []) rest h l = run-last kbwg (branch_node b true) rest (h b (Memᴰ.head refl) true)
  run-nodes (b ∷ c ∷ bs) rest h l =
      run-next kbwg (branch_node b false) (run_nodes to (c ∷ bs) ++ rest) (h b (Memᴰ.head refl) false)
      ∙ ap (branch_node b false ∷◌) (run-nodes (c ∷ bs) rest (λ d m. h d (Memᴰ.tail m)) (omega arith))

  pub run-nodes-end : (bs : List Branch) → EndsRead bs → 0 < length bs → last_ends kbwg (run_nodes to bs) ≡ true
  unfolding run_nodes last_ends
  run-nodes-end [] h l = absurd (omega arith)
  run-nodes-end (b ∷ []) h l = h b (Memᴰ.head refl) true
  run-nodes-end (b ∷ c ∷ bs) h l = run-nodes-end (c ∷ bs) (λ d m. h d (Memᴰ.tail m)) (omega arith)
