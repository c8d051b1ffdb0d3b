-- The graph of words has at most two nodes more than the words have tiles, so two nodes more than the list has bytes are enough. The idea: a
-- run has no more nodes than words, and leads on to what follows the first tile of each.
use mathlib.Core.Path.{◌≡◌, ap, ◌∙◌}
use mathlib.Core.Bool.{Bool}
use mathlib.Core.List.{List, [], ◌∷◌, ◌++◌, map}
use Prim.Native.Nat.{ℕ, zero, suc, ◌+◌, ◌≤◌}
use native.Mathlib.Omega.{arith}
use borrow.Author.Tests.{le-ltb}
use lib.Dec.{eqb}
use lib.ListN.{length, length-append}
use Rattle.laws.specs.Cases.{split}
use Rattle.laws.specs.Lists.{has_entries, filtered, some_of}
use Rattle.answers.specs.RowLaws.{rows_pass, rows-passed, all_pass}
use Rattle.graph.specs.Words.{Word}
use Rattle.export.specs.Blocks.{each, met, total}
use Rattle.export.specs.BlocksLaws.{blocks-length}
use Rattle.built.specs.Branches.{Branch, branches_with, branches, first_tiles, onward, onwards}
use Rattle.built.specs.Built.{same_words, word_runs, arc_to, built}
use Rattle.built.proofs.RunsLaws.{run_length_lem, run_block, built-is}
use Rattle.built.specs.Listed.{words_listed, list_row, list_bytes}
use Rattle.built.proofs.ListedLaws.{listed-lexicon}
use Rattle.built.specs.Build.{build_checks, built_row, build_row, building, build_as}
use Rattle.guarantees.specs.BuiltRoom.{RoomEnough}

-- ---- sums over a list
module _ {A : Type 0} (size : A → ℕ) where
  total-end : (l : List A) (p : A) → total size (l ++ p ∷ []) ≡ total size l + size p
  unfolding total
  total-end [] p = omega arith
  total-end (q ∷ l) p = let r = total-end l p in omega arith

  total-filtered : (f : A → Bool) (l : List A) → total size (filtered f l) ≤ total size l
  unfolding total
  total-filtered f [] = omega arith
  total-filtered f (q ∷ l) =
      let r = total-filtered f l in
      split (f q) (λ e. rw (e, total) (omega arith)) (λ e. rw (e, total) (omega arith))

-- ---- where each block weighs at least its own nodes and what its children weigh, all that are met from one have no more nodes than it weighs
module _ {A : Type 0} (same : A → A → Bool) (children : A → List A) (size weight : A → ℕ)
    (covers : (p : A) → size p + total weight (children p) ≤ weight p) where
  abbrev MeetingAdds : ℕ → Type 0
  MeetingAdds k = (seen : List A) (p : A) → total size (met same children k seen p) ≤ total size seen + weight p

  each_adds : (k : ℕ) → MeetingAdds k → (seen qs : List A) → total size (each (met same children k) seen qs) ≤ total size seen + total weight qs
  unfolding total
  each_adds k f seen [] = omega arith
  each_adds k f seen (q ∷ qs) =
      let a = f seen q in
      let b = each_adds k f (met same children k seen q) qs in
      omega arith

  met_adds : (k : ℕ) → MeetingAdds k
  unfolding met
  met_adds zero seen p = omega arith
  met_adds (suc k) seen p =
      split (some_of (same p) seen)
      (λ t. rw (t, met) (omega arith))
      (λ t. rw (t, met) (
      let a = each_adds k (met_adds k) (seen ++ p ∷ []) (children p) in
      let b = total-end size seen p in
      let c = covers p in
      omega arith))

-- ---- how many tiles words have together
abbrev pub tile_sum : List Word → ℕ
tile_sum ws = total length ws

-- a node for each branch, and the tiles that follow its own
abbrev branch_tiles : List Branch → ℕ
branch_tiles bs = length bs + total (λ (b : Branch). tile_sum b.rests) bs

with-word-few : (t : ℕ) (u : Word) (bs : List Branch) → branch_tiles (branches_with t u bs) ≤ suc (length u) + branch_tiles bs
unfolding branches_with total
with-word-few t u [] = omega arith
with-word-few t u (b ∷ bs) =
    split (eqb t b.first) (λ e. rw (e, branches_with) (omega arith)) (λ e. rw (e, branches_with) (omega arith))

branches-few : (ws : List Word) → branch_tiles (branches ws) ≤ tile_sum ws
unfolding branches total
branches-few [] = omega arith
branches-few ([] ∷ ws) = let r = branches-few ws in omega arith
branches-few ((t ∷ u) ∷ ws) =
    let a = with-word-few t u (branches ws) in
    let b = branches-few ws in
    omega arith

onward-few : (bs : List Branch) → total tile_sum (map onward bs) ≤ total (λ (b : Branch). tile_sum b.rests) bs
unfolding total
onward-few [] = omega arith
onward-few (b ∷ bs) =
    let h = total-filtered length has_entries b.rests in
    let r = onward-few bs in
    omega arith

-- a run's nodes, and the tiles of the runs that it leads to, are no more than its own tiles
run-few : (us : List Word) → first_tiles us + total tile_sum (onwards us) ≤ tile_sum us
unfolding onwards
run-few us =
    let a = branches-few us in
    let b = onward-few (branches us) in
    let c = total-filtered tile_sum has_entries (map onward (branches us)) in
    omega arith

-- ---- the graph: nodes 0 and 1, and those of the runs
pub built-small : (ws : List Word) → length (built ws) ≤ 2 + tile_sum ws
unfolding word_runs total
built-small ws =
    let a = met_adds same_words onwards first_tiles tile_sum run-few 64 [] ws in
    let b = blocks-length first_tiles (run_block ws) (λ us. run_length_lem (arc_to ws) (branches us)) (word_runs ws) in
    let c = ap length (built-is ws) in
    omega arith

-- ---- the call
-- a word takes a byte for each tile, and one for its length
bytes-tiles : (ws : List Word) → tile_sum ws ≤ length (list_bytes ws)
unfolding total
bytes-tiles [] = omega arith
bytes-tiles (w ∷ ws) =
    let a = length-append w (list_bytes ws) in
    let b = bytes-tiles ws in
    omega arith

pub room-enough : RoomEnough
unfolding build_as build_row
room-enough bytes lent_work lent_nodes checked few room =
    let g = built (words_listed bytes) in
    let read = ap length (listed-lexicon bytes (rows-passed (list_row bytes) _ checked)).1 in
    let a = built-small (words_listed bytes) in
    let b = bytes-tiles (words_listed bytes) in
    let fits : length g ≤ length lent_nodes = omega arith in
    let passes = all_pass (built_row g (length lent_nodes)) (le-ltb 16_777_216 (length g) few, (le-ltb (length lent_nodes) (length g) fits, tt)) in
    ap (λ o. (building o g lent_nodes).answer) (rows_pass (build_checks bytes lent_work) (built_row g (length lent_nodes)) checked ∙ passes)
