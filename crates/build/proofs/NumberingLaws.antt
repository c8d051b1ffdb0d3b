-- What numbering answers: through an arc, by a run, and along a run's tails, where what is left to meet gives what the whole run meets.
use mathlib.Core.Path.{◌≡◌, refl, sym, ap, ◌∙◌, subst}
use mathlib.Core.Logic.{◌≢◌}
use mathlib.Core.Bool.{false, not}
use mathlib.Core.List.{List, [], ◌∷◌, ◌++◌, map}
use Prim.Native.Nat.{ℕ, ◌+◌, ◌-◌, ◌*◌, ◌≤◌, ◌<◌}
use native.Mathlib.Omega.{arith}
use lib.Dec.{eqb}
use lib.ListN.{length, get_or, set, drop}
use lib.Seq.{drop-set-lt}
use borrow.Author.Tests.{eqb-true, eqb-false}
use Rattle.laws.specs.Cases.{split}
use Rattle.laws.specs.Lists.{filtered, member}
use Rattle.export.specs.Blocks.{each, met, met_by, total}
use Rattle.block_record.specs.Record.{order_in, Pushed}
use Rattle.block_record.specs.RecordLaws.{holds-room, holds-here, met-old, met-new, met-by-none, met-by-arc, total_snoc, all-total, fresh_of, stale_of, push-holds}
use Rattle.block_record.specs.declared.BlockTally.{BlockTally}
use Rattle.shelf.specs.Shelf.{ShelfEntry, Shelf, run_entries, child_numbers}
use Rattle.tails.specs.TailsLaws.{TailAt, tail_at, tails-kept}
use Rattle.build.specs.Numbering.{most_nodes, after_at, run_length, RunsPlaced, Recorded, NumbersRuns}
use Rattle.build.proofs.RunLaws.{entries-zero}

pub placed-here : {sh : Shelf} {n : ℕ} {w : List ℕ} {t : BlockTally} {o : List ℕ} → RunsPlaced sh n w t o → RunsPlaced sh n w t (order_in n w t)
placed-here h = record { runs = holds-here h.runs; within = h.within }

pub placed_as : {sh : Shelf} {n : ℕ} {w : List ℕ} {t : BlockTally} {o o' : List ℕ} → o ≡ o' → RunsPlaced sh n w t o → RunsPlaced sh n w t o'
placed_as {sh} {n} {w} {t} e h = subst (RunsPlaced sh n w t) e h

-- nothing is met that is not seen
pub numbers-none : {sh : Shelf} {n : ℕ} {w : List ℕ} {t : BlockTally} {o : List ℕ} → Recorded sh n w t → o ≡ order_in n w t → NumbersRuns sh n w w t o
numbers-none r e = record { placed = placed_as (sym e) r.placed; tails = refl }

-- ---- what the entries of a run lead to
module _ (sh : Shelf) where
  -- the runs met from the arcs of entries, with so many runs left in the run_entries
  abbrev pub walk : ℕ → List ℕ → List ShelfEntry → List ℕ
  walk left seen es = each (met eqb (child_numbers sh) left) seen (filtered (λ c. not (eqb c 0)) (map (λ (e : ShelfEntry). e.child) es))

  walk-entry : (left : ℕ) (o : List ℕ) (e : ShelfEntry) (es : List ShelfEntry) → walk left o (e ∷ es) ≡ walk left (met_by (child_numbers sh) left o e.child) es
  walk-entry left o e es =
      split (eqb e.child 0)
      (λ z. rw (z, filtered) (ap (λ x. walk left x es) (sym (met-by-none (child_numbers sh) left o e.child (eqb-true _ _ z)))))
      (λ z. rw (z, filtered) (ap (λ x. walk left x es) (sym (met-by-arc (child_numbers sh) left o e.child (eqb-false _ _ z)))))

  -- what is met from a new run's arcs, with it among those seen, is what is met from the run
  pub walk-run : (left i : ℕ) (seen : List ℕ) → left ≢ 0 → member i seen ≡ false
      → walk (left - 1) (seen ++ i ∷ []) (run_entries sh i) ≡ met eqb (child_numbers sh) left seen i
  unfolding child_numbers
  walk-run left i seen e new = sym (met-new (child_numbers sh) left seen i e new)

-- ---- a run
module _ {sh : Shelf} {n : ℕ} {w : List ℕ} {t : BlockTally} (r : Recorded sh n w t) (i : ℕ) (known : i ≤ length sh) where
  abbrev seen : List ℕ
  seen = order_in n w t

  inside : i < n
  inside = let f = r.tails.few in omega arith

  -- a run that is numbered already
  pub numbers-old : (left : ℕ) → get_or w i 0 ≢ 0 → NumbersRuns sh n w w t (met eqb (child_numbers sh) left seen i)
  numbers-old left e = numbers-none r (met-old (child_numbers sh) left seen i (stale_of r.placed.runs i inside e))

  -- a run that is new
  module _ (new : get_or w i 0 ≡ 0) where
    fresh : member i seen ≡ false
    fresh = fresh_of r.placed.runs i inside new

    pub blocks-left : t.blocks < n
    blocks-left = holds-room r.placed.runs i inside new

    -- of which no run_entries is left
    pub numbers-new : (left : ℕ) → left ≡ 0 → NumbersRuns sh n w w t (met eqb (child_numbers sh) left seen i)
    unfolding met
    numbers-new left e = numbers-none r (ap (λ k. met eqb (child_numbers sh) k seen i) e)

    -- what is met from its arcs is what is met from it
    pub run-met : (left : ℕ) (o : List ℕ) → left ≢ 0 → o ≡ seen ++ i ∷ [] → walk sh (left - 1) o (run_entries sh i) ≡ met eqb (child_numbers sh) left seen i
    run-met left o e q = ap (λ x. walk sh (left - 1) x (run_entries sh i)) q ∙ walk-run sh left i seen e fresh

    pub run_over : (left : ℕ) → left ≢ 0 → most_nodes - t.nodes < run_length sh i → most_nodes < 2 + total (run_length sh) (met eqb (child_numbers sh) left seen i)
    run_over left e d =
        let a = total_snoc (run_length sh) seen i in
        let b = all-total (run_length sh) (child_numbers sh) (left - 1) (seen ++ i ∷ []) (child_numbers sh i) in
        let s = r.placed.runs.sum in
        let k = r.placed.within in
        subst (λ x. most_nodes < 2 + total (run_length sh) x) (sym (met-new (child_numbers sh) left seen i e fresh)) (omega arith)

    module _ {w' : List ℕ} {t' : BlockTally} {s : ℕ} (size : s ≡ run_length sh i) (fits : s ≤ most_nodes - t.nodes) (pushed : Pushed n w i t s w' t') where
      pub pushed-tails : drop (2 * n) w' ≡ drop (2 * n) w
      pushed-tails =
          let l = inside in
          let b = blocks-left in
          ap (drop (2 * n)) pushed.list
          ∙ drop-set-lt (2 * n) (set w i (t.nodes + 1)) (n + t.blocks) i (omega arith)
          ∙ drop-set-lt (2 * n) w i (t.nodes + 1) (omega arith)

      placed-more : RunsPlaced sh n w' t' (seen ++ i ∷ [])
      placed-more =
          let room = r.tails.room in
          record {
            runs = push-holds i r.placed.runs inside (omega arith) fresh size pushed;
            within = let k = r.placed.within in let z = pushed.nodes in omega arith;
          }

      pub pushed-order : order_in n w' t' ≡ seen ++ i ∷ []
      pushed-order = placed-more.runs.order

      pub pushed-recorded : length w' ≡ length w → Recorded sh n w' t'
      pushed-recorded long = record { tails = tails-kept pushed-tails long r.tails; placed = placed-here placed-more }

-- ---- along the tails of a run
-- the runs met before the tail at hand are held, and what is left gives what is met from all tails of the run from i after those of o;
-- w₀ is the work list as i was numbered
pub record Along (sh : Shelf) (n left : ℕ) (o : List ℕ) (i : ℕ) (w₀ w : List ℕ) (t : BlockTally) (at : ℕ) : Type 0 where
  pub known : at ≤ length sh
  pub recorded : Recorded sh n w t
  pub rest : walk sh left (order_in n w t) (run_entries sh at) ≡ walk sh left o (run_entries sh i)
  pub tails : drop (2 * n) w ≡ drop (2 * n) w₀

pub along-starts : {sh : Shelf} {n left i : ℕ} {w : List ℕ} {t : BlockTally} → i ≤ length sh → Recorded sh n w t → Along sh n left (order_in n w t) i w w t i
along-starts h r = record { known = h; recorded = r; rest = refl; tails = refl }

module _ {sh : Shelf} {n left : ℕ} {o : List ℕ} {i : ℕ} {w₀ w : List ℕ} {t : BlockTally} {at : ℕ} (k : Along sh n left o i w₀ w t at) where
  pub along-done : at ≡ 0 → NumbersRuns sh n w₀ w t (walk sh left o (run_entries sh i))
  along-done z =
      let e : walk sh left (order_in n w t) (run_entries sh at) ≡ order_in n w t =
      ap (λ x. walk sh left (order_in n w t) (run_entries sh x)) z ∙ ap (walk sh left (order_in n w t)) (entries-zero sh) in
      record { placed = placed_as (sym e ∙ k.rest) k.recorded.placed; tails = k.tails }

  module _ (some : 0 < at) where
    pub here : TailAt n w sh at
    here = tail_at k.recorded.tails at some k.known

    abbrev next : List ℕ
    next = met_by (child_numbers sh) left (order_in n w t) here.entry.child

    pub along-rest : walk sh left next (run_entries sh here.entry.next) ≡ walk sh left o (run_entries sh i)
    along-rest =
        sym (walk-entry sh left (order_in n w t) here.entry (run_entries sh here.entry.next))
        ∙ sym (ap (walk sh left (order_in n w t)) here.chain-is) ∙ k.rest

    pub along_over : most_nodes < 2 + total (run_length sh) next → most_nodes < 2 + total (run_length sh) (walk sh left o (run_entries sh i))
    along_over h =
        let m = all-total (run_length sh) (child_numbers sh) left next
        (filtered (λ c. not (eqb c 0)) (map (λ (e : ShelfEntry). e.child) (run_entries sh here.entry.next))) in
        subst (λ x. most_nodes < 2 + total (run_length sh) x) along-rest (omega arith)

    pub along-goes : {w' : List ℕ} {t' : BlockTally} → NumbersRuns sh n w w' t' next → length w' ≡ length w
        → {at' : ℕ} → at' ≡ after_at n w at → Along sh n left o i w₀ w' t' at'
    along-goes {w'} {t'} m long {at'} e =
        let after : at' ≡ here.entry.next = e ∙ here.next-is in
        let lower = here.next-below in
        let known = k.known in
        record {
          known = omega arith;
          recorded = record { tails = tails-kept m.tails long k.recorded.tails; placed = placed-here m.placed };
          rest = ap (λ x. walk sh left (order_in n w' t') (run_entries sh x)) after
              ∙ ap (λ x. walk sh left x (run_entries sh here.entry.next)) m.placed.runs.order ∙ along-rest;
          tails = m.tails ∙ k.tails;
        }
