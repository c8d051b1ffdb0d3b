-- The walk's beginning, and counting's answer from the walk's.
use Rattle.std.proofs.Common.{◌≡◌, sym, ap, ◌∙◌, true, false, true≢false, List, [], ◌∷◌, ◌++◌, ℕ, zero, suc, ◌*◌, ◌≤◌, ◌<◌, not-suc-le-zero, length, get_or, take, drop, leb, leb-true, leb-false, arith}
use Rattle.std.specs.Prelude.{Result, Ok, Err}
use Rattle.std.specs.Result.{is_err}
use Rattle.std.proofs.Math.Path.{subst}
use Rattle.std.proofs.Math.Logic.{inl}
use Rattle.std.proofs.Math.Option.{none}
use Rattle.laws.specs.Cases.{split, or_false-left, or_false-right}
use Rattle.answers.specs.Answers.{gives, refused, first_of}
use Rattle.node.specs.Nodes.{kbwg}
use Rattle.graph.specs.Runs.{Graph}
use Rattle.graph.specs.Words.{count}
use Rattle.graph.specs.Loops.{LowestLoop}
use Rattle.graph.specs.LoopLaws.{Reach-inside}
use Rattle.laws.specs.Cleared.{cleared}
use Rattle.laws.specs.Tables.{begins-with-table, table}
use Rattle.graph.specs.Counting.{Loopless, count_row, IsCounted, loop, many, all}
use Rattle.graph.specs.Lent.{cleared_of_kept}
use Rattle.loops.specs.NodeMarks.{mark}
use Rattle.count.specs.CountWalk.{CountWalk, AllDone, LoopFound, WalkedIs, reaches_limit}
use Rattle.count.specs.declared.walk.LoopMet.{LoopMet}
use Rattle.count.proofs.Rows.{counts-room}

-- the walk begins with all marks 0
pub count-start : (limit : ℕ) (g : Graph) (c w : List ℕ) → 2 * length g ≤ length w → length g ≤ length c
    → ((k : ℕ) → k < length g → mark w k ≡ 0) → CountWalk limit g c w 0
count-start limit g c w r s z =
    record {
      room = r;
      room-counts = s;
      entries = λ i h. absurd (not-suc-le-zero h);
      path = λ i h. absurd (not-suc-le-zero h);
      marks = λ k h. inl (z k h);
      tallied = omega arith;
    }

-- ---- what the walk answers, by the test of it
module _ (limit : ℕ) {g : Graph} {c w c' w' : List ℕ} where
  pub walk-stopped : (r : Result Unit LoopMet) → true ≡ is_err r → WalkedIs limit g c w c' w' r → LoopFound g c w c' w'
  walk-stopped (Ok _) e L = absurd (true≢false e)
  walk-stopped (Err _) e L = L

  pub walk-ended : (r : Result Unit LoopMet) → false ≡ is_err r → WalkedIs limit g c w c' w' r → AllDone limit g c w c' w'
  walk-ended (Ok _) e A = A
  walk-ended (Err _) e A = absurd (true≢false (sym e))

-- ---- whether one of the first n counts is at least the limit
pub reached : (limit n : ℕ) (c : List ℕ) → reaches_limit limit (take n c) ≡ true → (p : ℕ) × (p < n) × (limit ≤ get_or c p 0)
reached limit zero c t = absurd (true≢false (sym t))
reached limit (suc n) [] t = absurd (true≢false (sym t))
reached limit (suc n) (x ∷ c) t =
    split (leb limit x)
    (λ h. (0, omega arith, leb-true limit x h))
    (λ f. let r = reached limit n c (rw f at t) in let b = r.1 in (suc r.0, omega arith, r.2))

pub not_reached : (limit n : ℕ) (c : List ℕ) → reaches_limit limit (take n c) ≡ false → (p : ℕ) → p < n → p < length c → get_or c p 0 < limit
not_reached limit zero c t p h l = absurd (omega arith)
not_reached limit (suc n) [] t p h l = absurd (omega arith)
not_reached limit (suc n) (x ∷ c) t zero h l = leb-false limit x (or_false-left _ _ t)
not_reached limit (suc n) (x ∷ c) t (suc p) h l = not_reached limit n c (or_false-right (leb limit x) _ t) p (omega arith) (omega arith)

module _ (limit : ℕ) (g : Graph) (c : List ℕ) (work : ℕ) (w c' w' : List ℕ) (fit : first_of (count_row g (length c) work) ≡ none) where
  pub loop-answer : (q : ℕ) → LowestLoop kbwg g q → LoopFound g c w c' w' → IsCounted limit g c work (refused 12 (q ∷ [])) (cleared (length g) c')
  loop-answer q l L = rw (cleared_of_kept (length g) c c' L.counts-kept) (loop fit l)

  module _ (A : AllDone limit g c w c' w') where
    loopless : Loopless g
    loopless q l = (A.clear q (Reach-inside kbwg l)).itself l

    pub many-answer : reaches_limit limit (take (length g) c') ≡ true → IsCounted limit g c work (refused 13 []) (cleared (length g) c')
    many-answer t =
        let m = reached limit (length g) c' t in
        let e = A.counted m.0 m.1 in
        let h = m.2 in
        rw (cleared_of_kept (length g) c c' A.counts-kept) (many fit loopless m.1 (omega arith))

    module _ (small : reaches_limit limit (take (length g) c') ≡ false) where
      few : (p : ℕ) → p < length g → count kbwg g p < limit
      few p h =
          let e = A.counted p h in
          let r = counts-room g (length c) work fit in
          let k = A.counts-kept.size in
          let s = not_reached limit (length g) c' small p h (omega arith) in
          omega arith

      exact : (p : ℕ) → p < length g → get_or c' p 0 ≡ count kbwg g p
      exact p h = let e = A.counted p h in let s = few p h in omega arith

      after : c' ≡ table (length g) (count kbwg g) ++ drop (length g) c
      after =
          let r = counts-room g (length c) work fit in
          let k = A.counts-kept.size in
          begins-with-table (length g) (count kbwg g) c' (omega arith) exact
          ∙ ap (table (length g) (count kbwg g) ++◌) A.counts-kept.rest

      pub all-answer : IsCounted limit g c work (gives []) c'
      all-answer = subst (λ l. IsCounted limit g c work (gives []) l) (sym after) (all fit loopless few)
