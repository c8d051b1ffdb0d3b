-- The search's steps on the lent lists: which stack each of them leaves, and that something is left less.
use mathlib.Core.Path.{◌≡◌, sym, ap, ◌∙◌, subst}
use mathlib.Core.Logic.{◌≢◌, ◌⊎◌, inl, inr, ⊎_elim}
use mathlib.Core.List.{List}
use Prim.Native.Nat.{ℕ, suc, ◌-◌, ◌*◌, ◌≤◌, ◌<◌, min}
use native.Mathlib.Nat.{le_refl}
use native.Mathlib.Numerals.{add-one}
use native.Mathlib.Omega.{arith}
use lib.ListN.{length, set, length-set}
use lib.Seq.{get_or-set_same, get_or-set_other}
use Rattle.laws.specs.Cases.{same?}
use Rattle.laws.specs.Tests.{measure_falls, measure_falls_within}
use Rattle.node.specs.Nodes.{kbwg}
use Rattle.graph.specs.Runs.{Graph}
use Rattle.graph.specs.Loops.{Step, Loops}
use Rattle.graph.specs.ChecksLaws.{Fit}
use Rattle.graph.specs.LoopLaws.{step-inside}
use Rattle.graph.specs.Lent.{Kept, kept-all, kept_set, kept-further}
use Rattle.loops.specs.NodeMarks.{mark, done, stacked, node_pushed, is_met, mets}
use Rattle.loops.specs.NodeMarksLaws.{sum-keeps, sum-rises-at, mets_le, one-not-met, pushed-mark, pushed-others, pushed-top, pushed-below, pushed-kept}
use Rattle.loops.specs.Stack.{SearchStack}
use Rattle.loops.specs.Search.{LowestNext, SearchState, SearchStepped, NodeMet, Released, LowIs}
use Rattle.loops.specs.declared.next.NextMark.{NextMark}
use Rattle.loops.specs.declared.search.LoopSearch.{LoopSearch}
use Rattle.loops.proofs.ReleaseLaws.{same-stacked}
use Rattle.loops.proofs.StackLaws as laws

module _ (g : Graph) (c w : List ℕ) (s : LoopSearch) (K : Fit g) (five_nodes : SearchState g c w s) where
  abbrev n : ℕ
  n = length g

  pub top_le : s.top ≤ s.size
  top_le = laws.top_le g _ _ _ _ _ _ K five_nodes.stack

  pub size_le : s.size ≤ n
  size_le = five_nodes.stack.few

  -- so the stack's places stand in the lists
  pub stack_fits : (s.top ≤ s.size) × (s.size ≤ n)
  stack_fits = (top_le, size_le)

  -- ---- a new node goes on the stack
  module _ (q : ℕ) (q< : q < n) (new : mark w q ≡ 0) where
    pub stack-room : s.size < n
    stack-room = let a = five_nodes.tallied in let r = five_nodes.room in let b = one-not-met g w q (omega arith) q< new in omega arith

    module _ (d : (i : ℕ) → s.top ≡ suc i → Step kbwg g (stacked n w i) q) where
      abbrev c₁ : List ℕ
      c₁ = set c s.size s.top

      abbrev w₁ : List ℕ
      w₁ = node_pushed w n s.size q

      now_mark : mark w₁ q ≡ suc s.size
      now_mark = pushed-mark n w s.size q five_nodes.room q< stack-room

      others : (k : ℕ) → k < n → k ≢ q → mark w₁ k ≡ mark w k
      others = pushed-others n w s.size q five_nodes.room q< stack-room

      met-before : mark c₁ s.size ≡ s.top
      met-before = let m = five_nodes.room-counts in let l = stack-room in get_or-set_same c s.size s.top 0 (omega arith)

      parents : (j : ℕ) → j < s.size → mark c₁ j ≡ mark c j
      parents j h = get_or-set_other c s.size j s.top 0 (λ z. omega arith)

      on-it : SearchStack g (mark w₁) (stacked n w₁) (suc s.size) (mark c₁) (suc s.size) s.low
      on-it =
          laws.pushed g _ _ _ _ _ _ K five_nodes.stack q q< new stack-room d (mark w₁) (stacked n w₁) (mark c₁) now_mark others
          (pushed-top n w s.size q five_nodes.room q< stack-room) (pushed-below n w s.size q five_nodes.room q< stack-room) met-before parents

      pub meet-step : (c' w' : List ℕ) (r : LoopSearch) → NodeMet n c w s q c' w' r → SearchStepped g c w c' w' s r
      meet-step c' w' r E =
          let l = stack-room in
          let m = five_nodes.tallied in
          let b = mets_le g w₁ in
          let a = now_mark in
          let u = sum-rises-at is_met w w₁ n q others q< (omega arith) in
          let e = E.top-is in
          rw (E.work-is, E.counts-are) (record {
            state = record {
              room = simp length-set five_nodes.room;
              room-counts = simp length-set five_nodes.room-counts;
              stack = rw (E.size_is ∙ add-one s.size, E.top-is ∙ add-one s.size, E.low-is) on-it;
              tallied = rw E.size_is (omega arith);
            };
            met = λ k h z y. z (sym (others k h (λ x. z (ap (mark w) x ∙ new))) ∙ y);
            less = measure_falls (n - mets g w) (n - mets g w₁) n r.top s.top (omega arith) (omega arith);
            counts-kept = kept_set n c s.size s.top l;
            work-kept = pushed-kept n w s.size q five_nodes.room q< l;
          })

  -- ---- the last open node
  module _ (pos : 0 < s.top) where
    abbrev p : ℕ
    p = stacked n w (s.top - 1)

    at : s.top ≡ suc (s.top - 1)
    at = omega arith

    pub p_in : p < n
    p_in = let t = top_le in (five_nodes.stack.places (s.top - 1) (omega arith)).node

    -- the place from which it was met is lower
    pub before_lt : mark c (s.top - 1) < s.top
    before_lt = let t = top_le in let b = (five_nodes.stack.places (s.top - 1) (omega arith)).below in omega arith

    -- the lowest mark of the nodes that it leads to
    module _ (next : NextMark) (L : LowestNext g w p next) where
      pub next_in : next.mark ≢ done → next.node < n
      next_in f = step-inside K.steps (L.found f).0

      pub leads-to : next.mark ≢ done → (i : ℕ) → s.top ≡ suc i → Step kbwg g (stacked n w i) next.node
      leads-to f i e = subst (λ j. Step kbwg g (stacked n w j) next.node) (let u : s.top - 1 ≡ i = omega arith in u) (L.found f).0

      -- no mark is larger than that of a done node
      mark_le : (q : ℕ) → q < n → mark w q ≤ done
      mark_le q h =
          ⊎_elim (λ z. omega arith)
          (⊎_elim (λ z. omega arith)
          (λ v.
          let o = (five_nodes.stack.places v.place v.within).own in
          let b = v.within in
          let e : mark w (stacked n w v.place) ≡ mark w q = ap (mark w) v.holds in
          let l = size_le in
          let f = K.most in
          omega arith))
          (five_nodes.stack.marks q h)

      -- it is passed; the marks change, and no place of the stack does
      module _ (met : next.mark ≢ 0) (low' : ℕ) (chosen : LowIs s.low p next.mark low') where
        judged : (Loops kbwg g p × (low' ≡ min s.low p)) ⊎ ((Loops kbwg g p → ⊥) × (low' ≡ s.low))
        judged =
            ⊎_elim
            (λ y. let e = y.0 in
            inr (laws.top-clear g _ _ _ _ _ _ K five_nodes.stack (s.top - 1) at (λ q d. let a = L.least q d in let b = mark_le q (step-inside K.steps d) in omega arith), y.1))
            (λ y. let F = L.found y.0 in
            inl (laws.top-loops g _ _ _ _ _ _ K five_nodes.stack (s.top - 1) at next.node F.0 (λ z. met (sym F.1 ∙ z)) (λ z. y.0 (sym F.1 ∙ z)), y.1))
            chosen

        passed-step : (w' : List ℕ) (size' : ℕ) → Kept n w w' → ((x : ℕ) → x < n → mark w x ≢ 0 → mark w' x ≢ 0) → size' ≤ s.size
            → SearchStack g (mark w') (stacked n w) size' (mark c) (mark c (s.top - 1)) low'
            → SearchStepped g c w c w' s (record { size = size'; top = mark c (s.top - 1); low = low' })
        passed-step w' size' k more fewer S =
            let e = k.size in
            let r = five_nodes.room in
            let m = five_nodes.tallied in
            let u = sum-keeps is_met w w' n (λ x h. ⊎_elim (λ z. omega arith) (λ z. let y = more x h z in omega (arith, y)) (same? (mark w x) 0)) in
            record {
              state = record {
                room = omega arith;
                room-counts = five_nodes.room-counts;
                stack = subst (λ A. SearchStack g (mark w') A size' (mark c) (mark c (s.top - 1)) low') (same-stacked k) S;
                tallied = omega arith;
              };
              met = more;
              less = measure_falls_within (n - mets g w) (n - mets g w') (suc n) (mark c (s.top - 1)) s.top (omega arith) before_lt;
              counts-kept = kept-all n c;
              work-kept = kept-further (2 * n) n w w' (omega arith) k;
            }

        -- it takes a lower mark
        module _ (lower : next.mark < s.top) where
          w₂ : List ℕ
          w₂ = set w p next.mark

          open-marks : next.mark ≢ done
          open-marks z = let t = top_le in let l = size_le in let f = K.most in omega arith

          same_next : mark w next.node ≡ next.mark
          same_next = (L.found open-marks).1

          at_p : mark w₂ p ≡ mark w next.node
          unfolding w₂
          at_p = let r = five_nodes.room in let b = p_in in get_or-set_same w p next.mark 0 (omega arith) ∙ sym same_next

          not-p : (x : ℕ) → x ≢ p → mark w₂ x ≡ mark w x
          unfolding w₂
          not-p x m = get_or-set_other w p x next.mark 0 m

          still-met : (x : ℕ) → x < n → mark w x ≢ 0 → mark w₂ x ≢ 0
          still-met x h m z = ⊎_elim (λ e. met (sym same_next ∙ sym at_p ∙ sym (ap (mark w₂) e) ∙ z)) (λ e. m (sym (not-p x e) ∙ z)) (same? x p)

          pub lower-step : SearchStepped g c w c (set w p next.mark) s (record { size = s.size; top = mark c (s.top - 1); low = low' })
          unfolding w₂
          lower-step =
              let e = same_next in
              passed-step w₂ s.size (kept_set n w p next.mark p_in) still-met (le_refl _)
              (laws.lowered g _ _ _ _ _ _ K five_nodes.stack (s.top - 1) at low' judged next.node (L.found open-marks).0 (λ z. met (sym e ∙ z)) (omega arith)
              (λ r d. let a = L.least r d in omega arith) (mark w₂) at_p not-p)

        -- it is done, with all above it
        pub release-step : s.top ≤ next.mark → (w' : List ℕ) → Released n w (s.top - 1) s.size w'
            → SearchStepped g c w c w' s (record { size = s.top - 1; top = mark c (s.top - 1); low = low' })
        release-step high w' E =
            let t = top_le in
            let ahead : (r : ℕ) → Step kbwg g p r → s.top - 1 < mark w r = λ r d. let a = L.least r d in omega arith in
            passed-step w' (s.top - 1) E.kept
            (λ x h m z. ⊎_elim (λ e. m (sym e ∙ z))
            (λ v. let f = subst (λ y. mark w' y ≡ done) v.0.holds (E.all v.0.place v.1 v.0.within) in omega arith) (E.others x))
            (omega arith)
            (laws.released g _ _ _ _ _ _ K five_nodes.stack (s.top - 1) at low' judged ahead (mark w') E.all E.others)
