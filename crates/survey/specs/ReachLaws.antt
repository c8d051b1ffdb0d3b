-- The survey's answers as the conditions of the LXD writer's row. The idea: where no chain is too deep, the runs that the writer meets are
-- the runs of all chains from the start, so a label without a byte stands in one of them or in none; and all words follow fewer arcs.
use Rattle.std.specs.Prelude.{◌≡◌, Bool, true, ◌&&◌, ◌||◌, ◌≢◌, leb, length}
use Rattle.std.proofs.Math.Path.{refl, ap}
use Rattle.std.proofs.Common.{sym, ◌∙◌, true≢false, arith, leb-true, leb-false, eq-eqb, ne_eqb}
use Rattle.std.proofs.Math.Bool.{false}
use mathlib.Core.List.{List, [], map, Memᴰ}
use Prim.Native.Nat.{ℕ, zero, suc, ◌<◌, min}
use Rattle.std.proofs.Math.Dec.{eqb}
use Rattle.laws.specs.Cases.{split, or_false-left, or_false-right}
use Rattle.laws.specs.Lists.{some_of, join_all}
use Rattle.laws.specs.Members.{all_fail, none_of, in_join, join_in}
use Rattle.laws.proofs.SameLaws.{exact-number}
use Rattle.base.specs.Numbers.{most}
use Rattle.node.specs.Nodes.{kbwg, arc}
use Rattle.graph.specs.Runs.{Graph}
use Rattle.graph.specs.Words.{count}
use Rattle.graph.specs.ChecksLaws.{Closed}
use Rattle.export.specs.Starts.{run_of, has_arc, arcs_from, deeper}
use Rattle.export.specs.Blocks.{met}
use Rattle.export.specs.BlocksLaws.{every-met, start-met, children_met}
use Rattle.export.specs.ChainLaws.{arc-from, from-arc, shallow-arc, shallow-low, words-within}
use Rattle.survey.specs.Survey.{byteless, byteless_within, Surveys}
use Rattle.survey.specs.declared.Findings.{Findings}

both_or_none : (a b : Bool) → (a ≡ false → b ≡ false) → (b ≡ false → a ≡ false) → a ≡ b
both_or_none true true f h = refl
both_or_none true false f h = h refl
both_or_none false b f h = sym (f refl)

module _ (g : Graph) (labels : List ℕ) where
  -- ---- a label without a byte
  -- no chain from p has over so many runs, and no label in them is without a byte
  record AllBytes (p : ℕ) : Type 0 where
    turns : ℕ
    ends : deeper g turns p ≡ false
    bytes : byteless_within g labels turns p ≡ false

  bytes_run : (p v : ℕ) → AllBytes p → Memᴰ v (run_of g p) → byteless labels v ≡ false
  unfolding deeper byteless_within
  bytes_run p v n m = at n.turns n.ends n.bytes
    where
      at : (k : ℕ) → deeper g k p ≡ false → byteless_within g labels k p ≡ false → byteless labels v ≡ false
      at zero e x = absurd (true≢false e)
      at (suc k) e x =
          or_false-left (byteless labels v) (has_arc v && byteless_within g labels k (arc kbwg v))
          (none_of (λ v. byteless labels v || (has_arc v && byteless_within g labels k (arc kbwg v))) (run_of g p) x v m)

  bytes-arc : (p q : ℕ) → AllBytes p → Memᴰ q (arcs_from g p) → AllBytes q
  unfolding deeper byteless_within
  bytes-arc p q n m = at n.turns n.ends n.bytes
    where
      at : (k : ℕ) → deeper g k p ≡ false → byteless_within g labels k p ≡ false → AllBytes q
      at zero e x = absurd (true≢false e)
      at (suc k) e x =
          let r = from-arc g p q m in
          let v = r.0 in
          let has = r.2 in
          let y = or_false-right (byteless labels v) (has_arc v && byteless_within g labels k (arc kbwg v))
          (none_of (λ v. byteless labels v || (has_arc v && byteless_within g labels k (arc kbwg v))) (run_of g p) x v r.1) in
          record { turns = k; ends = shallow-arc g k p q e m; bytes = ap (byteless_within g labels k) r.3 ∙ (rw has at y) }

  module _ (k s : ℕ) (shallow : deeper g k s ≡ false) where
    -- the nodes of the runs that the writer meets
    abbrev reached : List ℕ
    reached = join_all (map (run_of g) (met eqb (arcs_from g) k [] s))

    none-reached : byteless_within g labels k s ≡ false → some_of (byteless labels) reached ≡ false
    none-reached e =
        all_fail (byteless labels) reached
        (λ v m. let r = in_join (run_of g) (met eqb (arcs_from g) k [] s) v m in
        bytes_run r.0 v (every-met exact-number (arcs_from g) AllBytes bytes-arc k s (record { turns = k; ends = shallow; bytes = e }) r.0 r.1) r.2)

    none_within : some_of (byteless labels) reached ≡ false → (j p : ℕ) → Memᴰ p (met eqb (arcs_from g) k [] s) → byteless_within g labels j p ≡ false
    unfolding byteless_within
    none_within e zero p m = refl
    none_within e (suc j) p m =
        all_fail (λ v. byteless labels v || (has_arc v && byteless_within g labels j (arc kbwg v))) (run_of g p)
        (λ v n.
        let own : byteless labels v ≡ false = none_of (byteless labels) reached e v (join_in (run_of g) (met eqb (arcs_from g) k [] s) p v m n) in
        rw own (split (has_arc v)
        (λ t. rw t (none_within e j (arc kbwg v)
        (children_met exact-number (arcs_from g) k s (shallow-low g (arcs_from g) (λ x q i. i) k s shallow) p (arc kbwg v) m (arc-from g p v n t))))
        (λ t. rw t)))

    byteless-reached : byteless_within g labels k s ≡ some_of (byteless labels) (join_all (map (run_of g) (met eqb (arcs_from g) k [] s)))
    byteless-reached =
        both_or_none (byteless_within g labels k s) (some_of (byteless labels) reached)
        none-reached
        (λ e. none_within e k s (start-met exact-number (arcs_from g) k s (shallow-low g (arcs_from g) (λ x q i. i) k s shallow)))

  -- ---- the survey's answers
  module _ (k s : ℕ) (f : Findings) (a : Surveys g labels k s f) where
    -- 23
    pub survey-byteless : some_of (byteless labels) (join_all (map (run_of g) (met eqb (arcs_from g) k [] s))) ≡ f.byteless
    survey-byteless = sym (a.byteless ∙ byteless-reached k s a.deep)

    -- 13
    module _ (c : Closed g) (h : s < length g) where
      survey-words : f.words ≡ min (count kbwg g s) most
      survey-words = a.words ∙ ap (λ l. min (length l) most) (words-within g c k s h a.deep)

      pub survey-many : leb most (count kbwg g s) ≡ eqb f.words most
      survey-many =
          let e = survey-words in
          split (leb most (count kbwg g s))
          (λ t. let l = leb-true most (count kbwg g s) t in t ∙ sym (eq-eqb f.words most (omega arith)))
          (λ t. let l = leb-false most (count kbwg g s) t in t ∙ sym (ne_eqb f.words most (λ i. omega arith)))

      pub survey-count : f.words ≢ most → f.words ≡ count kbwg g s
      survey-count n = let e = survey-words in omega arith
