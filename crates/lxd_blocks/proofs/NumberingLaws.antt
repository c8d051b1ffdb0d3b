-- What numbering answers: through an arc, by a run, and along a run's nodes, where what is left to meet gives what the whole run meets.
use mathlib.Core.Path.{◌≡◌, refl, sym, ap, ◌∙◌, subst}
use mathlib.Core.Logic.{◌≢◌}
use mathlib.Core.Bool.{true, false, ◌&&◌, not}
use mathlib.Core.List.{List, [], ◌∷◌, ◌++◌, map, Memᴰ}
use Prim.Native.Nat.{ℕ, suc, ◌+◌, ◌-◌, ◌*◌, ◌^◌, ◌≤◌, ◌<◌}
use native.Mathlib.Omega.{arith}
use lib.Dec.{eqb, ltb}
use lib.ListN.{length, get_or, set, length-set}
use borrow.Author.Tests.{eqb-true, eqb-false, eq-eqb, ne_eqb, ltb-false}
use Rattle.laws.specs.Cases.{split, and_left, and_right}
use Rattle.laws.specs.Lists.{filtered, member}
use Rattle.node.specs.Nodes.{kbwg, arc}
use Rattle.graph.specs.Runs.{Graph, node}
use Rattle.export.specs.Starts.{run_of, has_arc, arcs_from, deeper}
use Rattle.export.specs.Blocks.{each, met, met_by, total}
use Rattle.block_record.specs.Record.{order_in, Pushed}
use Rattle.block_record.specs.RecordLaws.{holds-room, met-old, met-new, met-by-none, met-by-arc, total_snoc, all-total, fresh_of, stale_of, push-holds}
use Rattle.block_record.specs.declared.BlockTally.{BlockTally}
use Rattle.graph.specs.ChecksLaws.{Closed}
use Rattle.export.specs.ChainLaws.{arc-from, arcs-inside}
use Rattle.block_record.specs.Depths.{depth_at, Below, NoneBut}
use Rattle.block_record.specs.DepthsLaws.{loop-deep, below-arc, deep-by-arc}
use Rattle.lxd_file.specs.File.{run_size}
use Rattle.survey.specs.RunCounted.{counted_none}
use Rattle.lxd_blocks.specs.RunsNumbered.{words_at, node_passed, run_closed, looked_up, RunsHeld, Known, RunsRecorded, RunsNumbered, NumberedAs}
use Rattle.lxd_blocks.proofs.RunLaws.{run-first}
use Rattle.export.specs.RunOfLaws.{run_ends, run-goes-on}
use Rattle.node.specs.Nodes.{is_end}
use Rattle.lxd_blocks.proofs.HeldLaws.{held_as, held-here, held-past}
use Rattle.lxd_blocks.specs.declared.numbering.Walked.{Walked}
use Rattle.lxd_blocks.specs.declared.numbering.WalkRefusal.{WalkRefusal}
use Rattle.lxd_blocks.specs.declared.numbering.WalkRefusal.TheVariants.{TooDeep, TooMany}
use Rattle.std.specs.Prelude.{Result, Err}
use Rattle.lxd_blocks.proofs.RunCountedLaws.{Passing, passing-starts, passing-node, passing-all}
use Rattle.lxd_blocks.proofs.KnownLaws.{begun-known, begun-followed, ended-known, ended-followed}

module _ (g : Graph) where
  -- the runs met from the arcs of nodes, with so many runs left in the chain
  abbrev pub walk : ℕ → List ℕ → List ℕ → List ℕ
  walk left seen vs = each (met eqb (arcs_from g) left) seen (map (arc kbwg) (filtered has_arc vs))

  -- ---- an arc
  module _ {w : List ℕ} {t : BlockTally} (r : RunsRecorded g w t) (left : ℕ) where
    abbrev here : List ℕ
    here = order_in (length g) w t

    pub arc-none-numbered : (v : ℕ) → arc kbwg v ≡ 0
        → RunsNumbered g w w (met_by (arcs_from g) left here (arc kbwg v)) (has_arc v) (arc kbwg v) left (record { tally = t; runs = 0; words = 0 })
    arc-none-numbered v z =
        record {
          held = held_as g (sym (met-by-none (arcs_from g) left here (arc kbwg v) z)) r.held;
          known = r.known;
          followed = λ q l f. f;
          counted = let e : has_arc v ≡ false = ap not (eq-eqb _ _ z) in rw e (counted_none g (arc kbwg v));
          ends = omega arith;
        }

    -- to a run that is numbered already
    known-answer : (q : ℕ) → q < length g → get_or w q 0 ≢ 0 → Below g w q
        → NumberedAs g w w (met eqb (arcs_from g) left here q) true q left (looked_up (length g) w q t left)
    known-answer q l n b =
        split (eqb (get_or w (depth_at (length g) q) 0) 0)
        (λ z. rw (z, looked_up) (loop-deep g w q b l (n, eqb-true _ _ z) left))
        (λ z.
        let c = r.known q l n (eqb-false _ _ z) in
        split (ltb left (get_or w (depth_at (length g) q) 0))
        (λ d. rw (z, d, looked_up) (c.depth left ∙ d))
        (λ d. rw (z, d, looked_up) (record {
          held = held_as g (sym (met-old (arcs_from g) left here q (stale_of r.held.runs q l n))) r.held;
          known = r.known;
          followed = λ p m f. f;
          counted = c;
          ends = ltb-false _ _ d;
        })))

    pub known-run : {r : Result Walked WalkRefusal} (q : ℕ) → q < length g → get_or w q 0 ≢ 0 → Below g w q → r ≡ looked_up (length g) w q t left
        → NumberedAs g w w (met eqb (arcs_from g) left here q) true q left r
    known-run q l n b e = subst (NumberedAs g w w (met eqb (arcs_from g) left here q) true q left) (sym e) (known-answer q l n b)

  pub arc-run : (w₀ w o : List ℕ) (left v : ℕ) (r : Result Walked WalkRefusal) {q : ℕ} → q ≡ arc kbwg v → q ≢ 0
      → NumberedAs g w₀ w (met eqb (arcs_from g) left o q) true q left r
      → NumberedAs g w₀ w (met_by (arcs_from g) left o (arc kbwg v)) (has_arc v) (arc kbwg v) left r
  arc-run w₀ w o left v r {q} e n h = rw (← e, met-by-arc (arcs_from g) left o q n, ne_eqb q 0 n) h

  -- ---- a run that is new
  module _ {w : List ℕ} {t : BlockTally} {o : List ℕ} (h : RunsHeld g w t o) (p : ℕ) (l : p < length g) (new : get_or w p 0 ≡ 0) where
    fresh : member p o ≡ false
    fresh = fresh_of h.runs p l new

    pub blocks-left : t.blocks < length g
    blocks-left = holds-room h.runs p l new

    pub run-met : (left : ℕ) (o₀ : List ℕ) → left ≢ 0 → o₀ ≡ o ++ p ∷ []
        → walk (left - 1) o₀ (run_of g p) ≡ met eqb (arcs_from g) left o p
    run-met left o₀ e q = ap (λ x. walk (left - 1) x (run_of g p)) q ∙ sym (met-new (arcs_from g) left o p e fresh)

    pub run_over : (left : ℕ) → left ≢ 0 → 2 ^ 22 - t.nodes < run_size g p → 2 ^ 22 < 2 + total (run_size g) (met eqb (arcs_from g) left o p)
    run_over left e d =
        let a = total_snoc (run_size g) o p in
        let b = all-total (run_size g) (arcs_from g) (left - 1) (o ++ p ∷ []) (arcs_from g p) in
        let s = h.runs.sum in
        let k = h.within in
        subst (λ x. 2 ^ 22 < 2 + total (run_size g) x) (sym (met-new (arcs_from g) left o p e fresh)) (omega arith)

    pub run_pushed : (w' : List ℕ) (t' : BlockTally) (s : ℕ) → 4 * length g ≤ length w → s ≡ run_size g p → s ≤ 2 ^ 22 - t.nodes
        → Pushed (length g) w p t s w' t' → RunsHeld g w' t' (o ++ p ∷ [])
    run_pushed w' t' s room e d a = record {
      runs = push-holds p h.runs l (omega arith) fresh e a;
      within = let k = h.within in let z = a.nodes in omega arith;
    }

  -- ---- along the nodes of a run
  walk-node : (left : ℕ) (o : List ℕ) (v : ℕ) (vs : List ℕ)
      → walk left o (v ∷ vs) ≡ walk left (met_by (arcs_from g) left o (arc kbwg v)) vs
  walk-node left o v vs =
      split (eqb (arc kbwg v) 0)
      (λ e. rw (e, filtered) (ap (λ x. walk left x vs) (sym (met-by-none (arcs_from g) left o (arc kbwg v) (eqb-true _ _ e)))))
      (λ e. rw (e, filtered) (ap (λ x. walk left x vs) (sym (met-by-arc (arcs_from g) left o (arc kbwg v) (eqb-false _ _ e)))))

  -- the runs met before the nodes vs at the end of the run from p are held, and what is left to meet gives m; w₀ is the work list as p is
  -- asked for
  pub record Along (left p : ℕ) (w₀ w m : List ℕ) (f : Walked) (vs : List ℕ) : Type 0 where
    pub size : length w ≡ length w₀
    pub held : RunsHeld g w f.tally (order_in (length g) w f.tally)
    pub rest : walk left (order_in (length g) w f.tally) vs ≡ m
    pub own : (v : ℕ) → Memᴰ v vs → Memᴰ v (run_of g p)
    pub known : Known g w
    pub followed : NoneBut g p w₀ w
    pub passing : Passing g p f.runs f.words vs
    pub ends : f.runs ≤ left

  -- p numbered, with no chain yet
  pub along-starts : {w w₁ w₂ : List ℕ} {t t₁ : BlockTally} {left s : ℕ} (p : ℕ) → RunsRecorded g w t → p < length g → get_or w p 0 ≡ 0
      → left ≢ 0 → s ≡ run_size g p → s ≤ 2 ^ 22 - t.nodes → Pushed (length g) w p t s w₁ t₁ → w₂ ≡ set w₁ (depth_at (length g) p) 0
      → Along (left - 1) p w w₂ (met eqb (arcs_from g) left (order_in (length g) w t) p) (record { tally = t₁; runs = 0; words = 0 }) (run_of g p)
  along-starts {w} {w₁} {w₂} {t} {t₁} {left} p r l new n e d a i =
      let few = blocks-left r.held p l new in
      let put = i ∙ ap (λ (x : List ℕ). set x (depth_at (length g) p) 0) a.list in
      let pushed : RunsHeld g w₂ t₁ (order_in (length g) w t ++ p ∷ []) =
      subst (λ x. RunsHeld g x t₁ (order_in (length g) w t ++ p ∷ [])) (sym i)
      (held-past g (depth_at (length g) p) 0 (omega arith) (run_pushed r.held p l new w₁ t₁ _ r.room e d a)) in
      record {
        size = ap length put ∙ simp length-set;
        held = held-here g pushed;
        rest = run-met r.held p l new left (order_in (length g) w₂ t₁) n pushed.runs.order;
        own = λ v m. m;
        known = subst (Known g) (sym put) (begun-known g w p l r.room t few r.known);
        followed = subst (NoneBut g p w) (sym put) (begun-followed g w p l r.room t few);
        passing = passing-starts g p;
        ends = omega arith;
      }

  -- the node at hand, and those after it
  module _ {left p : ℕ} {w₀ w m : List ℕ} {f : Walked} (at : ℕ) (inside : at < length g) (k : Along left p w₀ w m f (run_of g at)) where
    pub along-here : (vs : List ℕ) × Along left p w₀ w m f (node g at ∷ vs)
    along-here = let r = run-first g at inside in (r.0, subst (Along left p w₀ w m f) r.1 k)

    pub along-on : is_end kbwg (node g at) ≡ false → Along left p w₀ w m f (node g at ∷ run_of g (at + 1))
    along-on e = subst (Along left p w₀ w m f) (run-goes-on g at inside e) k

    pub along-last : is_end kbwg (node g at) ≡ true → Along left p w₀ w m f (node g at ∷ [])
    along-last e = subst (Along left p w₀ w m f) (run_ends g at inside e) k

  module _ {left p : ℕ} {w₀ w m : List ℕ} {f : Walked} {v : ℕ} {vs : List ℕ} (k : Along left p w₀ w m f (v ∷ vs)) where
    abbrev seen : List ℕ
    seen = order_in (length g) w f.tally

    abbrev next : List ℕ
    next = met_by (arcs_from g) left (order_in (length g) w f.tally) (arc kbwg v)

    pub along-recorded : 4 * length g ≤ length w₀ → RunsRecorded g w f.tally
    along-recorded r = let s = k.size in record { room = omega arith; held = k.held; known = k.known }

    -- ---- what the arc of the node at hand leads to
    arc-own : has_arc v ≡ true → Memᴰ (arc kbwg v) (arcs_from g p)
    arc-own has = arc-from g p v (k.own v (Memᴰ.head refl)) has

    pub along-inside : Closed g → p < length g → arc kbwg v < length g
    along-inside c l =
        split (eqb (arc kbwg v) 0)
        (λ z. let e = eqb-true _ _ z in omega arith)
        (λ z. arcs-inside g c p (arc kbwg v) (arc-own (ap not z)))

    -- below p, and with it below what was followed when p was entered
    pub along-below : Below g w₀ p → has_arc v ≡ true → Below g w (arc kbwg v)
    along-below b has = below-arc g w₀ w p (arc kbwg v) b k.followed (arc-own has)

    -- ---- why it is refused
    along-deep : has_arc v && deeper g left (arc kbwg v) ≡ true → deeper g (suc left) p ≡ true
    along-deep d = deep-by-arc g left p (arc kbwg v) (arc-own (and_left (has_arc v) _ d)) (and_right (has_arc v) _ d)

    along_over : 2 ^ 22 < 2 + total (run_size g) next → 2 ^ 22 < 2 + total (run_size g) m
    along_over h =
        let n = all-total (run_size g) (arcs_from g) left next (map (arc kbwg) (filtered has_arc vs)) in
        subst (λ x. 2 ^ 22 < 2 + total (run_size g) x) (sym (walk-node left seen v vs) ∙ k.rest) (omega arith)

    pub along-refused : (w' : List ℕ) {turns : ℕ} (e : WalkRefusal) → suc left ≡ turns
        → NumberedAs g w w' next (has_arc v) (arc kbwg v) left (Err e) → NumberedAs g w₀ w' m true p turns (Err e)
    along-refused w' TooDeep i d = rw (← i) (along-deep d)
    along-refused w' TooMany i h = along_over h

    -- ---- past it
    pub along-goes : {w' : List ℕ} {child sum : Walked} → RunsNumbered g w w' next (has_arc v) (arc kbwg v) left child → sum ≡ node_passed v f child
        → length w' ≡ length w → Along left p w₀ w' m sum vs
    along-goes {w'} {child} {sum} c i z =
        let a = k.ends in
        let b = c.ends in
        subst (λ x. Along left p w₀ w' m x vs) (sym i)
        (record {
          size = z ∙ k.size;
          held = held-here g c.held;
          rest = ap (λ x. walk left x vs) c.held.runs.order ∙ sym (walk-node left seen v vs) ∙ k.rest;
          own = λ u n. k.own u (Memᴰ.tail n);
          known = c.known;
          followed = λ q l n x. k.followed q l n (c.followed q l x);
          passing = passing-node g k.passing c.counted;
          ends = omega arith;
        })

  -- all nodes passed, and what is found is kept
  module _ {left p : ℕ} {w₀ w m : List ℕ} {f : Walked} (k : Along left p w₀ w m f []) (l : p < length g) (room : 4 * length g ≤ length w) where
    kept_whole : RunsNumbered g w₀ (set (set w (depth_at (length g) p) (f.runs + 1)) (words_at (length g) p) f.words) m true p (suc left) (run_closed f)
    kept_whole =
        let found = passing-all g k.passing in
        let some : f.runs + 1 ≢ 0 = λ z. omega arith in
        record {
          held = held-past g (words_at (length g) p) f.words (omega arith)
              (held-past g (depth_at (length g) p) (f.runs + 1) (omega arith) (held_as g k.rest k.held));
          known = ended-known g w p l room (f.runs + 1) f.words some found k.known;
          followed = ended-followed g w p l room (f.runs + 1) f.words some w₀ k.followed;
          counted = found;
          ends = let a = k.ends in omega arith;
        }

    pub along-ends : {r : Walked} {w' : List ℕ} {turns : ℕ} → suc left ≡ turns
        → (r ≡ run_closed f) × (w' ≡ set (set w (depth_at (length g) p) (run_closed f).runs) (words_at (length g) p) f.words)
        → RunsNumbered g w₀ w' m true p turns r
    along-ends i j = rw (j.0, j.1, ← i) kept_whole
