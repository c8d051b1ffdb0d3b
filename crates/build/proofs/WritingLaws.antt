-- The graph's nodes as they are written one by one: a child by its entry in the record, and the nodes of all runs in the record's order.
use mathlib.Core.Path.{◌≡◌, refl, sym, ap, ◌∙◌, subst}
use mathlib.Core.Bool.{Bool, true, false}
use mathlib.Core.List.Memᴰ
use mathlib.Core.List.{List, [], ◌∷◌, ◌++◌}
use Prim.Native.Nat.{ℕ, ◌+◌, ◌≤◌, ◌<◌}
use native.Mathlib.Omega.{arith}
use native.Mathlib.Numerals.{add-one}
use lib.Dec.{eqb}
use lib.ListN.{length, get_or, drop, length-drop, drop_of_length-le}
use lib.Seq.{sets, drop-cons, get_or-take, get_or-drop, length-take-le}
use Rattle.base.specs.Numbers.{flag}
use Rattle.laws.specs.Members.{at_in}
use Rattle.endian.specs.Putting.{Putting, put-start, put_next, put-done}
use Rattle.node.specs.Nodes.{kbwg, arc}
use Rattle.block_record.specs.Record.{child_in, blocks_in}
use Rattle.built.specs.Built.{node_of}
use Rattle.shelf.specs.Shelf.{Shelf, run_entries, entry_nodes}
use Rattle.shelf.specs.ShelfBuilt.{entries-end}
use Rattle.tails.specs.TailsLaws.{TailAt, tail_at}
use Rattle.build.specs.Numbering.{node_at, after_at}
use Rattle.build.specs.Writing.{linked_to, order_nodes, WritesFrom}
use Rattle.build.proofs.RunLaws.{entries-zero, entry-child}

flag_le : (b : Bool) → flag b ≤ 1
flag_le true = omega arith
flag_le false = omega arith

-- a node with its arc exchanged
node_linked : (t : ℕ) (a e : Bool) (c r : ℕ) → t < 64 → node_of t a e r ≡ linked_to r (node_of t a e c)
node_linked t a e c r h = let x = flag_le a in let y = flag_le e in omega arith

module _ {sh : Shelf} {n : ℕ} {w : List ℕ} {k : ℕ} (h : WritesFrom sh n w k) where
  abbrev order : List ℕ
  order = blocks_in n w k

  -- the nodes of the runs from run j on
  abbrev from : ℕ → List ℕ
  from j = order_nodes sh w (drop j order)

  abbrev run_from : ℕ → List ℕ
  run_from i = entry_nodes (child_in w) (run_entries sh i)

  -- what is left to write at tail i of run j: the rest of the run, and the runs after it
  abbrev left : ℕ → ℕ → List ℕ
  left j i = run_from i ++ from (j + 1)

  -- the node at hand, as it is written
  abbrev pub written : ℕ → ℕ
  written i = linked_to (child_in w (arc kbwg (node_at n w i))) (node_at n w i)

  module _ (i : ℕ) (some : 0 < i) (known : i ≤ length sh) where
    pub tail_here : TailAt n w sh i
    tail_here = tail_at h.tails i some known

    run_step : run_from i ≡ written i ∷ run_from (after_at n w i)
    unfolding entry_nodes
    run_step =
        let r = tail_here in
        let e = r.entry in
        let low = r.next-below in
        let ends = entries-end sh h.tails.shelves.valid e.next (omega arith) in
        ap (entry_nodes (child_in w)) r.chain-is
        ∙ ap (λ b. node_of e.tile e.accepts b (child_in w e.child) ∷ run_from e.next) ends
        ∙ ap (◌∷ run_from e.next) (node_linked e.tile e.accepts (eqb e.next 0) e.child (child_in w e.child) r.narrow.tile)
        ∙ ap (λ v. linked_to (child_in w e.child) v ∷ run_from e.next) (sym r.node-is)
        ∙ ap (λ c. linked_to (child_in w c) (node_at n w i) ∷ run_from e.next) (sym (entry-child r))
        ∙ ap (λ x. written i ∷ run_from x) (sym r.next-is)

    left_step : (j : ℕ) → left j i ≡ written i ∷ (run_from (after_at n w i) ++ from (j + 1))
    left_step j = ap (◌++ from (j + 1)) run_step

    left-last : (j : ℕ) → after_at n w i ≡ 0 → left j i ≡ written i ∷ from (j + 1)
    unfolding entry_nodes
    left-last j z = left_step j ∙ ap (λ x. written i ∷ (entry_nodes (child_in w) x ++ from (j + 1))) (ap (run_entries sh) z ∙ entries-zero sh)

    -- at least one node
    pub left-some : (j : ℕ) → 1 ≤ length (left j i)
    left-some j = let e = ap length (left_step j) in omega arith

  -- the nodes before `at` are written, and what is left gives the whole
  pub record RunsWriting (nodes₀ nodes : List ℕ) (at j i : ℕ) : Type 0 where
    pub size : length nodes ≡ length nodes₀
    pub inside : j < k → (0 < i) × (i ≤ length sh)
    pub rest : j < k → Putting (from 0) nodes₀ 2 (left j i) nodes at
    pub done : k ≤ j → nodes ≡ sets nodes₀ 2 (from 0)

  order-length : length order ≡ k
  order-length = let f = h.few in let r = h.tails.room in length-take-le k (drop n w) (simp length-drop (omega arith))

  order-at : (j : ℕ) → j < k → get_or order j 0 ≡ get_or w (n + j) 0
  order-at j l = get_or-take k (drop n w) j 0 l ∙ get_or-drop n w j 0

  run_none : (j : ℕ) → k ≤ j → from j ≡ []
  run_none j l = let b : length order ≤ j = let e = order-length in omega arith in ap (order_nodes sh w) (drop_of_length-le order b)

  -- where run j begins
  module _ (j i : ℕ) (e : i ≡ get_or w (n + j) 0) (l : j < k) where
    run_inside : (0 < i) × (i ≤ length sh)
    run_inside = let o = order-length in h.order i (Memᴰ.cast (sym (order-at j l ∙ sym e)) (at_in order j 0 (omega arith)))

    run-left : from j ≡ left j i
    run-left =
        let o = order-length in
        let c : drop j order ≡ get_or order j 0 ∷ drop (j + 1) order = rw (add-one, drop-cons order j 0 (omega arith)) in
        ap (order_nodes sh w) c ∙ ap (left j) (order-at j l ∙ sym e)

  pub writing-starts : (nodes : List ℕ) (i : ℕ) → i ≡ get_or w n 0 → RunsWriting nodes nodes 2 0 i
  writing-starts nodes i e =
      let z : i ≡ get_or w (n + 0) 0 = e ∙ ap (λ j. get_or w j 0) (omega arith) in
      record {
        size = refl;
        inside = run_inside 0 i z;
        rest = λ l. subst (λ x. Putting (from 0) nodes 2 x nodes 2) (run-left 0 i z l) (put-start (from 0) nodes 2);
        done = λ l. put-done (put-start (from 0) nodes 2) (run_none 0 l);
      }

  module _ {nodes₀ nodes nodes' : List ℕ} {at j i : ℕ} (q : RunsWriting nodes₀ nodes at j i) (l : j < k) (e : nodes' ≡ sets nodes at (written i ∷ [])) where
    -- the node written, and this left after it
    wrote : (after : List ℕ) → left j i ≡ written i ∷ after → Putting (from 0) nodes₀ 2 after nodes' (at + 1)
    wrote after c = put_next (q.rest l) (written i ∷ []) after c refl e

    here : (0 < i) × (i ≤ length sh)
    here = q.inside l

    pub writing-on : {i' : ℕ} → i' ≡ after_at n w i → 0 < i' → RunsWriting nodes₀ nodes' (at + 1) j i'
    writing-on {i'} a b =
        let t = tail_here i here.0 here.1 in
        let r = wrote (left j i') (left_step i here.0 here.1 j ∙ ap (λ x. written i ∷ (run_from x ++ from (j + 1))) (sym a)) in
        record {
          size = r.size;
          inside = λ m. (b, let c = t.next-is in let d = t.next-below in let f = here.1 in omega arith);
          rest = λ m. r;
          done = λ m. absurd (omega arith);
        }

    pub writing_over : {i' : ℕ} → after_at n w i ≡ 0 → i' ≡ get_or w (n + j + 1) 0 → RunsWriting nodes₀ nodes' (at + 1) (j + 1) i'
    writing_over {i'} a x =
        let r = wrote (from (j + 1)) (left-last i here.0 here.1 j a) in
        let z : i' ≡ get_or w (n + (j + 1)) 0 = x ∙ ap (λ y. get_or w y 0) (omega arith) in
        record {
          size = r.size;
          inside = run_inside (j + 1) i' z;
          rest = λ m. subst (λ y. Putting (from 0) nodes₀ 2 y nodes' (at + 1)) (run-left (j + 1) i' z m) r;
          done = λ m. put-done r (run_none (j + 1) m);
        }
