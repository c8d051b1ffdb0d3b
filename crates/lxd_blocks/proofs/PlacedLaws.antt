-- The file's nodes as they are written one by one: a child by its entry in the record, and the nodes of all runs in the record's order.
use mathlib.Core.Path.{◌≡◌, refl, sym, ap, ◌∙◌, subst}
use mathlib.Core.Bool.{true, false}
use mathlib.Core.List.Memᴰ
use mathlib.Core.List.{List, [], ◌∷◌, ◌++◌, map, append_assoc, map-append, Memᴰ}
use Prim.Native.Nat.{ℕ, suc, ◌+◌, ◌≤◌, ◌<◌}
use native.Mathlib.Omega.{arith}
use native.Mathlib.Numerals.{add-one}
use lib.ListN.{length, get_or, drop, length-append, length-drop, drop_of_length-le}
use lib.Seq.{sets, drop-cons, get_or-take, get_or-drop, length-take-le}
use Rattle.laws.specs.Lists.{join_all}
use Rattle.laws.specs.Members.{at_in}
use Rattle.endian.specs.Bytes.{to_bytes, node_bytes}
use Rattle.endian.proofs.BytesLaws.{numbers_append}
use Rattle.endian.specs.Putting.{Putting, put-start, put_next, put-done}
use Rattle.node.specs.Nodes.{kbwg, is_end}
use Rattle.graph.specs.Runs.{Graph, node}
use Rattle.export.specs.Starts.{run_of}
use Rattle.export.specs.RunOfLaws.{run_ends, run-goes-on}
use Rattle.block_record.specs.Record.{blocks_in}
use Rattle.lxd_blocks.specs.Placed.{node_in, bytes_in, order_bytes}
use Rattle.lxd_blocks.proofs.RunLaws.{run-first}

module _ (g : Graph) (labels w : List ℕ) where
  -- the bytes of a run
  abbrev run_bytes : ℕ → List ℕ
  run_bytes p = bytes_in labels w (run_of g p)

  order-bytes_cons : (p : ℕ) (ps : List ℕ) → order_bytes g labels w (p ∷ ps) ≡ run_bytes p ++ order_bytes g labels w ps
  order-bytes_cons p ps =
      ap node_bytes (map-append (node_in labels w) (run_of g p) (join_all (map (run_of g) ps)))
      ∙ numbers_append (map (node_in labels w) (run_of g p)) (map (node_in labels w) (join_all (map (run_of g) ps)))

  module _ (k : ℕ) where
    -- the first k runs of the record, and the bytes of those from run i on
    abbrev order : List ℕ
    order = blocks_in (length g) w k

    abbrev from : ℕ → List ℕ
    from i = order_bytes g labels w (drop i order)

    -- ---- what is left to write at node p of run i: the rest of the run, and the runs after it
    abbrev left : ℕ → ℕ → List ℕ
    left i p = run_bytes p ++ from (i + 1)

    module _ (i p : ℕ) (inside : p < length g) where
      left-last : is_end kbwg (node g p) ≡ true → left i p ≡ to_bytes (node_in labels w (node g p)) ++ from (i + 1)
      unfolding node_bytes
      left-last e = ap (λ vs. bytes_in labels w vs ++ from (i + 1)) (run_ends g p inside e)

      left-more : is_end kbwg (node g p) ≡ false → left i p ≡ to_bytes (node_in labels w (node g p)) ++ left i (p + 1)
      unfolding node_bytes
      left-more e =
          ap (λ vs. bytes_in labels w vs ++ from (i + 1)) (run-goes-on g p inside e)
          ∙ append_assoc (to_bytes (node_in labels w (node g p))) (run_bytes (p + 1)) (from (i + 1))

      -- at least one node
      pub left-some : 4 ≤ length (left i p)
      unfolding node_bytes
      left-some =
          let r = run-first g p inside in
          let l = length-append (run_bytes p) (from (i + 1)) in
          let s : 4 ≤ length (run_bytes p) = rw r.1 (omega arith) in
          omega arith

    -- the bytes before `at` are written, and what is left gives the whole
    pub record RunsWriting (file₀ file : List ℕ) (at i p : ℕ) : Type 0 where
      pub size : length file ≡ length file₀
      pub inside : i < k → p < length g
      pub rest : i < k → Putting (from 0) file₀ 72 (left i p) file at
      pub done : k ≤ i → file ≡ sets file₀ 72 (from 0)

    module _ (room : length g + k < length w) (runs : (p : ℕ) → Memᴰ p order → p < length g) where
      order-length : length order ≡ k
      order-length = length-take-le k (drop (length g) w) (simp length-drop (omega arith))

      order-at : (i : ℕ) → i < k → get_or order i 0 ≡ get_or w (length g + i) 0
      order-at i h = get_or-take k (drop (length g) w) i 0 h ∙ get_or-drop (length g) w i 0

      run_none : (i : ℕ) → k ≤ i → from i ≡ []
      unfolding node_bytes
      run_none i h = let l : length order ≤ i = let e = order-length in omega arith in ap (order_bytes g labels w) (drop_of_length-le order l)

      -- where run i begins
      module _ (i p : ℕ) (e : p ≡ get_or w (length g + i) 0) (h : i < k) where
        run_inside : p < length g
        run_inside =
            let l = order-length in
            runs p (Memᴰ.cast (sym (order-at i h ∙ sym e)) (at_in order i 0 (omega arith)))

        run-left : from i ≡ left i p
        run-left =
            let l = order-length in
            let c : drop i order ≡ get_or order i 0 ∷ drop (i + 1) order = rw (add-one, drop-cons order i 0 (omega arith)) in
            ap (order_bytes g labels w) c ∙ order-bytes_cons (get_or order i 0) (drop (i + 1) order) ∙ ap (left i) (order-at i h ∙ sym e)

      pub writing-starts : (file : List ℕ) (p : ℕ) → p ≡ get_or w (length g) 0 → RunsWriting file file 72 0 p
      writing-starts file p e =
          let z : p ≡ get_or w (length g + 0) 0 = e ∙ ap (λ j. get_or w j 0) (omega arith) in
          record {
            size = refl;
            inside = run_inside 0 p z;
            rest = λ h. subst (λ l. Putting (from 0) file 72 l file 72) (run-left 0 p z h) (put-start (from 0) file 72);
            done = λ h. put-done (put-start (from 0) file 72) (run_none 0 h);
          }

      module _ {file₀ file file' : List ℕ} {at i p : ℕ} (h : RunsWriting file₀ file at i p) (l : i < k)
          (e : file' ≡ sets file at (to_bytes (node_in labels w (node g p)))) where
        -- the node written, and this left after it
        wrote : (after : List ℕ) → left i p ≡ to_bytes (node_in labels w (node g p)) ++ after → Putting (from 0) file₀ 72 after file' (at + 4)
        wrote after c = put_next (h.rest l) (to_bytes (node_in labels w (node g p))) after c refl e

        pub writing-on : is_end kbwg (node g p) ≡ false → suc p < length g → RunsWriting file₀ file' (at + 4) i (p + 1)
        writing-on b n =
            let r = wrote (left i (p + 1)) (left-more i p (h.inside l) b) in
            record { size = r.size; inside = λ m. omega arith; rest = λ m. r; done = λ m. absurd (omega arith) }

        pub writing_over : (q : ℕ) → is_end kbwg (node g p) ≡ true → q ≡ get_or w (length g + i + 1) 0 → RunsWriting file₀ file' (at + 4) (i + 1) q
        writing_over q b x =
            let r = wrote (from (i + 1)) (left-last i p (h.inside l) b) in
            let z : q ≡ get_or w (length g + (i + 1)) 0 = x ∙ ap (λ j. get_or w j 0) (omega arith) in
            record {
              size = r.size;
              inside = run_inside (i + 1) q z;
              rest = λ m. subst (λ y. Putting (from 0) file₀ 72 y file' (at + 4)) (run-left (i + 1) q z m) r;
              done = λ m. put-done r (run_none (i + 1) m);
            }
