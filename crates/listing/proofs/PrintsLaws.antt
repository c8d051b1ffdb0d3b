-- What the calls make, block after block, is what the program prints; and that is determined by the input.
use mathlib.Core.Path.{◌≡◌, refl, sym, ap, ◌∙◌, subst}
use mathlib.Core.List.{List, [], ◌∷◌, ◌++◌, append-nil}
use mathlib.Core.Option.{Option, none, some}
use Prim.Native.Nat.{ℕ, zero, suc, ◌≤◌, ◌-◌}
use native.Mathlib.Omega.{arith}
use lib.Dec.{ltb}
use borrow.Author.Tests.{ltb-true, ltb-false}
use lib.ListN.{length, take}
use Rattle.laws.specs.Cases.{split, split_option, some≢none}
use Rattle.laws.specs.Lists.{join_all}
use Rattle.answers.specs.Answers.{Answer, gives, nothing, refused}
use Rattle.graph.specs.Runs.{Graph}
use Rattle.graph.specs.Counting.{IsCounted, Counts, count_limit}
use Rattle.graph.proofs.CountedOnce.{counted-once}
use Rattle.lookup.specs.GraphLent.{GraphLent}
use Rattle.numbers.proofs.WordNumbersLaws.{counted-lent, lent-left}
use Rattle.listing.specs.Lines.{refusal_line}
use Rattle.listing.specs.Wordlist.{start_words, load_input, load_answer, RefusesBy, Ends, refuses, lists}
use Rattle.listing.specs.Wordlist.{Opens, longer, unloaded, uncounted, counted, printed, Prints}
use Rattle.listing.specs.Blocks.{lines_of, block}
use Rattle.listing.specs.Printing.{room, walk_from, lines_left, Next, next_block, blocks_within, output_blocks}
use Rattle.listing.specs.Said.{OpenSaid, Opening, WholeOutput}
use Rattle.listing.specs.NextLaws.{fewer_lines-left}
use Rattle.listing.specs.declared.opening.Unprinted.{Unprinted}
use Rattle.listing.specs.declared.opening.Unprinted.TheVariants.{Refusal, Words}
use Rattle.listing.proofs.BlocksLaws.{block-then-rest}
use Rattle.listing.proofs.ListedLaws.{start-listed}
use Rattle.listing.proofs.OpeningLaws.{loaded-within}

-- ---- the blocks, joined
-- a graph that loads and counts stands in the lists that are left
lists-left : {input lent_nodes lent_counts lent_work nodes counts work : List ℕ} {g : Graph}
    → Opens input lent_nodes lent_counts lent_work (lists g) nodes counts work → Counts count_limit g × GraphLent g nodes counts
lists-left {input} {lent_nodes} {lent_counts} {lent_work} {counts = after} (counted {size} h a c w) =
    let nodes = (load_input input lent_nodes).nodes in (
      (counted-lent count_limit (take size nodes) lent_counts after (length lent_work) c).0,
      lent-left count_limit size nodes lent_counts after (length lent_work) (loaded-within input lent_nodes a) c,
    )

module _ (nodes counts : List ℕ) where
  -- what is still to be printed
  abbrev bytes_left : Unprinted → List ℕ
  bytes_left (Refusal n) = refusal_line n
  bytes_left (Words start count next) = lines_of (walk_from nodes counts start) next (count - next)

  none_left : (u : Unprinted) → next_block nodes counts u ≡ none → bytes_left u ≡ []
  unfolding next_block lines_of
  none_left (Refusal n) e = some≢none e
  none_left (Words start count next) e =
      split (ltb next count)
      (λ t. some≢none (rw (t, next_block) at e))
      (λ t. let z : count - next ≡ 0 = omega (arith, ltb-false next count t) in rw z)

  one_block : (u : Unprinted) {b : Next} → next_block nodes counts u ≡ some b → bytes_left u ≡ b.bytes ++ bytes_left b.unprinted
  unfolding next_block lines_of
  one_block (Refusal n) e = subst (λ o. bytes_left (Refusal n) ≡ after o) e (sym (append-nil (refusal_line n)))
    where
      after : Option Next → List ℕ
      after (some b) = b.bytes ++ bytes_left b.unprinted
      after none = []
  one_block (Words start count next) {b} e =
      split (ltb next count)
      (λ t. let e' = rw (t, next_block) at e in
      let walk = walk_from nodes counts start in
      let first = block-then-rest walk count next room (ltb-true next count t) (omega arith) in
      let bytes : (block walk count next room).bytes ≡ b.bytes = cc in
      let left : Words start count (block walk count next room).next ≡ b.unprinted = cc in
      first ∙ ap (λ l. l ++ bytes_left (Words start count (block walk count next room).next)) bytes ∙ ap (λ u. b.bytes ++ bytes_left u) left)
      (λ t. some≢none (sym (rw (t, next_block) at e)))

  blocks_join : (t : ℕ) (u : Unprinted) → lines_left u ≤ t → join_all (blocks_within nodes counts t u) ≡ bytes_left u
  unfolding blocks_within lines_of
  blocks_join zero (Refusal n) h = absurd (omega arith)
  blocks_join zero (Words start count next) h = let z : count - next ≡ 0 = omega arith in rw z
  blocks_join (suc t) u h =
      split_option (next_block nodes counts u)
      (λ e. rw (e, blocks_within) (sym (none_left u e)))
      (λ b e. rw (e, blocks_within) (ap (b.bytes ++◌) (blocks_join t b.unprinted (omega (arith, h, fewer_lines-left nodes counts u e))) ∙ sym (one_block u e)))

module _ {input lent_nodes lent_counts lent_work nodes counts work : List ℕ} where
  joined : (u : Unprinted) (e : Ends) → OpenSaid u e → Opens input lent_nodes lent_counts lent_work e nodes counts work
      → bytes_left nodes counts u ≡ printed e
  joined (Refusal n) (refuses m) s o = ap refusal_line s
  joined (Refusal n) (lists g) s o = absurd s
  joined (Words p c i) (refuses m) s o = absurd s
  joined (Words p c i) (lists g) s o =
      let k = lists-left o in
      let z : c - 0 ≡ length (start_words g) = omega (arith, s.1) in
      rw (s.2, s.0, z) (start-listed count_limit g k.0 nodes counts k.1)

  calls-print : (u : Unprinted) → Opening input lent_nodes lent_counts lent_work u nodes counts work
      → Prints input lent_nodes lent_counts lent_work (join_all (output_blocks nodes counts u))
  calls-print u o =
      record {
        enough = o.enough;
        ends = o.ends;
        nodes = nodes;
        counts = counts;
        work = work;
        opens = o.opens;
        is = blocks_join nodes counts (lines_left u) u (omega arith) ∙ joined u o.ends o.said o.opens;
      }

-- ---- the output is determined
refuses-once : (a : Answer) {m n : ℕ} → RefusesBy a m → RefusesBy a n → m ≡ n
refuses-once (refused k vs) e f = sym e ∙ f
refuses-once (gives vs) e f = absurd e
refuses-once nothing e f = absurd e

-- an answer that gives something refuses by no number
gives_refuses : {a : Answer} {vs : List ℕ} (n : ℕ) {C : Type 0} → a ≡ gives vs → RefusesBy a n → C
gives_refuses n e r = absurd (subst (λ x. RefusesBy x n) e r)

module _ (input lent_nodes lent_counts lent_work : List ℕ) where
  abbrev graph_of : ℕ → Graph
  graph_of size = take size (load_input input lent_nodes).nodes

  same_size : {s t : ℕ} → load_answer (load_input input lent_nodes) ≡ gives (s ∷ []) → load_answer (load_input input lent_nodes) ≡ gives (t ∷ []) → s ≡ t
  same_size e f = let i = sym e ∙ f in cc

  -- two counts of the loaded nodes
  both_counted : {s t : ℕ} {a b : Answer} {after after' : List ℕ} → load_answer (load_input input lent_nodes) ≡ gives (s ∷ [])
      → load_answer (load_input input lent_nodes) ≡ gives (t ∷ []) → IsCounted count_limit (graph_of s) lent_counts (length lent_work) a after
      → IsCounted count_limit (graph_of t) lent_counts (length lent_work) b after' → a ≡ b
  both_counted {s} {t} {a} {after = after} e f c d =
      (counted-once (subst (λ k. IsCounted count_limit (graph_of k) lent_counts (length lent_work) a after) (same_size e f) c) d).0

  ends-once : {e f : Ends} {nodes counts work nodes' counts' work' : List ℕ} → Opens input lent_nodes lent_counts lent_work e nodes counts work
      → Opens input lent_nodes lent_counts lent_work f nodes' counts' work' → e ≡ f
  ends-once (longer h) (longer i) = refl
  ends-once (longer h) (unloaded i r) = absurd (omega arith)
  ends-once (longer h) (uncounted i a c r w) = absurd (omega arith)
  ends-once (longer h) (counted i a c w) = absurd (omega arith)
  ends-once (unloaded h r) (longer i) = absurd (omega arith)
  ends-once (unloaded h r) (unloaded i s) = ap refuses (refuses-once (load_answer (load_input input lent_nodes)) r s)
  ends-once (unloaded {n} h r) (uncounted i a c s w) = gives_refuses n a r
  ends-once (unloaded {n} h r) (counted i a c w) = gives_refuses n a r
  ends-once (uncounted h a c r w) (longer i) = absurd (omega arith)
  ends-once (uncounted h a c r w) (unloaded {n} i s) = gives_refuses n a s
  ends-once (uncounted {n} h a c r w) (uncounted {r = y} i b d s v) = ap refuses (refuses-once y (subst (λ x. RefusesBy x n) (both_counted a b c d) r) s)
  ends-once (uncounted {n} h a c r w) (counted i b d v) = gives_refuses n (both_counted a b c d) r
  ends-once (counted h a c w) (longer i) = absurd (omega arith)
  ends-once (counted h a c w) (unloaded {n} i s) = gives_refuses n a s
  ends-once (counted h a c w) (uncounted {n} i b d s v) = gives_refuses n (both_counted b a d c) s
  ends-once (counted h a c w) (counted i b d v) = ap (λ k. lists (graph_of k)) (same_size a b)

  Prints-once : {a b : List ℕ} → Prints input lent_nodes lent_counts lent_work a → Prints input lent_nodes lent_counts lent_work b → a ≡ b
  Prints-once p q = p.is ∙ ap printed (ends-once p.opens q.opens) ∙ sym q.is

-- ---- the claim
whole_output : WholeOutput
whole_output =
    record {
      joins = λ input buffer read lent_nodes lent_counts lent_work nodes counts work u r o. calls-print u (o input r);
      once = λ input lent_nodes lent_counts lent_work. Prints-once input lent_nodes lent_counts lent_work;
    }
