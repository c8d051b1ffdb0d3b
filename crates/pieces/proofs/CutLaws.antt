-- A turn of the load in pieces: the feeds from one piece on, by the feed of that piece and the feeds after it.
use mathlib.Core.Path.{◌≡◌, refl, sym, ap}
use mathlib.Core.List.{List, [], ◌∷◌, map}
use Prim.Native.Nat.{ℕ, zero, suc, ◌+◌, ◌≤◌, ◌<◌, min}
use native.Mathlib.Omega.{arith}
use native.Mathlib.Numerals.{add-one}
use lib.ListN.{length, get_or, take, drop, set, length-set, drop_of_length-le}
use lib.Seq.{sets, drop-cons, set_out}
use Rattle.std.proofs.lemmas.List.{take_min, drop_min}
use Rattle.answers.specs.Answers.{refusal_in}
use Rattle.node.specs.declared.Layout.{Layout}
use Rattle.graph.specs.Runs.{Graph}
use Rattle.pieces.specs.Pieces.{feed_all, fed_pieces, load_pieces, cut_at}
use Rattle.pieces.specs.Said.{LoadLeft, load_leaves}
use Rattle.load.specs.Loading.{Begins, begin, Feeds, feed, Finishes, finish}
use Rattle.load.specs.declared.loader.Loader.{Loader}

-- ---- values written into a list that has no room for them
sets-past : (l xs : List ℕ) (i : ℕ) → length l ≤ i → sets l i xs ≡ l
sets-past l [] i h = refl
sets-past l (x ∷ xs) i h = rw (set_out l i x h) (sets-past l xs (suc i) (omega arith))

sets-room : (l : List ℕ) (n : ℕ) (xs : List ℕ) (i : ℕ) → length l ≤ i + n → sets l i (take n xs) ≡ sets l i xs
sets-room l zero xs i h = sym (sets-past l xs i (omega arith))
sets-room l (suc n) [] i h = refl
sets-room l (suc n) (x ∷ xs) i h = let e = length-set l i x in sets-room (set l i x) n xs (suc i) (omega arith)

-- ---- the feeds of the pieces, one at a time
-- what the feeds from piece i on leave: their answers stored from place i on, the state and the nodes
abbrev pub fed_from : List ℕ → ℕ → Loader → Graph → List ℕ → List ℕ → List ℕ × Loader × Graph
fed_from answers i s nodes cuts bytes =
    let all = feed_all s nodes (cut_at cuts bytes) in
    (sets answers i (map refusal_in all.answers), all.state, all.nodes)

module _ (answers : List ℕ) (s : Loader) (nodes : Graph) (cuts rest : List ℕ) (i : ℕ) where
  pub feed-next : {n : ℕ} {piece left : List ℕ} {after : Feeds} {more : List ℕ} → i < length cuts → n ≡ min (get_or cuts i 0) (length rest)
      → piece ≡ take n rest → left ≡ drop n rest → after ≡ feed s nodes piece → more ≡ set answers i (refusal_in after.answer)
      → fed_from more (i + 1) after.state after.nodes (drop (i + 1) cuts) left ≡ fed_from answers i s nodes (drop i cuts) rest
  unfolding feed_all cut_at
  feed-next h e p q f t =
      rw (t, f, p, q, e, take_min (get_or cuts i 0) rest, drop_min (get_or cuts i 0) rest, add-one, drop-cons cuts i 0 h)

  pub feed-rest : {after : Feeds} {more : List ℕ} → length cuts ≤ i → after ≡ feed s nodes rest
      → more ≡ set answers i (refusal_in after.answer)
      → (more, after.state, after.nodes) ≡ fed_from answers i s nodes (drop i cuts) rest
  unfolding feed_all cut_at
  feed-rest h f t = rw (t, f, drop_of_length-le cuts h)

-- what begin, the feeds and finish leave is the load in pieces
pub load-left : (announced : ℕ) (layout : Layout) (nodes : Graph) (cuts bytes lent answers : List ℕ)
    {b : Begins} {s : Loader} {after : Graph} {last : Finishes}
    → b ≡ begin announced layout (length nodes) → (answers, s, after) ≡ fed_from lent 0 b.state nodes cuts bytes
    → last ≡ finish s after
    → ◌≡◌ {A = LoadLeft} (record { begun = b.answer; answers = answers; state = s; finished = last.answer; nodes = last.nodes })
    (load_leaves lent (load_pieces announced layout nodes (cut_at cuts bytes)))
unfolding load_pieces fed_pieces
load-left announced layout nodes cuts bytes lent answers p q t =
    let all = feed_all (begin announced layout (length nodes)).state nodes (cut_at cuts bytes) in
    rw (t, ap (λ x. x.0) q, ap (λ x. x.1) q, ap (λ x. x.2) q, p, sets-room lent (length lent) (map refusal_in all.answers) 0 (omega arith))
