-- By word: the walk with a graph's own counts gives each word of a node its number, and none to any other.
use Rattle.std.specs.Prelude.{◌≡◌, refl, true, ◌≢◌, ℕ, suc, ◌+◌, ◌≤◌, ◌<◌, length, get_or, drop}
use Rattle.std.proofs.Common.{ap, ◌∙◌, subst, length-append, get_or-append-add}
use Rattle.std.proofs.Math.Bool.{false}
use mathlib.Core.List.{List, [], ◌∷◌, ◌++◌, Memᴰ}
use native.Mathlib.Omega.{arith}
use Rattle.std.proofs.Math.Dec.{eqb}
use borrow.Author.Tests.{eqb-true, eqb-false, ne_eqb}
use Rattle.std.proofs.lemmas.List.{length-map}
use Rattle.laws.specs.Members.{get_or-map-in}
use Rattle.laws.specs.Cases.{split}
use Rattle.answers.specs.Answers.{Answer, gives, nothing}
use Rattle.lookup.specs.Steps.{Try, on, ◌>>=◌, answer, sum}
use Rattle.node.specs.Nodes.{tile, arc, accepts, accepts_bit, kbwg}
use Rattle.graph.specs.Runs.{Graph, node, ascends}
use Rattle.graph.specs.Words.{Word, spelled, words, count}
use Rattle.laws.specs.Lists.{all_mem}
use Rattle.graph.proofs.WordsAscend.{From, words-nonempty}
use Rattle.lookup.specs.StepsLaws.{sum-on}
use Rattle.lookup.specs.Walks.{find_in, arc_of, passed, passed_after, passed_first, number_ending, index_from, index_of_word}
use Rattle.lookup.specs.WordsBefore.{words_before}
use Rattle.lookup.proofs.FoundLaws.{AllBelow, FoundIs, found_at, found_none, find}
use Rattle.lookup.proofs.WordsBeforeLaws.{before-front, passed-own}
use Rattle.numbers.specs.RunWords.{size, spelled_both, spelled-arc, own-word, own-fits, first_word, size_fits, accepts-one, accepts-zero}
use Rattle.numbers.specs.Walkable.{Walkable}
use Rattle.numbers.specs.WordNumbers.{word_at}
use Rattle.numbers.specs.TileSearch.{in_found, alone, longer}

module _ (g : Graph) (nodes counted : List ℕ) (walk : Walkable g nodes counted) (up : ascends kbwg g ≡ true) (limit : ℕ) where
  abbrev W : ℕ → List Word
  W q = words kbwg g q

  -- one tile, in the run from p: what the search finds, and the words before it
  pass : (p t : ℕ) → p < length g → passed nodes counted p t ≡ (find_in (drop p g) p t >>= λ q. on (q, words_before g p t))
  pass = passed-own g walk.steps up nodes counted walk.same walk.count-lent

  -- a word of the node found
  at-found : (p q : ℕ) (front : List Word) (j : ℕ) → q < length g → W p ≡ front ++ W q → j < size g (node g q)
      → (length front + j < count kbwg g p) × (word_at g p (length front + j) ≡ get_or (spelled kbwg W (node g q)) j [])
  at-found p q front j l f k =
      let c = ap length f ∙ length-append front (W q) in
      let w = first_word g q l (walk.clear q) j k in
      let lt = w.0 in
      (omega arith, ap (λ x. get_or x (length front + j) []) f ∙ get_or-append-add front (W q) j [] ∙ w.1)

  -- the number of a word of the arc among those of the node
  arc-at : (v : ℕ) (j : ℕ) → arc kbwg v ≢ 0 → j < count kbwg g (arc kbwg v)
      → (accepts_bit kbwg v + j < size g v) × (get_or (spelled kbwg W v) (accepts_bit kbwg v + j) [] ≡ tile kbwg v ∷ word_at g (arc kbwg v) j)
  arc-at v j n k =
      let z = ne_eqb (arc kbwg v) 0 n in
      let l = length-map (W (arc kbwg v)) (tile kbwg v ∷◌) in
      split (accepts kbwg v)
      (λ a.
      let e : accepts_bit kbwg v + j ≡ suc j = let o = accepts-one v a in omega arith in
      rw (spelled_both g v a z, e) (omega arith, get_or-map-in (tile kbwg v ∷◌) (W (arc kbwg v)) j [] [] k))
      (λ a.
      let e : accepts_bit kbwg v + j ≡ j = let o = accepts-zero v a in omega arith in
      rw (spelled-arc g v a z, e) (omega arith, get_or-map-in (tile kbwg v ∷◌) (W (arc kbwg v)) j [] [] k))

  -- room for the words of the arc
  arc-fits : (v : ℕ) → arc kbwg v ≢ 0 → accepts_bit kbwg v + count kbwg g (arc kbwg v) ≤ size g v
  arc-fits v n =
      let z = ne_eqb (arc kbwg v) 0 n in
      let l = length-map (W (arc kbwg v)) (tile kbwg v ∷◌) in
      split (accepts kbwg v)
      (λ a. let o = accepts-one v a in rw (spelled_both g v a z) (omega arith))
      (λ a. let o = accepts-zero v a in rw (spelled-arc g v a z) (omega arith))

  -- ---- the tiles after one that led to node q: which of the words that begin there it is
  data TailIs (q base : ℕ) (w : Word) : Answer → Type 0 where
    tail_number : {i n : ℕ} → i < size g (node g q) → get_or (spelled kbwg W (node g q)) i [] ≡ tile kbwg (node g q) ∷ w → n ≡ base + i
        → TailIs q base w (gives (n ∷ []))
    no_tail : (Memᴰ (tile kbwg (node g q) ∷ w) (spelled kbwg W (node g q)) → ⊥) → TailIs q base w nothing

  abbrev Tailed : Word → Type 0
  Tailed w = (q base : ℕ) → q < length g → base + size g (node g q) ≤ limit → TailIs q base w (index_from limit nodes counted (node g q) base w)

  ends-here : (q base : ℕ) → base + size g (node g q) ≤ limit → TailIs q base [] (number_ending limit (node g q) base)
  unfolding number_ending
  ends-here q base k =
      split (accepts kbwg (node g q))
      (λ a.
      let o = own-word g (node g q) a in
      let lt = o.0 in
      let ne : eqb base limit ≡ false = ne_eqb base limit (λ x. omega arith) in
      let b : base ≡ base + 0 = omega arith in
      rw (a, ne, number_ending) (tail_number lt o.1 b))
      (λ a. rw (a, number_ending) (no_tail (alone g (node g q) a)))

  -- from the words of the node found to those of the node whose arc leads there
  lifted : (q base s : ℕ) (front : List Word) (us : Word) → s < length g → arc kbwg (node g q) ≢ 0 → W (arc kbwg (node g q)) ≡ front ++ W s
      → AllBelow (tile kbwg (node g s)) front → (next : ℕ) → next ≡ base + accepts_bit kbwg (node g q) + length front
      → {x : Answer} → TailIs s next us x → TailIs q base (tile kbwg (node g s) ∷ us) x
  lifted q base s front us l nz f a next b (tail_number {i} {n} lt w c) =
      let y = at-found (arc kbwg (node g q)) s front i l f lt in
      let z = arc-at (node g q) (length front + i) nz y.0 in
      let d : n ≡ base + (accepts_bit kbwg (node g q) + (length front + i)) = omega arith in
      tail_number z.0 (z.1 ∙ ap (tile kbwg (node g q) ∷◌) (y.1 ∙ w)) d
  lifted q base s front us l nz f a next b (no_tail h) =
      no_tail (λ m. h (in_found g nodes counted walk up (arc kbwg (node g q)) s front us l f a (longer g (node g q) (tile kbwg (node g s)) us m).1))

  -- what the walk gives once the run of the next tile is searched
  abbrev onward : ℕ → ℕ → Word → Try ℕ → Answer
  onward here before us r =
      answer (◌>>=◌ {A = ℕ × ℕ} (r >>= λ s. on (s, before)) (λ (s, b). sum limit here b >>= λ next. on (index_from limit nodes counted (node nodes s) next us)))

  further : (q base t : ℕ) (us : Word) → Tailed us → arc kbwg (node g q) ≢ 0 → base + size g (node g q) ≤ limit
      → (r : Try ℕ) → FoundIs g walk.steps up (arc kbwg (node g q)) t r
      → TailIs q base (t ∷ us) (onward (base + accepts_bit kbwg (node g q)) (words_before g (arc kbwg (node g q)) t) us r)
  further q base t us ih nz k r (found_none n) = no_tail (λ m. n us (longer g (node g q) t us m).1)
  further q base t us ih nz k r (found_at {q = s} l e _ front f a) =
      let c = ap length f ∙ length-append front (W s) in
      let fits = size_fits g s l (walk.clear s) in
      let room = arc-fits (node g q) nz in
      let next = base + accepts_bit kbwg (node g q) + length front in
      rw (before-front g (arc kbwg (node g q)) s t front up l e f a)
      (rw (sum-on limit (base + accepts_bit kbwg (node g q)) (length front) (omega arith), (walk.same s l).1)
      (subst (λ x. TailIs q base (x ∷ us) (index_from limit nodes counted (node g s) next us)) e
      (lifted q base s front us l nz f (rw e a) next refl (ih s next l (omega arith)))))

  tailed : (w : Word) → Tailed w
  unfolding index_from passed_after arc_of
  tailed [] q base l k = ends-here q base k
  tailed (t ∷ us) q base l k =
      let own = own-fits g (node g q) in
      rw (sum-on limit base (accepts_bit kbwg (node g q)) (omega arith))
      (split (eqb (arc kbwg (node g q)) 0)
      (λ z. rw (z, arc_of) (no_tail (λ m. (longer g (node g q) t us m).0 (eqb-true (arc kbwg (node g q)) 0 z))))
      (λ z. rw (z, arc_of)
      (let first = arc kbwg (node g q) in
      let inside = walk.steps.arcs q l in
      rw (pass first t inside)
      (further q base t us (tailed us) (eqb-false first 0 z) k (find_in (drop first g) first t) (find g walk.steps up first t inside)))))

  -- ---- the whole word
  pub data IndexIs (p : ℕ) (w : Word) : Answer → Type 0 where
    number : {i : ℕ} → i < count kbwg g p → word_at g p i ≡ w → IndexIs p w (gives (i ∷ []))
    no_word : (Memᴰ w (W p) → ⊥) → IndexIs p w nothing

  no-empty : (p : ℕ) → Memᴰ [] (W p) → ⊥
  no-empty p m = all_mem (From 0) (W p) [] (words-nonempty kbwg g p) m

  begun : (p q : ℕ) (front : List Word) (us : Word) → q < length g → W p ≡ front ++ W q → AllBelow (tile kbwg (node g q)) front
      → {x : Answer} → TailIs q (length front) us x → IndexIs p (tile kbwg (node g q) ∷ us) x
  begun p q front us l f a (tail_number {i} lt w c) =
      let y = at-found p q front i l f lt in
      rw c (number y.0 (y.1 ∙ w))
  begun p q front us l f a (no_tail h) = no_word (λ m. h (in_found g nodes counted walk up p q front us l f a m))

  first-tile : (p t : ℕ) (us : Word) → count kbwg g p ≤ limit → (r : Try ℕ) → FoundIs g walk.steps up p t r
      → IndexIs p (t ∷ us)
      (answer (◌>>=◌ {A = ℕ × ℕ} (r >>= λ q. on (q, words_before g p t)) (λ (q, before). on (index_from limit nodes counted (node nodes q) before us))))
  first-tile p t us k r (found_none n) = no_word (n us)
  first-tile p t us k r (found_at {q} l e _ front f a) =
      let c = ap length f ∙ length-append front (W q) in
      let fits = size_fits g q l (walk.clear q) in
      rw (before-front g p q t front up l e f a, (walk.same q l).1)
      (subst (λ x. IndexIs p (x ∷ us) (index_from limit nodes counted (node g q) (length front) us)) e
      (begun p q front us l f (rw e a) (tailed us q (length front) l (omega arith))))

  -- the walk finds the number of the word, from every node above 0
  pub indexed : (w : Word) (p : ℕ) → p < length g → p ≢ 0 → count kbwg g p ≤ limit → IndexIs p w (index_of_word limit nodes counted p w)
  unfolding index_of_word passed_first
  indexed [] p h n k = no_word (no-empty p)
  indexed (t ∷ us) p h n k =
      rw (ne_eqb p 0 n) (rw (walk.count-lent p h) (rw (pass p t h)
      (first-tile p t us k (find_in (drop p g) p t) (find g walk.steps up p t h))))
