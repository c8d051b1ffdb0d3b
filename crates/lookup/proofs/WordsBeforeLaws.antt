-- Run lookup names the words before the tile, in a graph that loads and whose runs ascend, lent with its own counts.
use Rattle.std.specs.Prelude.{◌≡◌, true, false, List, [], ◌∷◌, ◌++◌, ℕ, ◌-◌, ◌<◌, eqb, drop}
use Rattle.std.proofs.Math.Path.{refl, ap}
use Rattle.std.proofs.Common.{◌∙◌, subst, le-ltb}
use Rattle.std.proofs.Math.Option.{none}
use native.Mathlib.Omega.{arith}
use Rattle.std.proofs.Math.ListN.{length, length-append}
use Rattle.laws.specs.Cases.{split}
use Rattle.laws.specs.Lists.{All, filtered}
use Rattle.answers.specs.Answers.{gives, first_of}
use Rattle.node.specs.Nodes.{kbwg, tile, arc}
use Rattle.graph.specs.Runs.{Graph, node, ascends}
use Rattle.graph.specs.Words.{Word, words, count}
use Rattle.graph.specs.Checks.{graph_row}
use Rattle.graph.specs.ChecksLaws.{Closed, fit}
use Rattle.graph.proofs.WordsAscend.{From, words-from-tile}
use Rattle.lookup.specs.Steps.{Try, on, stop, ◌>>=◌, answer, lent_part, lent}
use Rattle.lookup.specs.StepsLaws.{lent-on, difference-on}
use Rattle.lookup.specs.Walks.{find_in, arc_of, step_to, words_between, passed, passed_after, passed_from, seek}
use Rattle.lookup.specs.GraphLent.{GraphLent, at_head, count-lent-at, lent-parts}
use Rattle.lookup.specs.WordsBefore.{begins_below, words_before, named_before}
use Rattle.lookup.proofs.FoundLaws.{AllBelow, FoundIs, found_at, found_none, find, find-same}

-- ---- of words that begin below a tile and then others those before the others are counted
not-below : (t : ℕ) (w : Word) → From t w → begins_below t w ≡ false
not-below t [] f = refl
not-below t (a ∷ w) f = le-ltb a t f

none_below : (t : ℕ) (l : List Word) → All (From t) l → filtered (begins_below t) l ≡ []
none_below t [] f = refl
none_below t (w ∷ l) f = rw (not-below t w f.0, filtered) (none_below t l f.1)

all-below : (t : ℕ) (front rest : List Word) → AllBelow t front → All (From t) rest → length (filtered (begins_below t) (front ++ rest)) ≡ length front
all-below t [] rest a f = ap length (none_below t rest f)
all-below t (w ∷ front) rest a f = rw (a.0, filtered) (rw (all-below t front rest a.1 f))

-- the words before the tile are those before the node that is found for it
pub before-front : (g : Graph) (p q t : ℕ) (front : List Word) → ascends kbwg g ≡ true → q < length g → tile kbwg (node g q) ≡ t
    → words kbwg g p ≡ front ++ words kbwg g q → AllBelow t front → words_before g p t ≡ length front
unfolding words_before
before-front g p q t front up l e f a =
    rw f (all-below t front (words kbwg g q) a (subst (λ x. All (From x) (words kbwg g q)) e (words-from-tile kbwg g up q l)))

-- ---- where the graph's nodes and counts are lent
module _ (g : Graph) (steps : Closed g) (up : ascends kbwg g ≡ true) (nodes counted : List ℕ)
    (same : (p : ℕ) → p < length g → (p < length nodes) × (node nodes p ≡ node g p))
    (own : (p : ℕ) → p < length g → lent counted p ≡ on (count kbwg g p)) where
  found_before : (p t : ℕ) → p < length g → (r : Try ℕ) → FoundIs g steps up p t r
      → ◌>>=◌ {B = ℕ × ℕ} r (λ q. words_between counted p q >>= λ before. on (q, before)) ≡ (r >>= λ q. on (q, words_before g p t))
  unfolding words_between
  found_before p t h r (found_none k) = refl
  found_before p t h r (found_at {q} l e k front f a) =
      let c = ap length f ∙ length-append front (words kbwg g q) in
      let w = before-front g p q t front up l e f a in
      let before : count kbwg g p - count kbwg g q ≡ words_before g p t = omega arith in
      rw (own p h) (rw (own q l) (rw (difference-on (count kbwg g p) (count kbwg g q) (omega arith)) (ap (λ b. on (q, b)) before)))

  pub passed-own : (p t : ℕ) → p < length g → passed nodes counted p t ≡ (find_in (drop p g) p t >>= λ q. on (q, words_before g p t))
  unfolding passed
  passed-own p t h = rw (find-same g steps nodes same p t h) (found_before p t h (find_in (drop p g) p t) (find g steps up p t h))

  -- in the run that the arc of a node leads to
  from-own : (p t : ℕ) → p < length g
      → passed_from nodes counted p t ≡ (step_to g p t >>= λ q. on (q, words_before g (arc kbwg (node g p)) t))
  unfolding passed_from passed_after step_to arc_of
  from-own p t h =
      rw (lent-on nodes p (same p h).0, (same p h).1, lent-on g p h)
      (split (eqb (arc kbwg (node g p)) 0)
      (λ z. rw (z, arc_of))
      (λ z. rw (z, arc_of) (passed-own (arc kbwg (node g p)) t (steps.arcs p h))))

answered : (x : Try ℕ) (b : ℕ)
    → answer (◌>>=◌ {A = ℕ × ℕ} (x >>= λ q. on (q, b)) (λ (q, before). on (gives (q ∷ before ∷ [])))) ≡ answer (x >>= λ q. on (gives (q ∷ b ∷ [])))
answered (on q) b = refl
answered (stop r) b = refl

pub seek-names : (nodes counted : List ℕ) (p t : ℕ) (g : Graph) → first_of (graph_row g) ≡ none → ascends kbwg g ≡ true
    → GraphLent g nodes counted → p < length g → seek nodes counted p t ≡ named_before g p t
unfolding seek named_before
seek-names nodes counted p t g e up is h =
    let fits = fit g e in
    let parts = lent-parts g nodes counted is fits in
    let same = at_head g (lent_part nodes) parts.nodes-are in
    let own = count-lent-at g (lent_part nodes) (lent_part counted) parts in
    rw (from-own g fits.steps up (lent_part nodes) (lent_part counted) same own p t h)
    (answered (step_to g p t) (words_before g (arc kbwg (node g p)) t))
