-- The node that a step finds is lent.
use Rattle.std.proofs.Common.{◌≡◌, refl, ap, ◌∙◌, not, List, ℕ, ◌<◌, eqb, length, drop}
use Rattle.answers.specs.Answers.{nothing}
use Rattle.graph.specs.Runs.{Graph}
use Rattle.lookup.specs.Steps.{Try, on, stop, ◌>>=◌, require, lent}
use Rattle.lookup.specs.StepsLaws.{on_eq, stop-on}
use Rattle.lookup.specs.Walks.{find_in, arc_of, words_between, passed, passed_after, passed_from, passed_first}
use Rattle.lookup.proofs.RunSearchLaws.{found-lent}

on-parts : {A B : Type 0} (x : Try A) (f : A → Try B) {b : B} → (x >>= f) ≡ on b → (a : A) × (x ≡ on a) × (f a ≡ on b)
on-parts (on a) f e = (a, refl, e)
on-parts (stop r) f e = stop-on e

module _ (g : Graph) (counts : List ℕ) (p t : ℕ) {q b : ℕ} where
  passed-lent : passed g counts p t ≡ on (q, b) → q < length g
  unfolding passed
  passed-lent e =
      let f = on-parts (find_in (drop p g) p t) _ e in
      let s = on-parts (words_between counts p f.0) _ f.2 in
      found-lent g p t q (f.1 ∙ ap on (ap (λ x. x.0) (on_eq s.2)))

pub passed-after-lent : (g : Graph) (counts : List ℕ) (v t : ℕ) {q b : ℕ} → passed_after g counts v t ≡ on (q, b) → q < length g
unfolding passed_after
passed-after-lent g counts v t e = let f = on-parts (arc_of v) _ e in passed-lent g counts f.0 t f.2

pub passed-from-lent : (g : Graph) (counts : List ℕ) (p t : ℕ) {q b : ℕ} → passed_from g counts p t ≡ on (q, b) → q < length g
unfolding passed_from
passed-from-lent g counts p t e = let f = on-parts (lent g p) _ e in passed-after-lent g counts f.0 t f.2

pub passed-first-lent : (g : Graph) (counts : List ℕ) (start t : ℕ) {q b : ℕ} → passed_first g counts start t ≡ on (q, b) → q < length g
unfolding passed_first
passed-first-lent g counts start t e =
    let f = on-parts (require (not (eqb start 0)) nothing) _ e in
    let s = on-parts (lent counts start) _ f.2 in
    passed-lent g counts start t s.2
