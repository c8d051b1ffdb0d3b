-- Alpha sets, from document 01, "Letter and alpha sets", as the Rust walks: "three nested loops: letters, copies of a letter, nodes of
-- the run".
use Rattle.std.specs.Prelude.{Bool, true, false, List, [], ◌∷◌, ℕ, zero, suc, eqb, ltb, length, drop}
use Rattle.answers.specs.Answers.{Answer, gives, nothing, refused, refusing, Row, first_of, or_else}
use Rattle.node.specs.Nodes.{tile, arc, accepts, kbwg, is_end}
use Rattle.graph.specs.Runs.{Graph}
use Rattle.lookup.specs.Steps.{Try, on, stop, ◌>>=◌, answer, lent_part, lent}
use Rattle.lookup.specs.Walks.{step_to}
use Rattle.laws.specs.BitSets.{marked}
use Rattle.base.specs.Numbers.{flag}

-- "17+ tally over 64"
abbrev pub tally_row : List ℕ → Row
tally_row tally = (ltb 64 (length tally), refusing 17 []) ∷ []

-- ---- along the letters left
module _ (g : Graph) where
  -- "copies of a letter": n of the letter t, from p
  unfoldable pub copies : ℕ → ℕ → ℕ → Try ℕ
  copies zero t p = on p
  copies (suc n) t p = step_to g p t >>= λ q. copies n t q

  -- "letters": those from t on, as many of each as the list says
  unfoldable pub spent : ℕ → List ℕ → ℕ → Try ℕ
  spent t [] p = on p
  spent t (n ∷ ns) p = copies n t p >>= λ q. spent (suc t) ns q

  -- whether they lead to a node that accepts
  unfoldable pub accepts_at : Try ℕ → Try Bool
  accepts_at (on q) = lent g q >>= λ v. on (accepts kbwg v)
  accepts_at (stop (gives vs)) = stop (gives vs)
  accepts_at (stop nothing) = on false
  accepts_at (stop (refused n vs)) = stop (refused n vs)

  -- whether the letters of the tally from t on lead from p to a node that accepts
  unfoldable pub completes : List ℕ → ℕ → ℕ → Try Bool
  completes tally t p = accepts_at (spent t (drop t tally) p)

-- ---- the cross set
-- after the last letter: the tiles that accept in the run that begins at the head of the nodes left, over the set s
unfoldable pub closing : Graph → ℕ → Answer
closing [] s = refused 14 []
closing (v ∷ vs) s =
    elim (is_end kbwg v) [
      | true ↦ gives (marked s (tile kbwg v) (accepts kbwg v) ∷ [])
      | false ↦ closing vs (marked s (tile kbwg v) (accepts kbwg v))
    ]

module _ (g : Graph) (tally : List ℕ) where
  -- "nodes of the run", for the letter t, with the set s so far: over, or on by t's arc to what follows
  unfoldable pub along : ℕ → (ℕ → ℕ → Answer) → Graph → ℕ → ℕ → Answer
  along t follows [] p s = refused 14 []
  along t follows (v ∷ vs) p s =
      elim (ltb t (tile kbwg v)) [
        | true ↦ gives (s ∷ [])
        | false ↦ elim (eqb (tile kbwg v) t) [
          | true ↦ elim (eqb (arc kbwg v) 0) [ true ↦ gives (s ∷ []) | false ↦ follows (arc kbwg v) s ]
          | false ↦ elim (completes g tally t p) [
            | stop r ↦ r
            | on b ↦ elim (is_end kbwg v) [
              | true ↦ gives (marked s (tile kbwg v) b ∷ [])
              | false ↦ along t follows vs (suc p) (marked s (tile kbwg v) b)
            ]
          ]
        ]
      ]

  -- "copies of a letter"
  unfoldable pub cross_copies : ℕ → ℕ → (ℕ → ℕ → Answer) → ℕ → ℕ → Answer
  cross_copies zero t follows p s = follows p s
  cross_copies (suc n) t follows p s = along t (λ q u. cross_copies n t follows q u) (drop p g) p s

  -- "letters"
  unfoldable pub cross_letters : ℕ → List ℕ → ℕ → ℕ → Answer
  cross_letters t [] p s = closing (drop p g) s
  cross_letters t (n ∷ ns) p s = cross_copies n t (λ q u. cross_letters (suc t) ns q u) p s

  -- "Tally entry 0 is unread; bit 0 is always set"
  unfoldable pub cross_from : Answer
  cross_from = answer do
    v ← lent g 0
    on (elim (eqb (arc kbwg v) 0) [ true ↦ gives (1 ∷ []) | false ↦ cross_letters 1 (drop 1 tally) (arc kbwg v) 1 ])

-- ---- the calls, over what is lent
-- "an empty tally accepts as node 0 does": 1 for yes, 0 for no
unfoldable pub accepts_alpha : Graph → List ℕ → Answer
accepts_alpha g tally =
    or_else (first_of (tally_row tally)) (answer (completes (lent_part g) tally 1 0 >>= λ b. on (gives (flag b ∷ []))))

-- the row "17+ tally over 64", then the walk
unfoldable pub cross_set : Graph → List ℕ → Answer
cross_set g tally = or_else (first_of (tally_row tally)) (cross_from (lent_part g) tally)
