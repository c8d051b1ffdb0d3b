-- What packing answers, by whether the fields fit, and whether they fit, by the answer.
use Rattle.std.specs.Prelude.{◌≡◌, true, false, [], ◌∷◌, ℕ}
use Rattle.std.proofs.Common.{sym, ◌∙◌}
use Rattle.laws.specs.Cases.{split}
use Rattle.answers.specs.Answers.{gives, refused}
use Rattle.answers.specs.RowLaws.{gives≢refused}
use Rattle.node.specs.Nodes.{BitLayout, Tile, Arc, Values, fits, packed}
use Rattle.node.specs.Said.{pack_answer}

module _ (y : BitLayout) (x : Values) where
  pub pack-fitting : fits y x ≡ true → pack_answer y x ≡ gives (packed y x ∷ [])
  unfolding pack_answer
  pack-fitting e = rw (e, pack_answer)

  pub pack-misfit : fits y x ≡ false → pack_answer y x ≡ refused 6 (x Tile ∷ x Arc ∷ [])
  unfolding pack_answer
  pack-misfit e = rw (e, pack_answer)

  -- ---- from the answer
  pub node-answered : {v : ℕ} → gives (v ∷ []) ≡ pack_answer y x → (fits y x ≡ true) × (packed y x ≡ v)
  node-answered {v} e =
      split (fits y x)
      (λ f. let h = e ∙ pack-fitting f in (f, cc))
      (λ f. gives≢refused (e ∙ pack-misfit f))

  pub misfit-answered : {t r : ℕ} → refused 6 (t ∷ r ∷ []) ≡ pack_answer y x → (fits y x ≡ false) × (t ≡ x Tile) × (r ≡ x Arc)
  misfit-answered {t} {r} e =
      split (fits y x)
      (λ f. gives≢refused (sym (e ∙ pack-fitting f)))
      (λ f. let h = e ∙ pack-misfit f in (f, cc, cc))
