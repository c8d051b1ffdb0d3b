-- The row of a state's checks past those of 4, and what feed does, by the facts that decide it.
use Rattle.std.specs.Prelude.{◌≡◌, refl, List, [], ℕ, ◌+◌, ◌≤◌, ◌<◌, length}
use Rattle.std.proofs.Math.Path.{ap}
use Rattle.std.proofs.Common.{sym, ◌∙◌, ltb-false, lt-ltb, le-ltb}
use Rattle.std.proofs.Math.Option.{Option, none, some}
use Rattle.answers.specs.Answers.{Answer, refused, first_of}
use Rattle.answers.specs.RowLaws.{row-refuses, row-passes, row_ends, row-passed, rows_refuse, rows_pass, rows-passed}
use Rattle.graph.specs.Runs.{Graph}
use Rattle.load.specs.Repacking.{misfit_answer}
use Rattle.load.specs.Loading.{sound_row, kept_misfit, kept_row, state_row, feed_row, feeds, feed}
use Rattle.load.proofs.StateLaws.{Sound, sound}
use Rattle.load.specs.declared.repack.Misfit.{Misfit}
use Rattle.load.specs.declared.loader.Loader.{Loader}

module _ (s : Loader) (lent_nodes : ℕ) (ok : first_of (sound_row s lent_nodes) ≡ none) where
  pub state-kept : {m : Misfit} → kept_misfit s.kept ≡ some m → first_of (state_row s lent_nodes) ≡ some (misfit_answer (some m))
  state-kept k = rows_pass (sound_row s lent_nodes) _ ok ∙ ap (λ o. first_of (kept_row o)) k ∙ row-refuses _ _ _ refl

  pub state-passes : kept_misfit s.kept ≡ none → first_of (state_row s lent_nodes) ≡ none
  state-passes k = rows_pass (sound_row s lent_nodes) _ ok ∙ ap (λ o. first_of (kept_row o)) k ∙ row_ends

-- what holds of a state and a piece that pass
pub feed-passed : (s : Loader) (lent_nodes : ℕ) (piece : List ℕ) → first_of (feed_row s lent_nodes piece) ≡ none
    → Sound s lent_nodes × (s.taken + length piece ≤ s.announced)
feed-passed s lent_nodes piece e =
    let state = rows-passed (state_row s lent_nodes) _ e in
    let last = row-passed _ _ _ (sym (rows_pass (state_row s lent_nodes) _ state) ∙ e) in
    (sound s lent_nodes (rows-passed (sound_row s lent_nodes) _ state), ltb-false s.announced (s.taken + length piece) last.0)

-- ---- feed
module _ (s : Loader) (nodes : Graph) (piece : List ℕ) where
  feed-by : (o : Option Answer) → first_of (feed_row s (length nodes) piece) ≡ o → feed s nodes piece ≡ feeds o s nodes piece
  unfolding feed
  feed-by o e = ap (λ p. feeds p s nodes piece) e

  pub feed-unsound : first_of (sound_row s (length nodes)) ≡ some (refused 4 []) → feed s nodes piece ≡ feeds (some (refused 4 [])) s nodes piece
  feed-unsound e = feed-by _ (rows_refuse (sound_row s (length nodes)) _ e)

  module _ (ok : first_of (sound_row s (length nodes)) ≡ none) where
    pub feed-kept : {m : Misfit} → kept_misfit s.kept ≡ some m → feed s nodes piece ≡ feeds (some (misfit_answer (some m))) s nodes piece
    feed-kept k = feed-by _ (rows_refuse (state_row s (length nodes)) _ (state-kept s (length nodes) ok k))

    module _ (k : kept_misfit s.kept ≡ none) where
      pub feed-long : s.announced < s.taken + length piece → feed s nodes piece ≡ feeds (some (refused 5 [])) s nodes piece
      feed-long h =
          feed-by _ (rows_pass (state_row s (length nodes)) _ (state-passes s (length nodes) ok k) ∙ row-refuses _ _ _ (lt-ltb _ _ h))

      pub feed-reads : s.taken + length piece ≤ s.announced → feed s nodes piece ≡ feeds none s nodes piece
      feed-reads h =
          feed-by _ (rows_pass (state_row s (length nodes)) _ (state-passes s (length nodes) ok k) ∙ row-passes _ _ _ (le-ltb _ _ h) ∙ row_ends)
