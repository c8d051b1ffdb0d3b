-- The row of 4: a length that begin refuses, a state that passes, and what follows from passing; the state after some bytes.
use Rattle.std.specs.Prelude.{◌≡◌, true, not, List, [], ℕ, ◌+◌, ◌*◌, ◌%◌, ◌≤◌, eqb, length, drop}
use Rattle.std.proofs.Math.Path.{refl, ap}
use Rattle.std.proofs.Common.{◌∙◌, le-ltb, eq-eqb, ltb-false, eqb-true}
use Rattle.std.proofs.Math.Option.{Option, none, some}
use Rattle.std.proofs.lemmas.Bool.{not-false}
use Rattle.laws.specs.Cases.{is_some, is_none}
use Rattle.answers.specs.Answers.{refused, first_of}
use Rattle.answers.specs.RowLaws.{row-refuses, row-passes, row_ends, row-passed}
use Rattle.node.specs.declared.Layout.{Layout}
use Rattle.endian.specs.Bytes.{part_node}
use Rattle.load.specs.declared.repack.Misfit.{Misfit}
use Rattle.load.specs.Loading.{zeros, begin_row, sound_row, kept_misfit, holding, stopped, misfit_in, state_at, state_after}
use Rattle.load.proofs.BeginLaws.{Takes, takes}
use Rattle.load.specs.declared.loader.Loader.{Loader}

module _ (s : Loader) (lent_nodes : ℕ) where
  pub bad-length : is_some (first_of (begin_row s.announced lent_nodes)) ≡ true → first_of (sound_row s lent_nodes) ≡ some (refused 4 [])
  bad-length e = row-refuses _ _ _ e

  pub sound-state : first_of (begin_row s.announced lent_nodes) ≡ none → s.taken ≤ s.announced → s.held_count ≡ s.taken % 4
      → zeros (drop s.held_count s.held) ≡ true → first_of (sound_row s lent_nodes) ≡ none
  sound-state b t n z =
      row-passes _ _ _ (ap is_some b)
      ∙ row-passes _ _ _ (le-ltb _ _ t)
      ∙ row-passes _ _ _ (ap not (eq-eqb _ _ n))
      ∙ row-passes _ _ _ (ap not z)
      ∙ row_ends

-- a state that passes
pub record Sound (s : Loader) (lent_nodes : ℕ) : Type 0 where
  pub announced : Takes s.announced lent_nodes
  pub taken : s.taken ≤ s.announced
  pub count : s.held_count ≡ s.taken % 4
  pub unused : zeros (drop s.held_count s.held) ≡ true

pub sound : (s : Loader) (lent_nodes : ℕ) → first_of (sound_row s lent_nodes) ≡ none → Sound s lent_nodes
sound s lent_nodes e =
    let a = row-passed _ _ _ e in
    let b = row-passed _ _ _ a.1 in
    let d = row-passed _ _ _ b.1 in
    let f = row-passed _ _ _ d.1 in
    record {
      announced = takes s.announced lent_nodes (is_none (first_of (begin_row s.announced lent_nodes)) a.0);
      taken = ltb-false s.announced s.taken b.0;
      count = eqb-true s.held_count (s.taken % 4) (not-false (eqb s.held_count (s.taken % 4)) d.0);
      unused = not-false (zeros (drop s.held_count s.held)) f.0;
    }

-- ---- the state after some bytes, of which the first begins node k
module _ (announced : ℕ) (layout : Layout) (k : ℕ) (bytes : List ℕ) where
  pub state-stopped : {m : Misfit} → misfit_in layout k bytes ≡ some m → state_after announced layout k bytes ≡ stopped announced layout m
  unfolding state_after
  state-stopped e = ap (λ o. state_at o announced layout k bytes) e

  pub state-holding : misfit_in layout k bytes ≡ none
      → state_after announced layout k bytes ≡ holding announced layout (4 * k + length bytes) (part_node bytes)
  unfolding state_after
  state-holding e = ap (λ o. state_at o announced layout k bytes) e

  pub state-keeps : kept_misfit (state_after announced layout k bytes).kept ≡ misfit_in layout k bytes
  unfolding state_after stopped holding
  state-keeps = kept-is (misfit_in layout k bytes)
    where
      kept-is : (o : Option Misfit) → kept_misfit (state_at o announced layout k bytes).kept ≡ o
      kept-is none = refl
      kept-is (some m) = refl
