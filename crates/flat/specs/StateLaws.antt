-- A flat state is read back as the state that it was made of: field by field, with the two cases of the layout and of the kept refusal.
use Rattle.std.specs.Prelude.{◌≡◌, refl, Option, None, Some}
use Rattle.std.proofs.Common.{sym, ap, ◌∙◌}
use Rattle.answers.specs.Answers.{refusal_in}
use Rattle.node.specs.declared.Layout.{Layout}
use Rattle.node.specs.declared.Layout.TheVariants.{Kwg, Kbwg}
use Rattle.load.specs.declared.repack.Misfit.{Misfit}
use Rattle.load.specs.declared.loader.Loader.{Loader}
use Rattle.flat.specs.Flat.{layout_of, layout_number, node_carried, tile_carried, arc_carried}
use Rattle.flat.specs.FlatLoads.{kept_of, kept_answer, state_of, flat_loader}
use Rattle.flat.specs.declared.loading.FlatLoader.{FlatLoader}

layout-back : (y : Layout) → layout_of (layout_number y) ≡ y
layout-back Kwg = refl
layout-back Kbwg = refl

kept_back : (k : Option Misfit) → let a = kept_answer k in kept_of (refusal_in a) (node_carried a) (tile_carried a) (arc_carried a) ≡ k
kept_back None = refl
kept_back (Some m) = refl

state-back : (s : Loader) → state_of (flat_loader s) ≡ s
state-back s = λ i.
    record {
      announced = s.announced;
      layout = layout-back s.layout i;
      taken = s.taken;
      held = s.held;
      held_count = s.held_count;
      kept = kept_back s.kept i;
    }

module _ {f : FlatLoader} (s : Loader) (e : f ≡ flat_loader s) where
  pub reads-state : state_of f ≡ s
  reads-state = ap state_of e ∙ state-back s

  pub flat-state : f ≡ flat_loader (state_of f)
  flat-state = e ∙ ap flat_loader (sym reads-state)
