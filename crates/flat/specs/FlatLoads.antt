-- The flat answers of repacking and loading, and a load's flat state.
use Rattle.std.specs.Prelude.{true, false, List, [], ◌∷◌, ℕ, eqb, Option, None, Some}
use Rattle.answers.specs.Answers.{Answer, gives, refusal_in}
use Rattle.graph.specs.Runs.{Graph}
use Rattle.load.specs.Repacking.{misfit, misfit_answer}
use Rattle.load.specs.Loading.{kept_misfit, Begins, Feeds, Finishes}
use Rattle.load.specs.declared.repack.Misfit.{Misfit}
use Rattle.load.specs.declared.loader.Loader.{Loader}
use Rattle.pieces.specs.Said.{LoadLeft}
use Rattle.flat.specs.Flat.{layout_of, layout_number, refused_or, plainly, value_in, node_carried, tile_carried, arc_carried}
use Rattle.flat.specs.declared.loading.FlatRepacked.{FlatRepacked}
use Rattle.flat.specs.declared.loading.FlatLoader.{FlatLoader}
use Rattle.flat.specs.declared.loading.FlatBegun.{FlatBegun}
use Rattle.flat.specs.declared.loading.FlatFed.{FlatFed}
use Rattle.flat.specs.declared.loading.FlatFinished.{FlatFinished}
use Rattle.flat.specs.declared.loading.FlatLoaded.{FlatLoaded}

-- ---- repacking
abbrev pub repacked_of : FlatRepacked → Answer
repacked_of r = refused_or r.refusal r.node r.tile r.arc (gives [])

abbrev pub flat_repacked : Answer → FlatRepacked
flat_repacked a = record { refusal = refusal_in a; arc = arc_carried a; node = node_carried a; tile = tile_carried a }

-- ---- the state: "a refusal 6 once met" is kept where the state's refusal is not 0
abbrev pub kept_of : ℕ → ℕ → ℕ → ℕ → Option Misfit
kept_of n node tile arc = elim (eqb n 0) [ true ↦ None | false ↦ Some (misfit node tile arc) ]

abbrev pub state_of : FlatLoader → Loader
state_of s =
    record {
      announced = s.announced;
      layout = layout_of s.layout;
      taken = s.taken;
      held = s.held;
      held_count = s.held_count;
      kept = kept_of s.refusal s.node s.tile s.arc;
    }

abbrev pub kept_answer : Option Misfit → Answer
kept_answer k = misfit_answer (kept_misfit k)

abbrev pub flat_loader : Loader → FlatLoader
flat_loader s =
    record {
      announced = s.announced;
      taken = s.taken;
      held_count = s.held_count;
      node = node_carried (kept_answer s.kept);
      layout = layout_number s.layout;
      refusal = refusal_in (kept_answer s.kept);
      arc = arc_carried (kept_answer s.kept);
      tile = tile_carried (kept_answer s.kept);
      held = s.held;
    }

-- ---- begin, feed and finish
abbrev pub begun_of : FlatBegun → Begins
begun_of r = record { answer = plainly r.refusal (gives []); state = state_of r.loader }

abbrev pub flat_begun : Begins → FlatBegun
flat_begun b = record { refusal = refusal_in b.answer; loader = flat_loader b.state }

abbrev pub fed_of : FlatFed → Graph → Feeds
fed_of r nodes =
    record {
      answer = refused_or r.refusal r.node r.tile r.arc (gives []);
      state = state_of r.loader;
      nodes = nodes;
    }

abbrev pub flat_fed : Feeds → FlatFed
flat_fed f =
    record {
      refusal = refusal_in f.answer;
      arc = arc_carried f.answer;
      node = node_carried f.answer;
      tile = tile_carried f.answer;
      loader = flat_loader f.state;
    }

abbrev pub finished_of : FlatFinished → Answer
finished_of r = refused_or r.refusal r.node r.tile r.arc (gives (r.nodes ∷ []))

abbrev pub finishes_of : FlatFinished → Graph → Finishes
finishes_of r nodes = record { answer = finished_of r; nodes = nodes }

abbrev pub flat_finished : Answer → FlatFinished
flat_finished a = record { refusal = refusal_in a; arc = arc_carried a; nodes = value_in a; node = node_carried a; tile = tile_carried a }

-- ---- a whole load, with the lists that it left
abbrev pub loaded_of : FlatLoaded → List ℕ → Graph → LoadLeft
loaded_of r answers nodes =
    record {
      begun = plainly r.begun (gives []);
      answers = answers;
      state = state_of r.loader;
      finished = finished_of r.finished;
      nodes = nodes;
    }

abbrev pub flat_loaded : LoadLeft → FlatLoaded
flat_loaded l = record { begun = refusal_in l.begun; loader = flat_loader l.state; finished = flat_finished l.finished }
