-- The flat answer of building: how many nodes the graph has.
use Rattle.std.specs.Prelude.{[], ◌∷◌}
use Rattle.answers.specs.Answers.{Answer, gives, refusal_in}
use Rattle.graph.specs.Runs.{Graph}
use Rattle.built.specs.Build.{Building}
use Rattle.flat.specs.Flat.{plainly, value_in}
use Rattle.flat.specs.declared.building.FlatBuilt.{FlatBuilt}

-- "The answer is its node count."
abbrev pub built_of : FlatBuilt → Answer
built_of r = plainly r.refusal (gives (r.nodes ∷ []))

-- a call's answer, and the nodes after it
abbrev pub building_of : FlatBuilt → Graph → Building
building_of r after = record { answer = built_of r; nodes = after }

abbrev pub flat_built : Answer → FlatBuilt
flat_built a = record { refusal = refusal_in a; nodes = value_in a }
