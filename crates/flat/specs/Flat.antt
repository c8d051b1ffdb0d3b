-- Flat answers: the number of the refusal, or 0, and the values of an answer as fields. Here is what holds for every call; the files
-- beside this one have each call's own fields, how they are read as document 01's answer, and how an answer fills them.
use Rattle.std.specs.Prelude.{Bool, true, false, ◌||◌, List, [], ◌∷◌, ℕ, eqb, get_or}
use Rattle.answers.specs.Answers.{Answer, gives, nothing, refused, value_at}
use Rattle.node.specs.declared.Layout.{Layout}
use Rattle.node.specs.declared.Layout.TheVariants.{Kwg, Kbwg}

-- a layout's number: 0 is KWG, every other number KBWG
abbrev pub layout_of : ℕ → Layout
layout_of n = elim (eqb n 0) [ true ↦ Kwg | false ↦ Kbwg ]

abbrev pub layout_number : Layout → ℕ
layout_number Kwg = 0
layout_number Kbwg = 1

-- ---- how fields are read
-- "6 node doesn't fit (carries node, tile, arc)", "8 largest arc (carried)", "the lowest-numbered node" (02, C-14) in 12
abbrev pub carried : ℕ → ℕ → ℕ → ℕ → List ℕ
carried n node tile arc =
    elim (eqb n 6) [
      | true ↦ node ∷ tile ∷ arc ∷ []
      | false ↦ elim (eqb n 8) [ true ↦ arc ∷ [] | false ↦ elim (eqb n 12) [ true ↦ node ∷ [] | false ↦ [] ] ]
    ]

-- a refusal with what it carries, or else the answer given
abbrev pub refused_or : ℕ → ℕ → ℕ → ℕ → Answer → Answer
refused_or n node tile arc given = elim (eqb n 0) [ true ↦ given | false ↦ refused n (carried n node tile arc) ]

-- the same for calls whose refusals carry nothing
abbrev pub plainly : ℕ → Answer → Answer
plainly n given = elim (eqb n 0) [ true ↦ given | false ↦ refused n [] ]

-- values, where something is found
abbrev pub found : Bool → List ℕ → Answer
found true vs = gives vs
found false vs = nothing

-- ---- how an answer fills fields: the refusal's number by `refusal_in`, and 0 where it has no value for one
abbrev pub value_in : Answer → ℕ
value_in a = value_at 0 a

abbrev pub is_given : Answer → Bool
is_given (gives vs) = true
is_given nothing = false
is_given (refused n vs) = false

abbrev pub node_carried : Answer → ℕ
node_carried (gives vs) = 0
node_carried nothing = 0
node_carried (refused n vs) = elim (eqb n 6 || eqb n 12) [ true ↦ get_or vs 0 0 | false ↦ 0 ]

abbrev pub tile_carried : Answer → ℕ
tile_carried (gives vs) = 0
tile_carried nothing = 0
tile_carried (refused n vs) = elim (eqb n 6) [ true ↦ get_or vs 1 0 | false ↦ 0 ]

abbrev pub arc_carried : Answer → ℕ
arc_carried (gives vs) = 0
arc_carried nothing = 0
arc_carried (refused n vs) = elim (eqb n 6) [ true ↦ get_or vs 2 0 | false ↦ elim (eqb n 8) [ true ↦ get_or vs 0 0 | false ↦ 0 ] ]
