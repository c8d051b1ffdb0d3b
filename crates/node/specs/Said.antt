-- What the answers of this crate's calls say, and what packing answers by document 01.
use Rattle.std.specs.Prelude.{true, false, [], ◌∷◌, ℕ, Result}
use Rattle.answers.specs.Answers.{Answer, gives, refused, Refusal, refusing, said_result}
use Rattle.node.specs.Nodes.{BitLayout, kwg, kbwg, Tile, Arc, tile, accepts, is_end, arc, Values, values, fits, packed, fields as field_values}
use Rattle.node.specs.declared.Layout.{Layout}
use Rattle.node.specs.declared.Layout.TheVariants.{Kwg, Kbwg}
use Rattle.node.specs.declared.Fields.{Fields}
use Rattle.node.specs.declared.DoesNotFit.{DoesNotFit}

abbrev pub bit_layout : Layout → BitLayout
bit_layout Kwg = kwg
bit_layout Kbwg = kbwg

-- what a node holds, and as a value for each field
abbrev pub fields_of : BitLayout → ℕ → Fields
fields_of y v = record { tile = tile y v; accepts = accepts y v; is_end = is_end y v; arc_index = arc y v }

abbrev pub values_of : Fields → Values
values_of f = values f.tile f.accepts f.is_end f.arc_index

-- 6 "carries node, tile, arc"; a node by itself has no number, so it carries the other two
abbrev pub does_not_fit : DoesNotFit → Refusal
does_not_fit m = refusing 6 (m.tile ∷ m.arc_index ∷ [])

abbrev pub said_node : Result ℕ DoesNotFit → Answer
said_node r = said_result (λ v. gives (v ∷ [])) does_not_fit r

unfoldable pub pack_answer : BitLayout → Values → Answer
pack_answer y x = elim (fits y x) [ true ↦ gives (packed y x ∷ []) | false ↦ refused 6 (x Tile ∷ x Arc ∷ []) ]

-- "`repack_in_place` goes either way": the same fields in the other layout
abbrev pub repack_node_answer : BitLayout → BitLayout → ℕ → Answer
repack_node_answer old new v = pack_answer new (field_values old v)
