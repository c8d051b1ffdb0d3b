-- What the calls on single nodes reply to the words of a case.
use Rattle.std.specs.Prelude.{not, List, [], ◌∷◌, ℕ, ◌%◌, eqb, get_or}
use Rattle.base.specs.Numbers.{flag}
use Rattle.answers.specs.Answers.{Answer, gives, nothing, refused}
use Rattle.node.specs.Nodes.{BitLayout, tile, accepts, is_end, arc, values}
use Rattle.node.specs.Said.{bit_layout, pack_answer, repack_node_answer}
use Rattle.flat.specs.Flat.{layout_of}

-- an answer in numbers: 0 and its values, 1 for none, or the number of the refusal and what it carries
abbrev pub answer_numbers : Answer → List ℕ
answer_numbers (gives vs) = 0 ∷ vs
answer_numbers nothing = 1 ∷ []
answer_numbers (refused n vs) = n ∷ vs

abbrev pub layout_at : List ℕ → ℕ → BitLayout
layout_at ws i = bit_layout (layout_of (get_or ws i 0))

unfoldable pub fields_of : BitLayout → ℕ → List ℕ
fields_of y v = tile y v ∷ flag (accepts y v) ∷ flag (is_end y v) ∷ arc y v ∷ []

-- LAYOUT NODE
unfoldable pub fields_reply : List ℕ → List ℕ
fields_reply ws = fields_of (layout_at ws 0) (get_or ws 1 0)

-- LAYOUT TILE ACCEPTS END ARC
unfoldable pub pack_reply : List ℕ → List ℕ
pack_reply ws =
    answer_numbers (pack_answer (layout_at ws 0) (values (get_or ws 1 0 % 256) (not (eqb (get_or ws 2 0) 0)) (not (eqb (get_or ws 3 0) 0)) (get_or ws 4 0)))

-- FROM TO NODE
unfoldable pub repack_node_reply : List ℕ → List ℕ
repack_node_reply ws = answer_numbers (repack_node_answer (layout_at ws 0) (layout_at ws 1) (get_or ws 2 0))
