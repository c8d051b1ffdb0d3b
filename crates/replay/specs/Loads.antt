-- What repacking and loading reply to the words and the bytes of a case: the fields of the flat answer, and then the bytes or the nodes.
use Rattle.std.specs.Prelude.{List, [], ◌∷◌, ◌++◌, ℕ, eqb, length, get_or, take, drop}
use Rattle.answers.specs.Answers.{refusal_in}
use Rattle.node.specs.Said.{bit_layout}
use Rattle.load.specs.Repacking.{repack_answer, repacked_bytes}
use Rattle.pieces.specs.Pieces.{LoadOutcome, load_pieces}
use Rattle.stored.specs.Inputs.{pick}
use Rattle.flat.specs.Flat.{layout_of}
use Rattle.flat.specs.FlatLoads.{flat_repacked, flat_finished}
use Rattle.flat.specs.declared.loading.FlatRepacked.{FlatRepacked}
use Rattle.flat.specs.declared.loading.FlatFinished.{FlatFinished}

abbrev pub repacked_fields : FlatRepacked → List ℕ
repacked_fields r = r.refusal ∷ r.arc ∷ r.node ∷ r.tile ∷ []

abbrev pub finished_fields : FlatFinished → List ℕ
finished_fields r = r.refusal ∷ r.arc ∷ r.nodes ∷ r.node ∷ r.tile ∷ []

-- FROM TO; the bytes
unfoldable pub repack_reply : List ℕ → List ℕ → List ℕ
repack_reply ws bytes =
    let old = bit_layout (layout_of (get_or ws 0 0)) in
    let new = bit_layout (layout_of (get_or ws 1 0)) in
    repacked_fields (flat_repacked (repack_answer old new bytes)) ++ repacked_bytes old new bytes

-- begin's refusal, or else what finish answers and the nodes that it counts
unfoldable pub load_fields : LoadOutcome → List ℕ
load_fields r =
    pick (eqb (refusal_in r.begun) 0)
    (finished_fields (flat_finished r.finished) ++ take (flat_finished r.finished).nodes r.nodes)
    (refusal_in r.begun ∷ [])

-- LAYOUT CUT; the bytes of the file, which come in two pieces
unfoldable pub load_reply : List ℕ → List ℕ → List ℕ → List ℕ
load_reply ws bytes lent =
    let cut = get_or ws 1 0 in
    load_fields (load_pieces (length bytes) (layout_of (get_or ws 0 0)) lent (take cut bytes ∷ drop cut bytes ∷ []))
