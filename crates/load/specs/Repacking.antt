-- Nodes of one layout in another, up to the first that doesn't fit; from document 01, "Loading" and the row "repacking".
use Rattle.std.specs.Prelude.{◌≡◌, true, false, List, [], ◌∷◌, ℕ, suc, Result, Ok, Err}
use Rattle.std.proofs.Math.Option.{Option, none, some}
use Rattle.std.proofs.lemmas.List.Edits.{sets}
use Rattle.answers.specs.Answers.{Answer, gives, Refusal, refusing, as_answer}
use Rattle.node.specs.Nodes.{BitLayout, fields, tile, arc, fits, packed}
use Rattle.endian.specs.Bytes.{whole_nodes, node_bytes}
use Rattle.load.specs.declared.repack.Misfit.{Misfit}

abbrev pub misfit : ℕ → ℕ → ℕ → Misfit
misfit node tile arc = record { node = node; tile = tile; arc_index = arc }

module _ (old new : BitLayout) where
  -- node i of a file, which is v, in the new layout: "6 node doesn't fit (carries node, tile, arc)"
  abbrev pub NodeRepacked : ℕ → ℕ → Result ℕ Misfit → Type 0
  NodeRepacked i v (Ok w) = (fits new (fields old v) ≡ true) × (w ≡ packed new (fields old v))
  NodeRepacked i v (Err m) = (fits new (fields old v) ≡ false) × (m ≡ misfit i (tile old v) (arc old v))

  -- the first node that doesn't fit; i is the number of the first of them all
  unfoldable pub first_misfit : ℕ → List ℕ → Option Misfit
  first_misfit i [] = none
  first_misfit i (v ∷ vs) =
      elim (fits new (fields old v)) [
        | true ↦ first_misfit (suc i) vs
        | false ↦ some (misfit i (tile old v) (arc old v))
      ]

  -- the nodes before it, in the new layout
  unfoldable pub fitting : List ℕ → List ℕ
  fitting [] = []
  fitting (v ∷ vs) = elim (fits new (fields old v)) [ true ↦ packed new (fields old v) ∷ fitting vs | false ↦ [] ]

-- "6 node doesn't fit (carries node, tile, arc)"
abbrev pub misfit_refusal : Misfit → Refusal
misfit_refusal m = refusing 6 (m.node ∷ m.tile ∷ m.arc_index ∷ [])

-- the row "repacking: 6"
abbrev pub misfit_answer : Option Misfit → Answer
misfit_answer none = gives []
misfit_answer (some m) = as_answer (misfit_refusal m)

-- "a node that doesn't fit stops it with the nodes before rewritten; a part node at the end stays"
module _ (old new : BitLayout) (bytes : List ℕ) where
  abbrev pub repack_answer : Answer
  repack_answer = misfit_answer (first_misfit old new 0 (whole_nodes bytes))

  abbrev pub repacked_bytes : List ℕ
  repacked_bytes = sets bytes 0 (node_bytes (fitting old new (whole_nodes bytes)))

-- the node that stopped a repacking, if any
abbrev pub misfit_of : {A : Type 0} → Result A Misfit → Option Misfit
misfit_of (Ok a) = none
misfit_of (Err m) = some m

abbrev pub said_repack : Result Unit Misfit → Answer
said_repack r = misfit_answer (misfit_of r)
