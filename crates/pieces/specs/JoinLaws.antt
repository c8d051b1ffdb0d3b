-- Bytes joined at any place: the nodes, the part node and the stop of the whole come from those of the first part.
use Rattle.std.specs.Prelude.{◌≡◌, true, take, drop}
use Rattle.std.proofs.Math.Path.{refl, sym, ap}
use Rattle.std.proofs.Common.{◌∙◌, add-zero, arith, length-append}
use mathlib.Core.List.{List, [], ◌∷◌, ◌++◌}
use Rattle.std.proofs.Math.Option.{Option, none, some}
use Prim.Native.Nat.{ℕ, suc, ◌+◌, ◌*◌, ◌/◌}
use Rattle.std.proofs.Math.Nat.{zero-add}
use Rattle.std.proofs.Math.ListN.{length}
use Rattle.laws.specs.Cases.{split, some≢none}
use Rattle.laws.specs.ListWrites.{sets_append}
use Rattle.node.specs.Nodes.{BitLayout, kbwg, fields, fits}
use Rattle.node.specs.Said.{bit_layout}
use Rattle.node.specs.declared.Layout.{Layout}
use Rattle.graph.specs.Runs.{Graph}
use Rattle.endian.specs.Bytes.{whole_nodes, part_node}
use Rattle.endian.proofs.BytesLaws.{length_whole, length_part}
use Rattle.load.specs.Repacking.{first_misfit, fitting}
use Rattle.load.specs.declared.repack.Misfit.{Misfit}
use Rattle.load.specs.RepackingLaws.{fitting-next, fitting-stops, misfit-later, misfit-here}
use Rattle.load.specs.Loading.{places, zeros, holding, misfit_in, state_at, state_after, nodes_after}
use Rattle.load.proofs.StateLaws.{state-stopped}

whole_append : (b p : List ℕ) → whole_nodes (b ++ p) ≡ whole_nodes b ++ whole_nodes (part_node b ++ p)
unfolding whole_nodes part_node
whole_append [] p = refl
whole_append (x ∷ []) p = refl
whole_append (x ∷ y ∷ []) p = refl
whole_append (x ∷ y ∷ z ∷ []) p = refl
whole_append (x ∷ y ∷ z ∷ w ∷ r) p = rw (whole_append r p)

part_append : (b p : List ℕ) → part_node (b ++ p) ≡ part_node (part_node b ++ p)
unfolding part_node
part_append [] p = refl
part_append (x ∷ []) p = refl
part_append (x ∷ y ∷ []) p = refl
part_append (x ∷ y ∷ z ∷ []) p = refl
part_append (x ∷ y ∷ z ∷ w ∷ r) p = part_append r p

-- the places of a part node: its bytes, then zeros
pub part-places : (b : List ℕ) → take (length (part_node b)) (places (part_node b)) ≡ part_node b
unfolding part_node
part-places [] = refl
part-places (x ∷ []) = refl
part-places (x ∷ y ∷ []) = refl
part-places (x ∷ y ∷ z ∷ []) = refl
part-places (x ∷ y ∷ z ∷ w ∷ r) = part-places r

pub part-zeros : (b : List ℕ) → zeros (drop (length (part_node b)) (places (part_node b))) ≡ true
unfolding part_node zeros
part-zeros [] = refl
part-zeros (x ∷ []) = refl
part-zeros (x ∷ y ∷ []) = refl
part-zeros (x ∷ y ∷ z ∷ []) = refl
part-zeros (x ∷ y ∷ z ∷ w ∷ r) = part-zeros r

module _ (old new : BitLayout) where
  misfit-after : (x : ℕ) (xs : List ℕ) (i : ℕ) {o : Option Misfit} → first_misfit old new i (x ∷ xs) ≡ o → fits new (fields old x) ≡ true
      → first_misfit old new (suc i) xs ≡ o
  misfit-after x xs i e f = sym (misfit-later old new x xs i f) ∙ e

  misfit_append : (xs ys : List ℕ) (i : ℕ) → first_misfit old new i xs ≡ none
      → first_misfit old new i (xs ++ ys) ≡ first_misfit old new (i + length xs) ys
  misfit_append [] ys i e = rw add-zero
  misfit_append (x ∷ xs) ys i e =
      split (fits new (fields old x))
      (λ f. misfit-later old new x (xs ++ ys) i f
      ∙ misfit_append xs ys (suc i) (misfit-after x xs i e f)
      ∙ ap (λ k. first_misfit old new k ys) (omega arith))
      (λ f. some≢none (sym (misfit-here old new x xs i f) ∙ e))

  misfit-stays : (xs ys : List ℕ) (i : ℕ) {m : Misfit} → first_misfit old new i xs ≡ some m → first_misfit old new i (xs ++ ys) ≡ some m
  unfolding first_misfit
  misfit-stays [] ys i e = some≢none (sym e)
  misfit-stays (x ∷ xs) ys i e =
      split (fits new (fields old x))
      (λ f. misfit-later old new x (xs ++ ys) i f ∙ misfit-stays xs ys (suc i) (misfit-after x xs i e f))
      (λ f. misfit-here old new x (xs ++ ys) i f ∙ sym (misfit-here old new x xs i f) ∙ e)

  fitting_append : (xs ys : List ℕ) (i : ℕ) → first_misfit old new i xs ≡ none
      → fitting old new (xs ++ ys) ≡ fitting old new xs ++ fitting old new ys
  unfolding fitting
  fitting_append [] ys i e = refl
  fitting_append (x ∷ xs) ys i e =
      split (fits new (fields old x))
      (λ f. rw (fitting-next old new x (xs ++ ys) f, fitting-next old new x xs f, fitting_append xs ys (suc i) (misfit-after x xs i e f)))
      (λ f. some≢none (sym (misfit-here old new x xs i f) ∙ e))

  fitting-stays : (xs ys : List ℕ) (i : ℕ) {m : Misfit} → first_misfit old new i xs ≡ some m
      → fitting old new (xs ++ ys) ≡ fitting old new xs
  unfolding first_misfit
  fitting-stays [] ys i e = some≢none (sym e)
  fitting-stays (x ∷ xs) ys i e =
      split (fits new (fields old x))
      (λ f. rw (fitting-next old new x (xs ++ ys) f, fitting-next old new x xs f, fitting-stays xs ys (suc i) (misfit-after x xs i e f)))
      (λ f. fitting-stops old new x (xs ++ ys) f ∙ sym (fitting-stops old new x xs f))

  fitting-length : (xs : List ℕ) (i : ℕ) → first_misfit old new i xs ≡ none → length (fitting old new xs) ≡ length xs
  unfolding fitting
  fitting-length [] i e = refl
  fitting-length (x ∷ xs) i e =
      split (fits new (fields old x))
      (λ f. ap length (fitting-next old new x xs f) ∙ ap suc (fitting-length xs (suc i) (misfit-after x xs i e f)))
      (λ f. some≢none (sym (misfit-here old new x xs i f) ∙ e))

-- ---- the bytes b, then the piece p
module _ (announced : ℕ) (layout : Layout) (nodes : Graph) (b p : List ℕ) where
  module _ (e : misfit_in layout 0 b ≡ none) where
    quarter : length (whole_nodes b) ≡ length b / 4
    quarter = length_whole b

    pub misfit-joined : misfit_in layout (length b / 4) (part_node b ++ p) ≡ misfit_in layout 0 (b ++ p)
    misfit-joined =
        sym (ap (first_misfit (bit_layout layout) kbwg 0) (whole_append b p)
        ∙ misfit_append (bit_layout layout) kbwg (whole_nodes b) (whole_nodes (part_node b ++ p)) 0 e
        ∙ ap (λ k. misfit_in layout k (part_node b ++ p)) (zero-add (length (whole_nodes b)) ∙ quarter))

    state-on : (o : Option Misfit) → state_at o announced layout (length b / 4) (part_node b ++ p) ≡ state_at o announced layout 0 (b ++ p)
    state-on none =
        let l = length_part b in
        let n : 4 * (length b / 4) + length (part_node b ++ p) ≡ 4 * 0 + length (b ++ p) = rw (length-append, length-append) (omega arith) in
        rw (part_append b p) (ap (λ t. holding announced layout t (part_node (part_node b ++ p))) n)
    state-on (some m) = refl

    pub state-joined : state_after announced layout (length b / 4) (part_node b ++ p) ≡ state_after announced layout 0 (b ++ p)
    unfolding state_after
    state-joined = ap (λ o. state_at o announced layout (length b / 4) (part_node b ++ p)) misfit-joined ∙ state-on (misfit_in layout 0 (b ++ p))

    pub nodes-joined : nodes_after layout (length b / 4) (part_node b ++ p) (nodes_after layout 0 b nodes) ≡ nodes_after layout 0 (b ++ p) nodes
    unfolding nodes_after
    nodes-joined =
        let f = fitting_append (bit_layout layout) kbwg (whole_nodes b) (whole_nodes (part_node b ++ p)) 0 e in
        let l = fitting-length (bit_layout layout) kbwg (whole_nodes b) 0 e ∙ quarter in
        sym (rw (whole_append b p, f, sets_append, zero-add, l))

  -- after a misfit later bytes change nothing
  module _ {m : Misfit} (e : misfit_in layout 0 b ≡ some m) where
    pub misfit-kept : misfit_in layout 0 (b ++ p) ≡ some m
    misfit-kept =
        ap (first_misfit (bit_layout layout) kbwg 0) (whole_append b p)
        ∙ misfit-stays (bit_layout layout) kbwg (whole_nodes b) (whole_nodes (part_node b ++ p)) 0 e

    pub state-stays : state_after announced layout 0 (b ++ p) ≡ state_after announced layout 0 b
    state-stays = state-stopped announced layout 0 (b ++ p) misfit-kept ∙ sym (state-stopped announced layout 0 b e)

    pub nodes_stay : nodes_after layout 0 (b ++ p) nodes ≡ nodes_after layout 0 b nodes
    unfolding nodes_after
    nodes_stay = rw (whole_append b p, fitting-stays (bit_layout layout) kbwg (whole_nodes b) (whole_nodes (part_node b ++ p)) 0 e)
