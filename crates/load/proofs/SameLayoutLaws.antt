-- Repacking a layout to itself changes no byte and refuses nothing: every node fits the layout that it comes from, is packed back to what it
-- was, and is written as the four bytes that it was read from.
use mathlib.Core.Path.{◌≡◌, refl, sym, ap, ap₂, ◌∙◌, subst}
use mathlib.Core.List.{List, [], ◌∷◌, ◌++◌}
use mathlib.Core.Option.{none}
use Prim.Native.Nat.{ℕ, suc, ◌+◌, ◌*◌, ◌/◌, ◌%◌, ◌^◌, ◌<◌}
use native.Mathlib.Nat.{div-div-eq-div-mul}
use native.Mathlib.Omega.{arith}
use lib.ListN.{length-append}
use lib.Seq.{sets, drop-append_seam}
use Rattle.laws.specs.Lists.{All}
use Rattle.laws.specs.ListWrites.{sets-front}
use Rattle.answers.specs.Answers.{gives}
use Rattle.node.specs.Nodes.{BitLayout}
use Rattle.node.specs.PackingLaws.{FillsNode, whole-kwg, whole-kbwg, pack_unpack, fields_fit}
use Rattle.node.specs.Said.{bit_layout}
use Rattle.node.specs.declared.Layout.{Layout}
use Rattle.node.specs.declared.Layout.TheVariants.{Kwg, Kbwg}
use Rattle.endian.specs.Bytes.{from_bytes, to_bytes, whole_nodes, part_node, node_bytes}
use Rattle.load.specs.Repacking.{first_misfit, fitting, misfit_answer, repack_answer, repacked_bytes}
use Rattle.load.specs.RepackingLaws.{misfit-later, fitting-next}

-- every one a byte
abbrev pub EachByte : List ℕ → Type 0
EachByte = All (λ (b : ℕ). b < 2 ^ 8)

-- every one a node
abbrev EachNode : List ℕ → Type 0
EachNode = All (λ (v : ℕ). v < 2 ^ 32)

-- ---- nodes
module _ (y : BitLayout) where
  none_misfits : (i : ℕ) (vs : List ℕ) → first_misfit y y i vs ≡ none
  unfolding first_misfit
  none_misfits i [] = refl
  none_misfits i (v ∷ vs) = misfit-later y y v vs i (fields_fit y v) ∙ none_misfits (suc i) vs

  all-packed-back : FillsNode y → (vs : List ℕ) → EachNode vs → fitting y y vs ≡ vs
  unfolding fitting
  all-packed-back w [] h = refl
  all-packed-back w (v ∷ vs) h =
      fitting-next y y v vs (fields_fit y v) ∙ ap₂ (λ x xs. x ∷ xs) (pack_unpack y w v h.0) (all-packed-back w vs h.1)

-- ---- their bytes
module _ (a b c d : ℕ) (ha : a < 2 ^ 8) (hb : b < 2 ^ 8) (hc : c < 2 ^ 8) (hd : d < 2 ^ 8) where
  four_back : to_bytes (from_bytes a b c d) ≡ a ∷ b ∷ c ∷ d ∷ []
  four_back =
      let v = from_bytes a b c d in
      let one : v / 2 ^ 8 ≡ b + (c + d * 2 ^ 8) * 2 ^ 8 = omega arith in
      let two : v / 2 ^ 16 ≡ c + d * 2 ^ 8 = sym (div-div-eq-div-mul v (2 ^ 8) (2 ^ 8)) ∙ ap (λ (n : ℕ). n / 2 ^ 8) one ∙ omega arith in
      let three : v / 2 ^ 24 ≡ d = sym (div-div-eq-div-mul v (2 ^ 16) (2 ^ 8)) ∙ ap (λ (n : ℕ). n / 2 ^ 8) two ∙ omega arith in
      let lowest : v % 2 ^ 8 ≡ a = omega arith in
      let second : v / 2 ^ 8 % 2 ^ 8 ≡ b = ap (λ (n : ℕ). n % 2 ^ 8) one ∙ omega arith in
      let third : v / 2 ^ 16 % 2 ^ 8 ≡ c = ap (λ (n : ℕ). n % 2 ^ 8) two ∙ omega arith in
      let highest : v / 2 ^ 24 % 2 ^ 8 ≡ d = ap (λ (n : ℕ). n % 2 ^ 8) three ∙ omega arith in
      λ i. lowest i ∷ second i ∷ third i ∷ highest i ∷ []

  four_below : from_bytes a b c d < 2 ^ 32
  four_below = omega arith

nodes-read : (bs : List ℕ) → EachByte bs → EachNode (whole_nodes bs)
unfolding whole_nodes
nodes-read [] h = tt
nodes-read (a ∷ []) h = tt
nodes-read (a ∷ b ∷ []) h = tt
nodes-read (a ∷ b ∷ c ∷ []) h = tt
nodes-read (a ∷ b ∷ c ∷ d ∷ r) h = (four_below a b c d h.0 h.1.0 h.1.1.0 h.1.1.1.0, nodes-read r h.1.1.1.1)

bytes_back : (bs : List ℕ) → EachByte bs → node_bytes (whole_nodes bs) ++ part_node bs ≡ bs
unfolding whole_nodes part_node node_bytes
bytes_back [] h = refl
bytes_back (a ∷ []) h = refl
bytes_back (a ∷ b ∷ []) h = refl
bytes_back (a ∷ b ∷ c ∷ []) h = refl
bytes_back (a ∷ b ∷ c ∷ d ∷ r) h =
    ap₂ (λ xs ys. xs ++ ys) (four_back a b c d h.0 h.1.0 h.1.1.0 h.1.1.1.0) (bytes_back r h.1.1.1.1)

rewritten_same : (xs ys : List ℕ) → sets (xs ++ ys) 0 xs ≡ xs ++ ys
rewritten_same xs ys = sets-front (xs ++ ys) xs (simp length-append (omega arith)) ∙ ap (xs ++◌) (drop-append_seam xs ys)

whole : (layout : Layout) → FillsNode (bit_layout layout)
whole Kwg = whole-kwg
whole Kbwg = whole-kbwg

module _ (layout : Layout) (bytes : List ℕ) where
  pub same-layout-answer : repack_answer (bit_layout layout) (bit_layout layout) bytes ≡ gives []
  same-layout-answer = ap misfit_answer (none_misfits (bit_layout layout) 0 (whole_nodes bytes))

  pub same-layout-bytes : EachByte bytes → repacked_bytes (bit_layout layout) (bit_layout layout) bytes ≡ bytes
  same-layout-bytes h =
      ap (λ vs. sets bytes 0 (node_bytes vs)) (all-packed-back (bit_layout layout) (whole layout) (whole_nodes bytes) (nodes-read bytes h))
      ∙ subst (λ l. sets l 0 (node_bytes (whole_nodes bytes)) ≡ l) (bytes_back bytes h) (rewritten_same (node_bytes (whole_nodes bytes)) (part_node bytes))
