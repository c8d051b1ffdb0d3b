-- A graph that passes finish's checks loads as itself, however the file of its nodes is cut.
use Rattle.std.specs.Prelude.{◌≡◌, ℕ, suc, ◌+◌, ◌*◌, ◌/◌, ◌%◌, ◌^◌, ◌≤◌, ◌<◌, max, ltb, take, drop}
use Rattle.std.proofs.Math.Path.{refl, ap, ap₂}
use Rattle.std.proofs.Common.{◌∙◌, arith, length-append, length-drop, take_at}
use mathlib.Core.List.{List, [], ◌∷◌, ◌++◌, Memᴰ}
use Rattle.std.proofs.Math.Option.{none}
use borrow.Author.Tests.{le-ltb, eq-eqb, ne_eqb}
use Rattle.std.proofs.Math.ListN.{length}
use Rattle.laws.specs.Lists.{join_all}
use Rattle.laws.specs.ListWrites.{sets-front}
use Rattle.answers.specs.Answers.{gives, refusing, first_of}
use Rattle.answers.specs.RowLaws.{row-passes, row_ends, rows_pass, all_pass}
use Rattle.endian.specs.Bytes.{whole_nodes, part_node, node_bytes}
use Rattle.endian.proofs.BytesLaws.{length_part, numbers-read, length-numbers}
use Rattle.node.specs.Nodes.{kbwg}
use Rattle.node.specs.PackingLaws.{whole-kbwg, pack_unpack, fields_fit}
use Rattle.node.specs.declared.Layout.TheVariants.{Kbwg}
use Rattle.graph.specs.Runs.{Graph}
use Rattle.graph.specs.Checks.{nodes_row}
use Rattle.load.specs.Repacking.{first_misfit, fitting}
use Rattle.load.specs.RepackingLaws.{fitting-next, misfit-later}
use Rattle.load.specs.Loading.{holding, begin_row, sound_row, finish_row, misfit_in, state_after, nodes_after, Finishes, finish}
use Rattle.load.proofs.StateLaws.{sound-state, state-holding}
use Rattle.load.specs.declared.loader.Loader.{Loader}
use Rattle.pieces.specs.Pieces.{joined_bytes, fed_pieces, load_pieces}
use Rattle.pieces.specs.JoinLaws.{part-zeros}
use Rattle.pieces.proofs.PiecesLaws.{loads_as_whole, joined_is}

all_fit : (vs : List ℕ) (k : ℕ) → first_misfit kbwg kbwg k vs ≡ none
unfolding first_misfit
all_fit [] k = refl
all_fit (v ∷ vs) k = misfit-later kbwg kbwg v vs k (fields_fit kbwg v) ∙ all_fit vs (suc k)

fitting-same : (vs : List ℕ) → ((v : ℕ) → Memᴰ v vs → v < 2 ^ 32) → fitting kbwg kbwg vs ≡ vs
unfolding fitting
fitting-same [] h = refl
fitting-same (v ∷ vs) h =
    fitting-next kbwg kbwg v vs (fields_fit kbwg v)
    ∙ ap₂ ◌∷◌ (pack_unpack kbwg whole-kbwg v (h v (Memᴰ.head refl))) (fitting-same vs (λ u m. h u (Memᴰ.tail m)))

module _ (g lent : Graph) (below : (v : ℕ) → Memᴰ v g → v < 2 ^ 32) (two : 2 ≤ length g) (few : length g ≤ 16_777_216)
    (sound : first_of (nodes_row g) ≡ none) (room : length g ≤ length lent) where
  abbrev file : List ℕ
  file = node_bytes g

  abbrev after : Graph
  after = g ++ drop (length g) lent

  as_many : length after ≡ length lent
  as_many = let a = length-append g (drop (length g) lent) in let b = length-drop (length g) lent in omega arith

  nodes_in_file : length file / 4 ≡ length g
  nodes_in_file = let n = length-numbers g in omega arith

  ready : (nodes : Graph) → length nodes ≡ length lent → first_of (begin_row (length file) (length nodes)) ≡ none
  ready nodes e =
      let n = length-numbers g in
      let four : length file % 4 ≡ 0 = omega arith in
      let large : max (length file / 4) 2 ≤ length nodes = omega arith in
      all_pass (begin_row (length file) (length nodes)) (
        rw (ne_eqb (length file) 0 (λ z. omega arith), eq-eqb (length file % 4) 0 four),
        (le-ltb 67_108_864 (length file) (omega arith), (le-ltb (length nodes) (max (length file / 4) 2) large, tt)),
      )

  no-misfit : misfit_in Kbwg 0 file ≡ none
  no-misfit = all_fit (whole_nodes file) 0

  nodes-after : nodes_after Kbwg 0 file lent ≡ after
  unfolding nodes_after
  nodes-after = rw (numbers-read g below, fitting-same g below) (sets-front lent g room)

  abbrev state : Loader
  state = holding (length file) Kbwg (4 * 0 + length file) (part_node file)

  -- ---- finish
  sound-after : first_of (sound_row state (length after)) ≡ none
  unfolding holding
  sound-after =
      let l = length_part file in
      sound-state state (length after) (ready after as_many) (omega arith) (omega arith) (part-zeros file)

  first-nodes : take (length file / 4) after ≡ g
  first-nodes = ap (λ k. take k after) nodes_in_file ∙ take_at g (drop (length g) lent) (length g) refl

  passes : first_of (finish_row state after) ≡ none
  unfolding holding
  passes =
      let taken = 4 * 0 + length file in
      let judgement = nodes_row (take (length file / 4) after) in
      rows_pass (sound_row state (length after) ++ []) ((ltb taken (length file), refusing 7 []) ∷ judgement)
      (rows_pass (sound_row state (length after)) [] sound-after ∙ row_ends)
      ∙ row-passes (ltb taken (length file)) (refusing 7 []) judgement (le-ltb taken (length file) (omega arith))
      ∙ ap (λ l. first_of (nodes_row l)) first-nodes
      ∙ sound

  judged : finish state after ≡ record { answer = gives (length g ∷ []); nodes = after }
  unfolding finish holding
  judged =
      let n = length-numbers g in
      rw (passes, ne_eqb (length file) 4 (λ z. omega arith), nodes_in_file)

  -- ---- the pieces
  module _ (pieces : List (List ℕ)) (cut : join_all pieces ≡ file) where
    joined-file : joined_bytes (length file) Kbwg lent pieces ≡ file
    unfolding joined_bytes
    joined-file =
        let n = ap length cut in
        rw (ready lent refl, joined_bytes) (joined_is (length file) Kbwg lent (ready lent refl) [] pieces (omega arith) ∙ cut)

    cut-state : (fed_pieces (length file) Kbwg lent pieces).state ≡ state
    cut-state =
        (loads_as_whole (length file) Kbwg lent pieces).taken (ready lent refl)
        ∙ ap (state_after (length file) Kbwg 0) joined-file
        ∙ state-holding (length file) Kbwg 0 file no-misfit

    cut-nodes : (fed_pieces (length file) Kbwg lent pieces).nodes ≡ after
    cut-nodes = (loads_as_whole (length file) Kbwg lent pieces).placed ∙ ap (λ b. nodes_after Kbwg 0 b lent) joined-file ∙ nodes-after

    -- "Finish judges the nodes and answers their number N."
    pub loads-itself : ((load_pieces (length file) Kbwg lent pieces).finished ≡ gives (length g ∷ []))
        × ((load_pieces (length file) Kbwg lent pieces).nodes ≡ g ++ drop (length g) lent)
    unfolding load_pieces
    loads-itself =
        let f = ap₂ finish cut-state cut-nodes ∙ judged in
        (ap (λ (x : Finishes). x.answer) f, ap (λ (x : Finishes). x.nodes) f)
