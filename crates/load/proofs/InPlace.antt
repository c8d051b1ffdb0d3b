-- A turn of repacking in place: what is left of the bytes gives the answer and the bytes of the whole.
use mathlib.Core.Path.{◌≡◌, refl, ◌∙◌}
use mathlib.Core.List.{List, []}
use mathlib.Core.Option.{some}
use Rattle.std.specs.Prelude.{Ok, Err}
use Prim.Native.Nat.{ℕ, suc, ◌+◌, ◌*◌, ◌<◌, ◌≤◌}
use native.Mathlib.Omega.{arith}
use native.Mathlib.Numerals.{add-one, add-four}
use lib.ListN.{length, drop}
use lib.Seq.{sets, drop-set-lt}
use Rattle.answers.specs.Answers.{Answer, gives}
use Rattle.node.specs.Nodes.{BitLayout}
use Rattle.endian.specs.Bytes.{to_bytes, node_at, whole_nodes, node_bytes}
use Rattle.load.specs.Repacking.{NodeRepacked, first_misfit, fitting, misfit_answer}
use Rattle.load.specs.declared.repack.Misfit.{Misfit}
use Rattle.load.proofs.NextNode.{next_fits, next-stops, no-next-node}

module _ (old new : BitLayout) where
  -- the answer and the bytes that come of the bytes from node i on
  abbrev pub answer_from : List ℕ → ℕ → Answer
  answer_from s i = misfit_answer (first_misfit old new i (whole_nodes (drop (4 * i) s)))

  abbrev pub bytes_from : List ℕ → ℕ → List ℕ
  bytes_from s i = sets s (4 * i) (node_bytes (fitting old new (whole_nodes (drop (4 * i) s))))

  untouched : (s : List ℕ) (i v : ℕ) → drop (i + 4) (sets s i (to_bytes v)) ≡ drop (i + 4) s
  untouched s i v =
      drop-set-lt (i + 4) _ (suc (suc (suc i))) _ (omega arith)
      ∙ drop-set-lt (i + 4) _ (suc (suc i)) _ (omega arith)
      ∙ drop-set-lt (i + 4) _ (suc i) _ (omega arith)
      ∙ drop-set-lt (i + 4) s i _ (omega arith)

  module _ (s : List ℕ) (i : ℕ) where
    pub node-fits : {v : ℕ} → 4 * i + 4 ≤ length s → NodeRepacked old new i (node_at s (4 * i)) (Ok v)
        → (answer_from (sets s (4 * i) (to_bytes v)) (i + 1) ≡ answer_from s i) × (bytes_from (sets s (4 * i) (to_bytes v)) (i + 1) ≡ bytes_from s i)
    unfolding node_bytes
    node-fits {v} h e =
        let n = next_fits old new s (4 * i) i h e in
        let q : 4 * (i + 1) ≡ 4 * i + 4 = omega arith in
        rw (q, untouched s (4 * i) v, n.0, n.1, add-one) (refl, rw add-four)

    pub node-stops : {m : Misfit} → 4 * i + 4 ≤ length s → NodeRepacked old new i (node_at s (4 * i)) (Err m)
        → (misfit_answer (some m) ≡ answer_from s i) × (s ≡ bytes_from s i)
    unfolding node_bytes
    node-stops h e = let n = next-stops old new s (4 * i) i h e in rw (n.0, n.1) (refl, refl)

    pub nodes-done : length s < 4 * i + 4 → (gives [] ≡ answer_from s i) × (s ≡ bytes_from s i)
    unfolding node_bytes
    nodes-done h = let n = no-next-node old new s (4 * i) i h in rw (n.0, n.1) (refl, refl)
