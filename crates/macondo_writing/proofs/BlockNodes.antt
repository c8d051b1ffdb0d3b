-- The nodes of a block as the writer makes them from its tables.
use mathlib.Core.Path.{◌≡◌, sym, ap, ◌∙◌}
use mathlib.Core.List.{List, [], ◌++◌, map}
use Prim.Native.Nat.{ℕ, suc, ◌+◌, ◌-◌, ◌*◌, ◌≤◌, ◌<◌}
use native.Mathlib.Numerals.{add-one}
use native.Mathlib.Omega.{arith}
use lib.ListN.{length, get_or, length-map}
use lib.Seq.{sets}
use Rattle.laws.specs.ListWrites.{sets_append}
use Rattle.endian.specs.Bytes.{big_endian, big_endians}
use Rattle.endian.proofs.BigLaws.{bigs_length, bigs_append}
use Rattle.endian.specs.Putting.{Putting, put-start, put-room, put_next, put-done}
use Rattle.graph.specs.Runs.{Graph}
use Rattle.macondo_file.specs.File.{arcs_of}
use Rattle.macondo_writing.specs.FileTables.{arc_in, block_in, block_nodes_from}

-- ---- a block: the head, and the arcs after it
pub block-stored : (ranks w arcs before : List ℕ) (set at : ℕ) {headed after : List ℕ}
    → headed ≡ sets before at (big_endian 4 (length arcs * 16777216 + set))
    → after ≡ sets headed (at + 4) (big_endians 4 (map (arc_in ranks w) arcs))
    → after ≡ sets before at (big_endians 4 (block_in ranks w set arcs))
unfolding block_in big_endians
block-stored ranks w arcs before set at h a =
    a ∙ ap (λ b. sets b (at + 4) (big_endians 4 (map (arc_in ranks w) arcs))) h
    ∙ sym (sets_append before at (big_endian 4 (length arcs * 16777216 + set)) (big_endians 4 (map (arc_in ranks w) arcs)))

-- ---- blocks written one by one: those from block j on, written where they go, give all of them written at once
module _ (g : Graph) (labels ranks w : List ℕ) (blocks : ℕ) where
  -- the nodes from block j on
  abbrev left : ℕ → List ℕ
  left j = block_nodes_from g labels ranks w j (blocks - j)

  -- the nodes of block j, with these arcs
  abbrev nodes_of : ℕ → List ℕ → List ℕ
  nodes_of j arcs = block_in ranks w (get_or w (2 * length g + j) 0) arcs

  left-next : (j : ℕ) → j < blocks → left j ≡ nodes_of j (arcs_of g labels (get_or w (length g + j) 0)) ++ left (j + 1)
  unfolding block_nodes_from
  left-next j h =
      let e : blocks - j ≡ suc (blocks - (j + 1)) = omega arith in
      rw (e, add-one)

  left-none : (j : ℕ) → blocks ≤ j → left j ≡ []
  unfolding block_nodes_from
  left-none j h = let e : blocks - j ≡ 0 = omega arith in rw e

  module _ (before : List ℕ) (at : ℕ) where
    abbrev pub BlocksFrom : ℕ → List ℕ → ℕ → Type 0
    BlocksFrom j now p = Putting (big_endians 4 (block_nodes_from g labels ranks w 0 blocks)) before at (big_endians 4 (left j)) now p

    pub blocks_start : BlocksFrom 0 before at
    blocks_start =
        let e : blocks - 0 ≡ blocks = omega arith in
        rw e (put-start (big_endians 4 (block_nodes_from g labels ranks w 0 blocks)) before at)

    module _ (j : ℕ) {now : List ℕ} {p : ℕ} (h : BlocksFrom j now p) where
      module _ (l : j < blocks) (arcs : List ℕ) (e : arcs ≡ arcs_of g labels (get_or w (length g + j) 0)) where
        piece : big_endians 4 (left j) ≡ big_endians 4 (nodes_of j arcs) ++ big_endians 4 (left (j + 1))
        piece =
            ap (big_endians 4) (left-next j l ∙ ap (λ a. nodes_of j a ++ left (j + 1)) (sym e))
            ∙ bigs_append 4 (nodes_of j arcs) (left (j + 1))

        size : length (big_endians 4 (nodes_of j arcs)) ≡ 4 + 4 * length arcs
        unfolding block_in
        size =
            let a = bigs_length 4 (nodes_of j arcs) in
            let b = length-map arcs (arc_in ranks w) in
            omega arith

        pub block-fits : at + 4 * length (block_nodes_from g labels ranks w 0 blocks) ≤ length before → p + (4 + 4 * length arcs) ≤ length now
        block-fits room =
            let a = bigs_length 4 (block_nodes_from g labels ranks w 0 blocks) in
            let b = size in
            let r = put-room h (big_endians 4 (nodes_of j arcs)) (big_endians 4 (left (j + 1))) piece (omega arith) in
            omega arith

        pub blocks-next : {after : List ℕ} → after ≡ sets now p (big_endians 4 (nodes_of j arcs)) → BlocksFrom (j + 1) after (p + (4 + 4 * length arcs))
        blocks-next s =
            put_next h (big_endians 4 (nodes_of j arcs)) (big_endians 4 (left (j + 1))) piece (ap (p +◌) (sym size)) s

      pub blocks-done : blocks ≤ j → now ≡ sets before at (big_endians 4 (block_nodes_from g labels ranks w 0 blocks))
      unfolding big_endians
      blocks-done l = put-done h (ap (big_endians 4) (left-none j l))
