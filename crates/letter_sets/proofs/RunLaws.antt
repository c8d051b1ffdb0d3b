-- A run's letter set, a node at a time; and that a table of the labels' ranks gives the sets of the labels.
use mathlib.Core.Path.{◌≡◌, ap, ◌∙◌}
use mathlib.Core.Bool.{true, false}
use mathlib.Core.List.{List, [], map}
use Prim.Native.Nat.{ℕ, ◌+◌, ◌≤◌, ◌<◌}
use lib.Bits.{bit_or, or_zero_r}
use lib.ListN.{length, get_or, drop_of_length-le}
use Rattle.laws.specs.BitSets.{marked, bit_set, bit-set-with, marked_either}
use Rattle.laws.specs.Lists.{filtered}
use Rattle.laws.specs.Members.{map_same, in_filtered}
use Rattle.node.specs.Nodes.{kbwg, tile, is_end}
use Rattle.graph.specs.Runs.{Graph, node, run}
use Rattle.graph.specs.RunLaws.{in_graph}
use Rattle.export.specs.Starts.{run_of, unlabelled}
use Rattle.export.specs.LabelLaws.{labelled_in}
use Rattle.export.specs.RunOfLaws.{run_ends, run-goes-on}
use Rattle.macondo_file.specs.Alphabet.{letter_at}
use Rattle.macondo_file.specs.File.{ends_in_letter, set_of}
use Rattle.letter_sets.specs.Letters.{Ranks, set_by}

-- ---- a node at a time
module _ (ranks : List ℕ) where
  abbrev rank : ℕ → ℕ
  rank v = get_or ranks (tile kbwg v) 0

  abbrev letters_of : Graph → ℕ
  letters_of vs = bit_set (map rank (filtered ends_in_letter vs))

  -- s, joined with the set of the nodes left
  module _ (g : Graph) (p s : ℕ) where
    pub set_past : length g ≤ p → bit_or s (set_by ranks g p) ≡ s
    unfolding set_by run bit_set
    set_past h = rw (drop_of_length-le g h) (or_zero_r s)

    module _ (h : p < length g) where
      pub set-end : is_end kbwg (node g p) ≡ true → bit_or s (set_by ranks g p) ≡ marked s (rank (node g p)) (ends_in_letter (node g p))
      unfolding set_by bit_set
      set-end e =
          let v = node g p in
          ap (λ vs. bit_or s (letters_of vs)) (run_ends g p h e)
          ∙ ap (bit_or s) (bit-set-with rank ends_in_letter v []) ∙ marked_either s 0 (rank v) (ends_in_letter v) ∙ or_zero_r _

      pub set_next : is_end kbwg (node g p) ≡ false
          → bit_or s (set_by ranks g p) ≡ bit_or (marked s (rank (node g p)) (ends_in_letter (node g p))) (set_by ranks g (p + 1))
      unfolding set_by
      set_next e =
          let v = node g p in
          let rest = run_of g (p + 1) in
          ap (λ vs. bit_or s (letters_of vs)) (run-goes-on g p h e)
          ∙ ap (bit_or s) (bit-set-with rank ends_in_letter v rest) ∙ marked_either s (letters_of rest) (rank v) (ends_in_letter v)

-- ---- the labels' ranks
module _ (labels ranks : List ℕ) (g : Graph) (labelled : unlabelled g labels ≡ false) (ranked : Ranks labels ranks) where
  set_at : (p : ℕ) → set_by ranks g p ≡ set_of g labels p
  unfolding set_by set_of
  set_at p =
      ap bit_set (map_same (rank ranks) (letter_at labels) (filtered ends_in_letter (run_of g p)) (λ v m.
      let i = in_graph kbwg g p v (in_filtered ends_in_letter (run_of g p) v m).0 in
      ranked (tile kbwg v) (labelled_in g labels labelled v i)))

  pub set-by : set_by ranks g ≡ set_of g labels
  set-by = λ i p. set_at p i
