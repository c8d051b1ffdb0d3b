-- What letter bits and alpha sets reply to the nodes of a case and to its tally: the fields of the flat answer, and then the sets.
use Rattle.std.specs.Prelude.{List, [], ◌∷◌, ◌++◌, ℕ, length, take}
use Rattle.answers.specs.Answers.{refusal_in}
use Rattle.base.specs.Numbers.{flag}
use Rattle.letters.specs.LetterBits.{letter_bits_of}
use Rattle.letters.specs.AlphaSets.{accepts_alpha, cross_set}
use Rattle.flat.specs.FlatSets.{flat_accepts, flat_cross}
use Rattle.flat.specs.declared.sets.FlatAccepts.{FlatAccepts}
use Rattle.flat.specs.declared.sets.FlatCross.{FlatCross}

abbrev pub accepts_fields : FlatAccepts → List ℕ
accepts_fields r = r.refusal ∷ flag r.accepts ∷ []

abbrev pub cross_fields : FlatCross → List ℕ
cross_fields r = r.refusal ∷ r.tiles ∷ []

-- the number of the refusal, the set of all tiles for each node, then that of the accepting ones
unfoldable pub bits_reply : List ℕ → List ℕ → List ℕ → List ℕ
bits_reply nodes all accepting =
    let r = letter_bits_of nodes all accepting in
    refusal_in r.answer ∷ take (length nodes) r.all ++ take (length nodes) r.accepting

unfoldable pub accepts_reply : List ℕ → List ℕ → List ℕ
accepts_reply nodes tally = accepts_fields (flat_accepts (accepts_alpha nodes tally))

unfoldable pub cross_reply : List ℕ → List ℕ → List ℕ
cross_reply nodes tally = cross_fields (flat_cross (cross_set nodes tally))
