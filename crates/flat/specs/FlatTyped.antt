-- The flat answers of words as viewers type them.
use Rattle.std.specs.Prelude.{Bool, true, false, ◌||◌, [], ◌∷◌, ℕ, eqb, get_or}
use Rattle.answers.specs.Answers.{Answer, gives, nothing, refused, refusal_in, value_at}
use Rattle.flat.specs.Flat.{found, is_given}
use Rattle.flat.specs.declared.typing.FlatTyped.{FlatTyped}
use Rattle.flat.specs.declared.typing.FlatTypedList.{FlatTypedList}

-- ---- how fields are read
-- "27 for the first bad line of the label file with its line number", "28 for unreadable text with its byte place"
abbrev pub carries_bad : ℕ → Bool
carries_bad n = eqb n 27 || eqb n 28

abbrev pub refused_at : ℕ → ℕ → Answer → Answer
refused_at n bad given = elim (eqb n 0) [ true ↦ given | false ↦ refused n (elim (carries_bad n) [ true ↦ bad ∷ [] | false ↦ [] ]) ]

-- not found is the end
abbrev pub typed_of : FlatTyped → Answer
typed_of r = refused_at r.refusal r.bad (found r.found (r.start ∷ r.end ∷ r.after ∷ r.tiles ∷ []))

abbrev pub typed_list_of : FlatTypedList → Answer
typed_list_of r = refused_at r.refusal r.bad (found r.found (r.words ∷ r.tiles ∷ r.after ∷ []))

-- ---- how an answer fills them
abbrev pub bad_carried : Answer → ℕ
bad_carried (gives vs) = 0
bad_carried nothing = 0
bad_carried (refused n vs) = elim (carries_bad n) [ true ↦ get_or vs 0 0 | false ↦ 0 ]

abbrev pub flat_typed : Answer → FlatTyped
flat_typed a =
    record {
      refusal = refusal_in a;
      found = is_given a;
      bad = bad_carried a;
      start = value_at 0 a;
      end = value_at 1 a;
      after = value_at 2 a;
      tiles = value_at 3 a;
    }

abbrev pub flat_typed_list : Answer → FlatTypedList
flat_typed_list a =
    record {
      refusal = refusal_in a;
      found = is_given a;
      bad = bad_carried a;
      words = value_at 0 a;
      tiles = value_at 1 a;
      after = value_at 2 a;
    }
