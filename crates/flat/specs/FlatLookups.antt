-- The flat answers of run lookup, the run cursor and both word-number conversions.
use Rattle.std.specs.Prelude.{◌≡◌, Bool, true, false, List, [], ◌∷◌, ◌++◌, ℕ, length, drop}
use Rattle.answers.specs.Answers.{Answer, gives, nothing, refused, refusal_in, value_at}
use Rattle.graph.specs.Runs.{Graph}
use Rattle.lookup.specs.Steps.{on, ◌>>=◌, answer, lent_part, lent}
use Rattle.cursor.specs.RunSteps.{Moves}
use Rattle.flat.specs.Flat.{plainly, found, value_in, is_given}
use Rattle.flat.specs.declared.lookups.FlatSought.{FlatSought}
use Rattle.flat.specs.declared.lookups.FlatCursor.{FlatCursor}
use Rattle.flat.specs.declared.lookups.FlatIndex.{FlatIndex}
use Rattle.flat.specs.declared.lookups.FlatWord.{FlatWord}

abbrev pub sought_of : FlatSought → Answer
sought_of r = plainly r.refusal (found r.found (r.place ∷ r.before ∷ []))

abbrev pub flat_sought : Answer → FlatSought
flat_sought a = record { refusal = refusal_in a; found = is_given a; place = value_in a; before = value_at 1 a }

-- ---- the cursor
-- "made at a lent node": elsewhere 14, as each step from there
unfoldable pub made_in : Graph → ℕ → Moves
made_in g p =
    record {
      answer = answer do
        _ ← lent g p
        on (gives (p ∷ []));
      at = p;
    }

-- over what is lent
unfoldable pub made_at : Graph → ℕ → Moves
made_at g p = made_in (lent_part g) p

-- "at an end node it says done and stays": done is none
abbrev pub unless_done : Bool → ℕ → Answer
unless_done true at = nothing
unless_done false at = gives (at ∷ [])

abbrev pub cursor_of : FlatCursor → Moves
cursor_of r = record { answer = plainly r.refusal (unless_done r.done r.at); at = r.at }

abbrev pub is_none : Answer → Bool
is_none (gives vs) = false
is_none nothing = true
is_none (refused n vs) = false

abbrev pub flat_cursor : Moves → FlatCursor
flat_cursor m = record { refusal = refusal_in m.answer; done = is_none m.answer; at = m.at }

-- ---- numbers
abbrev pub index_of : FlatIndex → Answer
index_of r = plainly r.refusal (found r.found (r.number ∷ []))

abbrev pub flat_index : Answer → FlatIndex
flat_index a = record { refusal = refusal_in a; found = is_given a; number = value_in a }

abbrev pub word_of : FlatWord → Answer
word_of r = plainly r.refusal (found r.found (r.tiles ∷ []))

abbrev pub flat_word : Answer → FlatWord
flat_word a = record { refusal = refusal_in a; found = is_given a; tiles = value_in a }

-- "After a refusal or none the tiles already put stay, the rest of the buffer as before."
pub record FlatWordPut (walk : List ℕ × Answer) (before after : List ℕ) (r : FlatWord) : Type 0 where
  pub said : word_of r ≡ walk.1
  pub tiles : after ≡ walk.0 ++ drop (length walk.0) before
  pub flat : r ≡ flat_word (word_of r)
