-- The tiles of a line: "A word ends at the first byte of 20 hexadecimal or less that no label matches, but not at a line's first byte" (02, C-13).
use Rattle.std.specs.Prelude.{Bool, true, false, List, [], ◌∷◌, ℕ, zero, suc, ◌+◌, eqb, leb, drop}
use Rattle.std.proofs.Math.Option.{Option, none, some}
use Rattle.answers.specs.Answers.{Answer, gives, refused}
use Rattle.label_index.specs.Labels.{Label}
use Rattle.label_index.specs.Matches.{Match, match_in}

-- what stands at a place of a line: a tile, with the place after its label, or the end of the reading
pub data TypedStep : Type 0 where
  tile_there : ℕ → ℕ → TypedStep
  end_there : Answer → TypedStep

-- a byte that no label matches, after n tiles: at the line's first byte, or later and 20 hexadecimal or less, or later and above; "28 for
-- unreadable text with its byte place"
abbrev pub unmatched : (first low : Bool) → (place n : ℕ) → Answer
unmatched true low place n = refused 28 (place ∷ [])
unmatched false true place n = gives (n ∷ [])
unmatched false false place n = refused 28 (place ∷ [])

abbrev pub or_unmatched : Option Match → ℕ → Answer → TypedStep
or_unmatched (some m) i r = tile_there m.0 (i + m.1)
or_unmatched none i r = end_there r

module _ (ls : List Label) (line : List ℕ) (start : ℕ) where
  -- what follows place i of the line, which begins at place `start` of the text, after n tiles
  abbrev pub typed_step_in : List ℕ → ℕ → ℕ → TypedStep
  typed_step_in [] n i = end_there (gives (n ∷ []))
  typed_step_in (b ∷ s) n i = or_unmatched (match_in ls (b ∷ s)) i (unmatched (eqb i 0) (leb b 0x20) (start + i) n)

  unfoldable pub typed_step : ℕ → ℕ → TypedStep
  typed_step n i = typed_step_in (drop i line) n i

  -- the tiles put from place i on, with room for so many, and the answer: how many the word has; "16 for a full word buffer"
  unfoldable pub typed_from : (room n i : ℕ) → List ℕ × Answer
  typed_from zero n i = ([], elim (typed_step n i) [ tile_there t j ↦ refused 16 [] | end_there r ↦ r ])
  typed_from (suc room) n i =
      elim (typed_step n i) [
        | end_there r ↦ ([], r)
        | tile_there t j ↦ let r = typed_from room (suc n) j in (t ∷ r.0, r.1)
      ]

  -- the word of the line
  abbrev pub typed_word : ℕ → List ℕ × Answer
  typed_word room = typed_from room 0 0
