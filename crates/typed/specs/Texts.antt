-- Words from a place of a text: "A call reads the next line that isn't empty from a byte place and answers the line, its tiles and the place after
-- its ending, or, where none is left or the place is past the text, the end" (02, C-13).
use Rattle.std.specs.Prelude.{Bool, true, false, List, [], ◌∷◌, ℕ, suc, ◌+◌, ltb, length, drop}
use Rattle.std.proofs.Math.Option.{Option, none, some}
use Rattle.answers.specs.Answers.{Answer, gives, nothing, refused}
use Rattle.text.specs.Lines.{is_ending, lines, first_line, line_width}
use Rattle.label_index.specs.Labels.{Label, bad_line, labels_in}
use Rattle.typed.specs.Words.{typed_word}

-- the bytes of the empty lines that a text begins with (`Reading.next-then-rest`)
unfoldable pub empty_width : List ℕ → ℕ
empty_width [] = 0
empty_width (b ∷ s) = elim (is_ending b) [ true ↦ suc (empty_width s) | false ↦ 0 ]

-- where the next line that is not empty begins
abbrev pub line_start : List ℕ → ℕ → ℕ
line_start text at = at + empty_width (drop at text)

-- where the line at place p ends, and the place after its ending
abbrev pub line_end : List ℕ → ℕ → ℕ
line_end text p = p + length (first_line (drop p text))

abbrev pub line_after : List ℕ → ℕ → ℕ
line_after text p = p + line_width (drop p text)

-- a word's answer, with the line's two ends and the place after its ending
abbrev pub on_line : (start end after : ℕ) → Answer → Answer
on_line start end after (gives ns) = gives (start ∷ end ∷ after ∷ ns)
on_line start end after nothing = nothing
on_line start end after (refused r ns) = refused r ns

module _ (ls : List Label) (text : List ℕ) where
  -- the word of the line at place p, with room for so many tiles
  unfoldable pub word_of_line : (room p : ℕ) → List ℕ × Answer
  word_of_line room p =
      let r = typed_word ls (first_line (drop p text)) p room in
      (r.0, on_line p (line_end text p) (line_after text p) r.1)

  abbrev pub or_end : Bool → (room p : ℕ) → List ℕ × Answer
  or_end true room p = word_of_line room p
  or_end false room p = ([], nothing)

  -- the next word from a place, by labels already read
  unfoldable pub word_from_place : (room at : ℕ) → List ℕ × Answer
  word_from_place room at = or_end (ltb (line_start text at) (length text)) room (line_start text at)

-- "27 for the first bad line of the label file .., checked before any word"
abbrev pub unless_bad : {A : Type 0} → Option ℕ → (Answer → A) → A → A
unless_bad (some n) refusing r = refusing (refused 27 (n ∷ []))
unless_bad none refusing r = r

unfoldable pub next_word : (file text : List ℕ) → (room at : ℕ) → List ℕ × Answer
next_word file text room at = unless_bad (bad_line 1 (lines file)) (λ r. ([], r)) (word_from_place (labels_in file) text room at)
