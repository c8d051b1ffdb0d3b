-- As many words of a text as there is room for, one line after the other, each as the call for one word reads it.
use Rattle.std.specs.Prelude.{Bool, true, false, List, [], ◌∷◌, ◌++◌, ℕ, zero, suc, ◌-◌, eqb, ltb, length, get_or}
use Rattle.answers.specs.Answers.{Answer, gives, nothing, refused}
use Rattle.text.specs.Lines.{lines}
use Rattle.label_index.specs.Labels.{Label, bad_line, labels_in}
use Rattle.typed.specs.Texts.{line_start, word_from_place, unless_bad}

pub record Batch : Type 0 where
  -- how many tiles each word has, and the tiles of all of them
  pub sizes : List ℕ
  pub tiles : List ℕ
  -- the place after the ending of the last line that is read, or the place given
  pub after : ℕ
  -- what stopped the reading, and the tiles that the refused line had put by then
  pub stop : Answer
  pub begun : List ℕ

abbrev pub stopping : ℕ → List ℕ × Answer → Batch
stopping at r = record { sizes = []; tiles = []; after = at; stop = r.1; begun = r.0 }

-- a word before those of a batch
abbrev pub with_word : ℕ → List ℕ → Batch → Batch
with_word n ts b = record { sizes = n ∷ b.sizes; tiles = ts ++ b.tiles; after = b.after; stop = b.stop; begun = b.begun }

-- there is no room for the number of a word's tiles: 16, where a line is left
abbrev pub full_or_end : Bool → Answer
full_or_end true = refused 16 []
full_or_end false = nothing

-- a word, and then what is read from the place after its line; any other answer stops the reading
abbrev pub batch_by : ℕ → List ℕ → Answer → ((tiles after : ℕ) → Batch) → Batch
batch_by at ts (gives vs) next = with_word (get_or vs 3 0) ts (next (get_or vs 3 0) (get_or vs 2 0))
batch_by at ts nothing next = stopping at (ts, nothing)
batch_by at ts (refused r vs) next = stopping at (ts, refused r vs)

module _ (ls : List Label) (text : List ℕ) where
  -- from a place on, with room for so many words' numbers and for so many tiles in all
  unfoldable pub batch_from : (slots room at : ℕ) → Batch
  batch_from zero room at = stopping at ([], full_or_end (ltb (line_start text at) (length text)))
  batch_from (suc slots) room at =
      let r = word_from_place ls text room at in
      batch_by at r.0 r.1 (λ tiles after. batch_from slots (room - tiles) after)

-- where no word was read, what stopped the reading
abbrev pub or_stop : (no_word : Bool) → (stop read : Answer) → Answer
or_stop true stop read = stop
or_stop false stop read = read

-- how many words, how many tiles, and the place after the last line
abbrev pub batch_answer : Batch → Answer
batch_answer b = or_stop (eqb (length b.sizes) 0) b.stop (gives (length b.sizes ∷ length b.tiles ∷ b.after ∷ []))

unfoldable pub read_words : (file text : List ℕ) → (slots room at : ℕ) → Batch
read_words file text slots room at =
    unless_bad (bad_line 1 (lines file)) (λ r. stopping at ([], r)) (batch_from (labels_in file) text slots room at)
