-- What a Macondo file spells, from demand 3 and document 01, "Files for other programs": the words of its start node, renamed, less
-- those ending in tile 0.
use Rattle.std.specs.Prelude.{◌≡◌, Bool, false, not, ◌↔◌, ℕ, ◌+◌, ◌-◌, ◌*◌, ◌<◌, eqb, length, get_or}
use mathlib.Core.List.{List, [], ◌∷◌, map, Memᴰ}
use Rattle.laws.specs.Lists.{filtered}
use Rattle.laws.specs.NoRepeats.{NoRepeats}
use Rattle.node.specs.Nodes.{kbwg}
use Rattle.graph.specs.Runs.{Graph, start_node}
use Rattle.graph.specs.Words.{Word, words}
use Rattle.macondo_file.specs.Alphabet.{code_point, letter_of}
use Rattle.macondo_file.specs.File.{Format, marks}
use Rattle.macondo_file.specs.Reading.{count_at, letter_section, set_section, node_section, macondo_words, code_point_in, words_in_code_points}

-- "those ending in tile 0"
abbrev pub ends_in_zero : Word → Bool
ends_in_zero [] = false
ends_in_zero (t ∷ []) = eqb t 0
ends_in_zero (t ∷ u ∷ us) = ends_in_zero (u ∷ us)

abbrev pub word_ends_in_letter : Word → Bool
word_ends_in_letter w = not (ends_in_zero w)

-- "Renamed, a tile is the letter written for it here."
abbrev pub renamed_to_letters : List ℕ → Word → Word
renamed_to_letters labels = map (letter_of labels)

-- the words that the file should spell: those of the start node, less those ending in tile 0
abbrev pub ending_in_letters : Graph → Format → List Word
ending_in_letters g f = filtered word_ends_in_letter (words kbwg g (start_node g (marks f).root))

-- the file spells the words of tiles with these labels
pub record SpellsMacondo (file labels : List ℕ) (ws : List Word) : Type 0 where
  -- what is read are the words, renamed, and no others (the arc order moves words, so this is by members)
  pub read : (w : Word) → Memᴰ w (macondo_words file) ↔ Memᴰ w (map (renamed_to_letters labels) ws)
  -- none is read twice
  pub no_repeats : NoRepeats (macondo_words file)
  pub as_many : length (macondo_words file) ≡ length ws
  -- "the code points stand in rank order": the letter written for a tile has the tile's label there
  pub labels-read : (t : ℕ) → 0 < t → t < length labels → code_point_in file (letter_of labels t) ≡ get_or labels t 0
  -- so the words are read in code points too
  pub shown : (w : Word) → Memᴰ w (words_in_code_points file) ↔ Memᴰ w (map (map (code_point labels)) ws)
  -- a code point for each tile from 1 up; and name and sections, as long as their counts say, fill the file to its last byte
  pub letter-count-read : count_at (letter_section file) ≡ length labels - 1
  pub length-read : length file
      ≡ 5 + get_or file 4 0 + (4 + 4 * count_at (letter_section file)) + (4 + 8 * count_at (set_section file)) + (4 + 4 * count_at (node_section file))
