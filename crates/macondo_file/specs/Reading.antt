-- The words of a Macondo file, from document 01: "Read: block 0's words; from a block, each letter of its set; each arc's letter before
-- the child's words."
use Rattle.std.specs.Prelude.{true, false, List, [], ◌∷◌, ◌++◌, map, ℕ, zero, suc, ◌+◌, ◌*◌, ◌/◌, ◌%◌, ◌^◌, get_or, take, drop}
use Rattle.laws.specs.Bits.{has_bit}
use Rattle.endian.specs.Bytes.{from_big, big_numbers}
use Rattle.graph.specs.Words.{Word, in_order}

-- "each letter of its set": those below n
abbrev pub set_words : ℕ → ℕ → List Word
set_words zero set = []
set_words (suc r) set = set_words r set ++ elim (has_bit set r) [ true ↦ (r ∷ []) ∷ [] | false ↦ [] ]

-- "each arc's letter before the child's words"
abbrev pub arc_words : (ℕ → List Word) → ℕ → List Word
arc_words from v = map ((v / 2 ^ 24) ∷◌) (from (v % 2 ^ 24))

-- the words from block b that follow fewer than k arcs
unfoldable pub block_words : List ℕ → List ℕ → ℕ → ℕ → List Word
block_words letter_sets nodes zero b = []
block_words letter_sets nodes (suc k) b =
    set_words 64 (get_or letter_sets (get_or nodes b 0 % 2 ^ 24) 0)
    ++ in_order (arc_words (block_words letter_sets nodes k)) (take (get_or nodes b 0 / 2 ^ 24) (drop (suc b) nodes))

-- a section: its count, its numbers, and the bytes after it
abbrev pub count_at : List ℕ → ℕ
count_at bytes = from_big 0 (take 4 bytes)

abbrev pub numbers_at : ℕ → List ℕ → List ℕ
numbers_at width bytes = big_numbers width (count_at bytes) (drop 4 bytes)

abbrev pub after_section : ℕ → List ℕ → List ℕ
after_section width bytes = drop (4 + width * count_at bytes) bytes

-- where the sections begin: magic, name length, name; code points; sets; nodes
abbrev pub letter_section : List ℕ → List ℕ
letter_section file = drop (5 + get_or file 4 0) file

abbrev pub set_section : List ℕ → List ℕ
set_section file = after_section 4 (letter_section file)

abbrev pub node_section : List ℕ → List ℕ
node_section file = after_section 8 (set_section file)

-- "block 0's words": no path follows as many arcs as there are nodes
unfoldable pub macondo_words : List ℕ → List Word
macondo_words file = block_words (numbers_at 8 (set_section file)) (numbers_at 4 (node_section file)) (count_at (node_section file)) 0

-- the code point that the file has for a letter; the 50 of tile 0 has none there, and is read as 5E, where tile 0 stands "in the arc
-- order"
abbrev pub code_point_in : List ℕ → ℕ → ℕ
code_point_in file r = get_or (numbers_at 4 (letter_section file)) r 0x5E

-- the words of the file in code points
abbrev pub words_in_code_points : List ℕ → List Word
words_in_code_points file = map (map (code_point_in file)) (macondo_words file)
