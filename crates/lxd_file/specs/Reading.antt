-- What is read from an LXD file, from document 01: "Read: node 2's words, as for runs", and document 02, C-15: "The file's words read back
-- through that table."
use Rattle.std.specs.Prelude.{List, map, ℕ, get_or, take, drop}
use Rattle.std.proofs.Math.Option.{Option}
use Rattle.endian.specs.Bytes.{whole_nodes}
use Rattle.graph.specs.Words.{words}
use Rattle.windows1252.specs.Windows1252.{code_point_of}
use Rattle.lxd_file.specs.File.{lxd}

-- the nodes after the header's 64 bytes
abbrev pub nodes_read : List ℕ → List ℕ
nodes_read file = whole_nodes (drop 64 file)

-- the words of these nodes, each letter the code point of its byte, where it has one
abbrev pub words_in : List ℕ → List (List (Option ℕ))
words_in nodes = map (map code_point_of) (words lxd nodes 2)

unfoldable pub lxd_words : List ℕ → List (List (Option ℕ))
lxd_words file = words_in (nodes_read file)

-- the header's number at a byte
abbrev pub number_at : List ℕ → ℕ → ℕ
number_at file at = get_or (whole_nodes (drop at file)) 0 0

-- "64; node count; .. word count"
abbrev pub node_count : List ℕ → ℕ
node_count file = number_at file 4

abbrev pub word_count : List ℕ → ℕ
word_count file = number_at file 60

-- "title (32 bytes) and date (20)": the code points of their bytes
abbrev pub text_at : ℕ → ℕ → List ℕ → List (Option ℕ)
text_at at size file = map code_point_of (take size (drop at file))

abbrev pub title_read : List ℕ → List (Option ℕ)
title_read file = text_at 8 32 file

abbrev pub date_read : List ℕ → List (Option ℕ)
date_read file = text_at 40 20 file
