-- The five nodes of document 01 are what building makes of their words, and they meet the premises of what is promised of a built lexicon.
use mathlib.Core.Path.{◌≡◌, refl, ap, ◌∙◌}
use mathlib.Core.List.{List, [], ◌∷◌, ◌++◌, append-nil}
use mathlib.Core.Option.{none}
use Prim.Native.Nat.{ℕ}
use native.Mathlib.Omega.{arith}
use lib.ListN.{length, take, drop, replicate}
use Rattle.laws.specs.Same.{same}
use Rattle.answers.specs.Answers.{gives, first_of}
use Rattle.endian.specs.Bytes.{node_bytes}
use Rattle.node.specs.declared.Layout.TheVariants.{Kbwg}
use Rattle.graph.specs.Runs.{Graph}
use Rattle.graph.specs.Counting.{counts, count_limit}
use Rattle.export.specs.Blocks.{met, block_at}
use Rattle.built.specs.Branches.{branches_with, branches, onwards}
use Rattle.built.specs.Built.{same_words, run_nodes, word_runs, arc_to, built}
use Rattle.built.specs.Listed.{words_ahead, words_listed, rows_ahead, list_row}
use Rattle.built.specs.Build.{Building, build_checks, build_row, build_as}
use Rattle.guarantees.specs.Starred.{five_nodes}
use Rattle.guarantees.specs.Demand3.{loaded_graph}
use Rattle.guarantees.specs.BuiltLexicon.{LexiconInUse}
use Rattle.guarantees.proofs.BuiltLexiconLaws.{built_lexicons}
use Rattle.guarantees.proofs.BuiltRoomLaws.{room-enough}

-- 1; 1 2; 2 2
abbrev list : List ℕ
list = 1 ∷ 1 ∷ 2 ∷ 1 ∷ 2 ∷ 2 ∷ 2 ∷ 2 ∷ []

abbrev zeros : List ℕ
zeros = replicate 5 0

abbrev made : Building
made = build_as list 128 zeros

G-built : (made.answer ≡ gives (5 ∷ [])) × (made.nodes ≡ five_nodes)
unfolding build_as build_row list_row rows_ahead words_listed words_ahead first_of built word_runs met onwards branches branches_with run_nodes arc_to block_at same_words same
G-built = (refl, refl)

three-words : length (words_listed list) ≡ 3
unfolding words_listed words_ahead
three-words = refl

-- the file of its nodes, in one piece
abbrev file : List ℕ
file = node_bytes (take 5 made.nodes)

abbrev loaded_five_nodes : Graph
loaded_five_nodes = loaded_graph (length file) Kbwg zeros (file ∷ []) 5

G_in_use : LexiconInUse count_limit (words_listed list) (length file) zeros (file ∷ []) 5 (counts loaded_five_nodes ++ drop 5 zeros)
G_in_use =
    let e = three-words in
    built_lexicons count_limit list 128 zeros 5 G-built.0 (omega arith) zeros (omega arith) (file ∷ []) (append-nil file) zeros 10 (omega arith) (omega arith)

-- the list has eight bytes, and ten nodes are enough
list-passes : (first_of (build_checks list 128) ≡ none) × (length (built (words_listed list)) ≡ 5)
unfolding list_row rows_ahead words_listed words_ahead first_of built word_runs met onwards branches branches_with run_nodes arc_to block_at same_words same
list-passes = (refl, refl)

G-room : (build_as list 128 (replicate 10 0)).answer ≡ gives (5 ∷ [])
G-room = let n = list-passes.1 in room-enough list 128 (replicate 10 0) list-passes.0 (omega arith) (omega arith) ∙ ap (λ k. gives (k ∷ [])) n
