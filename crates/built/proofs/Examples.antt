-- Small lists and their graphs, computed.
use Rattle.std.specs.Prelude.{◌≡◌, refl, [], ◌∷◌}
use Rattle.std.proofs.Math.Option.{none, some}
use Rattle.laws.specs.Same.{same}
use Rattle.answers.specs.Answers.{refused, first_of}
use Rattle.export.specs.Blocks.{met, block_at}
use Rattle.built.specs.Branches.{branches_with, branches, onwards}
use Rattle.built.specs.Built.{same_words, run_nodes, word_runs, arc_to, built}
use Rattle.built.specs.Listed.{words_ahead, words_listed, rows_ahead, list_row}

-- 1, 1 2, 2
three : built ((1 ∷ []) ∷ (1 ∷ 2 ∷ []) ∷ (2 ∷ []) ∷ []) ≡ 0x240 ∷ 0x40 ∷ 0x481 ∷ 0xC2 ∷ 0xC2 ∷ []
unfolding built word_runs met onwards branches branches_with run_nodes arc_to block_at same_words same
three = refl

-- 1 3, 2 3: one run for what follows both
shares_a-run : built ((1 ∷ 3 ∷ []) ∷ (2 ∷ 3 ∷ []) ∷ []) ≡ 0x240 ∷ 0x40 ∷ 0x401 ∷ 0x442 ∷ 0xC3 ∷ []
unfolding built word_runs met onwards branches branches_with run_nodes arc_to block_at same_words same
shares_a-run = refl

-- 1 1 5, 2 6: depth first
deep : built ((1 ∷ 1 ∷ 5 ∷ []) ∷ (2 ∷ 6 ∷ []) ∷ []) ≡ 0x240 ∷ 0x40 ∷ 0x401 ∷ 0x642 ∷ 0x541 ∷ 0xC5 ∷ 0xC6 ∷ []
unfolding built word_runs met onwards branches branches_with run_nodes arc_to block_at same_words same
deep = refl

read : words_listed (1 ∷ 1 ∷ 2 ∷ 1 ∷ 2 ∷ 1 ∷ 2 ∷ []) ≡ (1 ∷ []) ∷ (1 ∷ 2 ∷ []) ∷ (2 ∷ []) ∷ []
unfolding words_listed words_ahead
read = refl

passes : first_of (list_row (1 ∷ 1 ∷ 2 ∷ 1 ∷ 2 ∷ 1 ∷ 2 ∷ [])) ≡ none
unfolding list_row rows_ahead first_of
passes = refl

-- the same word again; within a word 32 before 33; the first faulty word decides; a list that ends inside a word
again : first_of (list_row (1 ∷ 5 ∷ 1 ∷ 5 ∷ [])) ≡ some (refused 33 [])
unfolding list_row rows_ahead first_of
again = refl

tile-first : first_of (list_row (1 ∷ 5 ∷ 1 ∷ 0 ∷ [])) ≡ some (refused 32 [])
unfolding list_row rows_ahead first_of
tile-first = refl

first_word : first_of (list_row (1 ∷ 5 ∷ 1 ∷ 4 ∷ 0 ∷ [])) ≡ some (refused 33 [])
unfolding list_row rows_ahead first_of
first_word = refl

cut_short : first_of (list_row (1 ∷ 5 ∷ 2 ∷ 6 ∷ [])) ≡ some (refused 32 [])
unfolding list_row rows_ahead first_of
cut_short = refl
