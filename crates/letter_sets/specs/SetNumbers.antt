-- The letter sets in the work list for n nodes, and each block's number; from document 01, "Files for other programs".
use Rattle.std.specs.Prelude.{◌≡◌, false, List, [], map, ℕ, ◌+◌, ◌*◌, ◌<◌, length, get_or, drop}
use Rattle.laws.specs.Firsts.{place_in, firsts}
use Rattle.graph.specs.Runs.{Graph}
use Rattle.export.specs.Starts.{unlabelled}
use Rattle.block_record.specs.Record.{blocks_in}
use Rattle.macondo_file.specs.File.{set_of}
use Rattle.dictionary.specs.Keys.{key_at, keys_in}
use Rattle.letter_sets.specs.Letters.{Ranks}

-- set i: the places from 3n on hold a dictionary of the sets
abbrev pub set_at : ℕ → List ℕ → ℕ → ℕ
set_at n w = key_at n (drop (3 * n) w)

-- the first k sets
abbrev pub sets_in : ℕ → List ℕ → ℕ → List ℕ
sets_in n w = keys_in n (drop (3 * n) w)

-- "sets from 0 by first appearance in that order": the sets of so many blocks, where `set` gives the set of a run
abbrev pub sets_for : (ℕ → ℕ) → ℕ → List ℕ → ℕ → List ℕ
sets_for set n w blocks = firsts [] (map set (blocks_in n w blocks))

-- the sets stand in the list, each block has its number, and what stood before the numbers stays
pub record SetsNumbered (set : ℕ → ℕ) (n blocks : ℕ) (before after : List ℕ) (count : ℕ) : Type 0 where
  pub sets-are : sets_in n after count ≡ sets_for set n before blocks
  pub counted : count ≡ length (sets_for set n before blocks)
  pub numbers : (j : ℕ) → j < blocks → get_or after (2 * n + j) 0 ≡ place_in (sets_for set n before blocks) (set (get_or before (n + j) 0))
  pub kept : (i : ℕ) → i < 2 * n → get_or after i 0 ≡ get_or before i 0

-- they are, whatever labels the table of ranks is of
abbrev pub RankedSetsNumbered : Graph → List ℕ → ℕ → List ℕ → List ℕ → ℕ → Type 0
RankedSetsNumbered g ranks blocks before after count =
    (labels : List ℕ) → unlabelled g labels ≡ false → Ranks labels ranks → SetsNumbered (set_of g labels) (length g) blocks before after count
