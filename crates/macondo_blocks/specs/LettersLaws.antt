-- The letters are tiles below the label count, and the letter written for a tile is its place among them, at most 50.
use Rattle.std.specs.Prelude.{◌≡◌, refl, List, ℕ, ◌≤◌, ◌<◌, length}
use Rattle.std.proofs.Common.{arith}
use Rattle.laws.specs.Lists.{All, all_weaken, all_members}
use Rattle.macondo_file.specs.Alphabet.{letters, letter_in, letter_of}
use Rattle.macondo_file.proofs.AlphabetLaws.{in_letters}

pub letters-below : (labels : List ℕ) → All (λ t. t < length labels) (letters labels)
letters-below labels = all_members _ (letters labels) (λ t m. (in_letters labels t m).1)

pub letters-low : (labels : List ℕ) → length labels ≤ 50 → All (λ t. t < 64) (letters labels)
letters-low labels few = all_weaken (λ t. t < length labels) (λ t. t < 64) (λ t h. omega arith) (letters labels) (letters-below labels)

pub letter-in : (labels : List ℕ) (t : ℕ) → letter_in (letters labels) t ≡ letter_of labels t
unfolding letter_of
letter-in labels t = refl
