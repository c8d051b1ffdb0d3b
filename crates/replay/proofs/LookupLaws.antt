-- The flat answer of a number's word, over the inputs read from the words of a case, has the fields of the reply.
use mathlib.Core.Path.{◌≡◌, ap, ◌∙◌}
use mathlib.Core.List.{List, [], ◌∷◌, ◌++◌}
use Prim.Native.Nat.{ℕ}
use lib.ListN.{length, get_or, take, drop}
use Rattle.base.specs.Numbers.{flag}
use Rattle.answers.specs.Answers.{Answer}
use Rattle.graph.specs.Words.{Word}
use Rattle.lookup.specs.Walks.{word_by_index}
use Rattle.flat.specs.FlatLookups.{flat_word, FlatWordPut}
use Rattle.flat.specs.declared.lookups.FlatWord.{FlatWord}
use Rattle.replay.specs.Lookups.{word_fields, word_walk, word_reply_in, unmarked}

module _ (ws : List ℕ) where
  walk_is : (rest g counts : List ℕ) (n p idx room : ℕ) → rest ≡ drop 3 ws → n ≡ get_or ws 2 0 → g ≡ take n rest → counts ≡ drop n rest → p ≡ get_or ws 0 0
      → idx ≡ get_or ws 1 0 → word_by_index counts g room p idx ≡ word_walk ws room
  unfolding word_walk
  walk_is rest g counts n p idx room er en eg ec ep ei = rw (eg, ec, ep, ei, en, er)

  pub word_fields_lem : (r : FlatWord) (lent after put rest g counts : List ℕ) (n p idx b : ℕ) → rest ≡ drop 3 ws → n ≡ get_or ws 2 0 → g ≡ take n rest
      → counts ≡ drop n rest → p ≡ get_or ws 0 0 → idx ≡ get_or ws 1 0 → b ≡ flag r.found
      → FlatWordPut (word_by_index counts g (length lent) p idx) lent after r → put ≡ unmarked after
      → (r.refusal ∷ b ∷ r.tiles ∷ []) ++ put ≡ word_reply_in ws lent
  unfolding word_reply_in
  word_fields_lem r lent after put rest g counts n p idx b er en eg ec ep ei eb walked eu =
      let w = walk_is rest g counts n p idx (length lent) er en eg ec ep ei in
      let head : r ≡ flat_word (word_walk ws (length lent)).1 = walked.flat ∙ ap flat_word (walked.said ∙ ap (λ (x : Word × Answer). x.1) w) in
      let tiles : after ≡ (word_walk ws (length lent)).0 ++ drop (length (word_walk ws (length lent)).0) lent
      = walked.tiles ∙ ap (λ (x : Word × Answer). x.0 ++ drop (length x.0) lent) w in
      rw (eb, eu, tiles)
      (ap (λ (x : FlatWord). word_fields x ++ unmarked ((word_walk ws (length lent)).0 ++ drop (length (word_walk ws (length lent)).0) lent)) head)
