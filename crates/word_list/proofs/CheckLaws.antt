-- A list checked word by word. The idea: the rows of the words passed refuse nothing, so that those of the bytes left answer for the list.
use Rattle.std.proofs.Common.{◌≡◌, refl, ap, ◌∙◌, List, [], ◌∷◌, ◌++◌, ℕ, zero, suc, ◌-◌, ◌≤◌, ◌<◌, true, false, ◌||◌, not, eqb, ltb, length, take, drop, arith, length-append, take_at, drop_at, le-ltb}
use Rattle.std.proofs.Math.Option.{none, some}
use Rattle.laws.specs.Lists.{some_of}
use Rattle.answers.specs.Answers.{refused, Row, first_of}
use Rattle.answers.specs.RowLaws.{row_ends, rows_refuse, rows_pass, stops_at, all_pass}
use Rattle.graph.specs.Words.{Word}
use Rattle.built.specs.Listed.{word_below, no_tile, word_row, rows_ahead, list_row}
use Rattle.word_list.specs.Checks.{IsWord, NoWord}

-- ---- no word at the head of a list
module _ {l : List ℕ} (n : ℕ) (bytes : List ℕ) (is : l ≡ n ∷ bytes) where
  refused_at : ((before : Word) → first_of (word_row before n bytes) ≡ some (refused 32 [])) → NoWord l
  unfolding rows_ahead
  refused_at e left before = rw (is, rows_ahead) (rows_refuse (word_row before n bytes) _ (e before))

  pub bad_length : (eqb n 0 || ltb 64 n) ≡ true → NoWord l
  bad_length e = refused_at (λ before. stops_at 0 (word_row before n bytes) e)

  module _ (fits : (eqb n 0 || ltb 64 n) ≡ false) where
    pub bad-end : ltb (length bytes) n ≡ true → NoWord l
    bad-end e = refused_at (λ before. stops_at 1 (word_row before n bytes) (fits, e))

    pub bad-tile : ltb (length bytes) n ≡ false → some_of no_tile (take n bytes) ≡ true → NoWord l
    bad-tile i e = refused_at (λ before. stops_at 2 (word_row before n bytes) (fits, (i, e)))

-- ---- a word at the head
module _ {l w after : List ℕ} (b : IsWord l w after) (left : ℕ) (before : Word) where
  abbrev row : Row
  row = word_row before (length w) (w ++ after)

  there : ltb (length (w ++ after)) (length w) ≡ false
  there = le-ltb (length (w ++ after)) (length w) (let n = length-append w after in omega arith)

  front : take (length w) (w ++ after) ≡ w
  front = take_at w after (length w) refl

  pub not-above : word_below before w ≡ false → first_of (rows_ahead (suc left) before l) ≡ some (refused 33 [])
  unfolding rows_ahead
  not-above e = rw b.bytes
      (rows_refuse row _ (stops_at 3 row (b.length-fits, (there, (ap (some_of no_tile) front ∙ b.tiles, ap (λ u. not (word_below before u)) front ∙ ap not e)))))

  pub word-passed : word_below before w ≡ true → first_of (rows_ahead (suc left) before l) ≡ first_of (rows_ahead left w after)
  unfolding rows_ahead
  word-passed e =
      let back : drop (length w) (w ++ after) ≡ after = drop_at w after (length w) refl in
      let passes = all_pass row (b.length-fits, (there, (ap (some_of no_tile) front ∙ b.tiles, (ap (λ u. not (word_below before u)) front ∙ ap not e, tt)))) in
      rw (b.bytes, rows_ahead) (rows_pass row _ passes ∙ rw (front, back))

-- ---- the loop
pub record Checking (l before left : List ℕ) : Type 0 where
  pub most : ℕ
  pub enough : length left ≤ most
  pub whole : first_of (list_row l) ≡ first_of (rows_ahead most before left)

pub checking-begins : (l : List ℕ) → Checking l [] l
unfolding list_row
checking-begins l = record { most = length l; enough = omega arith; whole = refl }

nothing_left : (most : ℕ) (before : Word) (left : List ℕ) → length left ≡ 0 → first_of (rows_ahead most before left) ≡ none
unfolding rows_ahead
nothing_left zero before left e = row_ends
nothing_left (suc most) before [] e = row_ends
nothing_left (suc most) before (n ∷ bytes) e = absurd (omega arith)

module _ {l before left : List ℕ} (c : Checking l before left) where
  pub checking-ends : length left ≡ 0 → first_of (list_row l) ≡ none
  checking-ends e = c.whole ∙ nothing_left c.most before left e

  module _ (some_left : 0 < length left) where
    one_more : c.most ≡ suc (c.most - 1)
    one_more = let h = c.enough in omega arith

    pub no_word : NoWord left → first_of (list_row l) ≡ some (refused 32 [])
    no_word f = c.whole ∙ ap (λ k. first_of (rows_ahead k before left)) one_more ∙ f (c.most - 1) before

    module _ {w after : List ℕ} (b : IsWord left w after) where
      pub word-refused : word_below before w ≡ false → first_of (list_row l) ≡ some (refused 33 [])
      word-refused e = c.whole ∙ ap (λ k. first_of (rows_ahead k before left)) one_more ∙ not-above b (c.most - 1) before e

      pub fewer_left : length after < length left
      fewer_left = let n = length-append w after in omega (arith, ap length b.bytes)

      pub checking-next : word_below before w ≡ true → Checking l w after
      checking-next e =
          let f = fewer_left in
          let h = c.enough in
          record {
            most = c.most - 1;
            enough = omega arith;
            whole = c.whole ∙ ap (λ k. first_of (rows_ahead k before left)) one_more ∙ word-passed b (c.most - 1) before e;
          }
