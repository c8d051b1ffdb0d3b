-- What a caller of `next_block` counts on: a block lies within the lent bytes, and fewer lines are left after it.
use Rattle.std.specs.Prelude.{◌≡◌, true, false, Option as Maybe, Some, List, ℕ, ◌+◌, ◌≤◌, ◌<◌, ltb, length, drop}
use Rattle.std.proofs.Common.{sym, ap, arith, length-append}
use Rattle.std.proofs.Math.Path.{subst}
use Rattle.std.proofs.Math.Option.{some}
use borrow.Author.Tests.{ltb-true}
use Rattle.laws.specs.Cases.{split, split_option, some≢none}
use Rattle.listing.specs.Blocks.{NumberWalk, longest, all_words, numbers_in, block}
use Rattle.listing.specs.Printing.{walk_from, room, lines_left, Next, next_block}
use Rattle.listing.specs.Said.{AtFront, Makes}
use Rattle.listing.specs.declared.opening.Unprinted.{Unprinted}
use Rattle.listing.specs.declared.opening.Unprinted.TheVariants.{Refusal, Words}
use Rattle.listing.specs.declared.blocks.BlockMade.{BlockMade}

-- ---- the number to go on from
module _ (walk : NumberWalk) (count next lent : ℕ) where
  pub block_more : all_words walk next (numbers_in count next lent) ≡ true
      → (block walk count next lent).next ≡ next + numbers_in count next lent
  unfolding block
  block_more w = rw (w, block)

  pub block_over : all_words walk next (numbers_in count next lent) ≡ false → (block walk count next lent).next ≡ count
  unfolding block
  block_over w = rw (w, block)

  -- a block has a number at least, where one is left and a longest line has room
  pub some_number : next < count → longest ≤ lent → 1 ≤ numbers_in count next lent
  some_number h l = omega arith

  block-later : next < count → longest ≤ lent → next < (block walk count next lent).next
  block-later h l =
      let one = some_number h l in
      split (all_words walk next (numbers_in count next lent)) (λ w. omega (arith, block_more w)) (λ w. omega (arith, block_over w))

-- ---- the bytes
front-within : {xs a b : List ℕ} {n : ℕ} → AtFront xs a b n → n ≤ length b
front-within {xs} {a} f = omega (arith, f.size, ap length f.stored, length-append xs (drop (length xs) a))

-- ---- the lines left
module _ (nodes counts : List ℕ) where
  pub fewer_lines-left : (u : Unprinted) {b : Next} → next_block nodes counts u ≡ some b → lines_left b.unprinted < lines_left u
  unfolding next_block
  fewer_lines-left (Refusal n) {b} e =
      let v : Words 0 0 0 ≡ b.unprinted = cc in
      subst (λ x. lines_left x < 1) v (omega arith)
  fewer_lines-left (Words start count next) {b} e =
      split (ltb next count)
      (λ t. let e' = rw (t, next_block) at e in
      let n = (block (walk_from nodes counts start) count next room).next in
      let v : Words start count n ≡ b.unprinted = cc in
      let h = ltb-true next count t in
      subst (λ x. lines_left x < lines_left (Words start count next)) v
      (omega (arith, h, block-later (walk_from nodes counts start) count next room h (omega arith))))
      (λ t. let e' = rw (t, next_block) at e in some≢none (sym e'))

  -- what a caller that is handed a block knows of it
  pub made-block : (u : Unprinted) (before after : List ℕ) (r : Maybe BlockMade) {m : BlockMade} → r ≡ Some m
      → Makes (next_block nodes counts u) before after r → (m.written ≤ length after) × (lines_left m.unprinted < lines_left u)
  made-block u before after r {m} e h =
      let h' = subst (Makes (next_block nodes counts u) before after) e h in
      split_option (next_block nodes counts u)
      (λ n. absurd (subst (λ o. Makes o before after (Some m)) n h'))
      (λ b n. let made = subst (λ o. Makes o before after (Some m)) n h' in
      (front-within made.0, rw made.1 (fewer_lines-left u n)))
