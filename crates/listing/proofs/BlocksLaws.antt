-- The lines of a block, one number at a time; and with those that are left after it they are all lines.
use mathlib.Core.Path.{◌≡◌, refl, sym, ap, ◌∙◌}
use mathlib.Core.Bool.{Bool, true, false}
use mathlib.Core.List.{List, [], ◌++◌, append-nil, append_assoc}
use Prim.Native.Nat.{ℕ, zero, suc, ◌+◌, ◌-◌, ◌*◌, ◌≤◌, ◌<◌}
use native.Mathlib.Nat.{zero-add, add-zero, suc-add, add-suc}
use native.Mathlib.Numerals.{add-one}
use native.Mathlib.Omega.{arith}
use borrow.Author.Tests.{lt-ltb, le-ltb}
use lib.ListN.{length}
use Rattle.laws.specs.Cases.{split}
use Rattle.endian.specs.Putting.{Putting, put-start}
use Rattle.endian.specs.Puts.{Puts, next-put, all-put}
use Rattle.listing.specs.Blocks.{NumberWalk, line_for, goes_on, longest, lines_of, all_words, numbers_in, block}
use Rattle.listing.specs.NextLaws.{block_more, block_over, some_number}
use Rattle.listing.proofs.PutLaws.{put_front}
use Rattle.listing.specs.Lines.{refusal_line}
use Rattle.listing.specs.Printing.{room, walk_from, next_block}
use Rattle.std.specs.Prelude.{None, Some}
use Rattle.std.specs.declared.ops.ControlFlow.{ControlFlow}
use Rattle.listing.specs.Said.{end_of, continues, PutWord, FillsBlock, Makes}
use Rattle.listing.specs.declared.opening.Unprinted.{Unprinted}
use Rattle.listing.specs.declared.opening.Unprinted.TheVariants.{Refusal, Words}
use Rattle.listing.specs.declared.blocks.BlockFilled.{BlockFilled}

module _ (walk : NumberWalk) where
  -- ---- one number, of those before e
  module _ (i e : ℕ) (h : i < e) where
    one_more : e - i ≡ suc (e - suc i)
    one_more = omega arith

    pub lines_next : goes_on (walk i).1 ≡ true
        → lines_of walk i (e - i) ≡ line_for i (walk i).0 (walk i).1 ++ lines_of walk (i + 1) (e - (i + 1))
    unfolding lines_of
    lines_next g = rw (add-one, one_more, lines_of) (ap (line_for i (walk i).0 (walk i).1 ++◌) (rw g))

    pub lines-last : goes_on (walk i).1 ≡ false → lines_of walk i (e - i) ≡ line_for i (walk i).0 (walk i).1 ++ []
    unfolding lines_of
    lines-last g = rw (one_more, lines_of) (ap (line_for i (walk i).0 (walk i).1 ++◌) (rw g))

    pub words-next : goes_on (walk i).1 ≡ true → all_words walk i (e - i) ≡ all_words walk (i + 1) (e - (i + 1))
    unfolding all_words
    words-next g = rw (add-one, one_more, all_words) (rw g)

    pub words_last : goes_on (walk i).1 ≡ false → all_words walk i (e - i) ≡ false
    unfolding all_words
    words_last g = rw (one_more, all_words) (rw g)

  -- ---- a block on the way: of the numbers from next to e, those from i on are left, and go to `at`
  pub record BlockFilling (next e : ℕ) (before out : List ℕ) (i at : ℕ) : Type 0 where
    pub from : next ≤ i
    pub to : i ≤ e
    pub room : at ≤ longest * (i - next)
    pub left : Putting (lines_of walk next (e - next)) before 0 (lines_of walk i (e - i)) out at
    pub words : all_words walk i (e - i) ≡ all_words walk next (e - next)

  pub block_filling_start : (next e : ℕ) (before : List ℕ) → next ≤ e → BlockFilling next e before before next 0
  block_filling_start next e before h =
      record { from = omega arith; to = h; room = omega arith; left = put-start (lines_of walk next (e - next)) before 0; words = refl }

  module _ {next e : ℕ} {before out : List ℕ} {i at : ℕ} (f : BlockFilling next e before out i at) where
    pub fill-size : length out ≡ length before
    fill-size = f.left.size

    module _ (h : i < e) where
      pub fill-next : {out' : List ℕ} {r : ControlFlow ℕ ℕ} → PutWord i (walk i) out at out' r → continues r ≡ true
          → BlockFilling next e before out' (i + 1) (end_of r)
      fill-next p m =
          let g = sym p.more ∙ m in
          record {
            from = omega (arith, f.from);
            to = omega arith;
            room = omega (arith, f.from, f.room, p.within);
            left = next-put (lines_of walk (i + 1) (e - (i + 1))) f.left (lines_next i e h g) p.puts;
            words = sym (words-next i e h g) ∙ f.words;
          }

      -- the end of the block after what is not a word
      fill_end : {out' : List ℕ} {r : ControlFlow ℕ ℕ} → PutWord i (walk i) out at out' r → continues r ≡ false
          → Puts (lines_of walk next (e - next)) before 0 out' (end_of r)
      fill_end p m = all-put (next-put [] f.left (lines-last i e h (sym p.more ∙ m)) p.puts) refl

    module _ (count : ℕ) (b : e ≡ next + numbers_in count next (length before)) where
      lines_in : e - next ≡ numbers_in count next (length before)
      lines_in = omega arith

      pub fill-room : i < e → at + longest ≤ length out
      fill-room h = omega (arith, f.from, f.room, fill-size, b)

      pub fill-last : (h : i < e) {out' : List ℕ} {r : ControlFlow ℕ ℕ} → PutWord i (walk i) out at out' r → continues r ≡ false
          → FillsBlock (block walk count next (length before)) before out' (record { next = count; written = (end_of r) })
      unfolding block
      fill-last h {out'} {r} p m =
          let w = sym f.words ∙ words_last i e h (sym p.more ∙ m) in
          let q = rw lines_in at (fill_end h p m) in
          record {
            next = sym (block_over walk count next (length before) (rw lines_in at w));
            front = put_front q (omega (arith, q.place, p.within, fill-room h, fill-size));
          }

      pub fill_done : e ≤ i → FillsBlock (block walk count next (length before)) before out (record { next = e; written = at })
      unfolding block lines_of all_words
      fill_done h =
          let z : e - i ≡ 0 = omega (arith, f.to) in
          let w = rw (z, lines_in) at f.words in
          let q = rw lines_in at (all-put f.left (rw z)) in
          record {
            next = omega (arith, block_more walk count next (length before) (sym w), f.to, f.from, lines_in);
            front = put_front q (omega (arith, q.place, f.room, f.to, f.from, b));
          }

  -- ---- a block and what is left after it
  -- the lines of more numbers follow where each had a word
  then_lines : Bool → List ℕ → List ℕ
  then_lines true l = l
  then_lines false l = []

  lines_and : (i j k : ℕ) → lines_of walk i (j + k) ≡ lines_of walk i j ++ then_lines (all_words walk i j) (lines_of walk (i + j) k)
  unfolding lines_of all_words then_lines
  lines_and i zero k = rw (zero-add, add-zero)
  lines_and i (suc j) k =
      split (goes_on (walk i).1)
      (λ g. rw (suc-add, g) (ap (line_for i (walk i).0 (walk i).1 ++◌) (lines_and (suc i) j k ∙ rw (suc-add, ← add-suc))
      ∙ sym (append_assoc (line_for i (walk i).0 (walk i).1) (lines_of walk (suc i) j) _)))
      (λ g. rw (suc-add, g) (sym (append-nil (line_for i (walk i).0 (walk i).1 ++ []))))

  lines-on : (i j k : ℕ) → all_words walk i j ≡ true → lines_of walk i (j + k) ≡ lines_of walk i j ++ lines_of walk (i + j) k
  unfolding then_lines
  lines-on i j k w = lines_and i j k ∙ ap (λ b. lines_of walk i j ++ then_lines b (lines_of walk (i + j) k)) w

  lines_over : (i j k : ℕ) → all_words walk i j ≡ false → lines_of walk i (j + k) ≡ lines_of walk i j ++ []
  unfolding then_lines
  lines_over i j k w = lines_and i j k ∙ ap (λ b. lines_of walk i j ++ then_lines b (lines_of walk (i + j) k)) w

  pub block-then-rest : (count next room : ℕ) → next < count → longest ≤ room
      → lines_of walk next (count - next)
      ≡ (block walk count next room).bytes ++ lines_of walk (block walk count next room).next (count - (block walk count next room).next)
  unfolding block lines_of
  block-then-rest count next room h l =
      let k = numbers_in count next room in
      let one = some_number walk count next room h l in
      let all : count - next ≡ k + (count - (next + k)) = omega arith in
      let z : count - count ≡ 0 = omega arith in
      split (all_words walk next k)
      (λ w. ap (lines_of walk next) all ∙ lines-on next k (count - (next + k)) w
      ∙ sym (ap (λ i. lines_of walk next k ++ lines_of walk i (count - i)) (block_more walk count next room w)))
      (λ w. ap (lines_of walk next) all ∙ lines_over next k (count - (next + k)) w
      ∙ sym (ap (λ i. lines_of walk next k ++ lines_of walk i (count - i)) (block_over walk count next room w) ∙ rw z))

-- ---- the next block
module _ (nodes counts : List ℕ) (u : Unprinted) (before after : List ℕ) where
  pub made-refusal : (n written : ℕ) → u ≡ Refusal n → length (refusal_line n) ≤ length before → Puts (refusal_line n) before 0 after written
      → Makes (next_block nodes counts u) before after (Some (record { written = written; unprinted = Words 0 0 0 }))
  unfolding next_block
  made-refusal n written e h p = rw e (put_front p h, refl)

  module _ (start count next : ℕ) (e : u ≡ Words start count next) where
    pub made-words : (f : BlockFilled) (onward : ℕ) → next < count → length before ≡ room
        → FillsBlock (block (walk_from nodes counts start) count next (length before)) before after f → onward ≡ f.next
        → Makes (next_block nodes counts u) before after (Some (record { written = f.written; unprinted = Words start count onward }))
    unfolding next_block
    made-words f onward h l p i =
        let p' = rw l at p in rw (e, lt-ltb next count h, next_block) (p'.front, ap (Words start count) (i ∙ p'.next))

    pub made-done : count ≤ next → after ≡ before → Makes (next_block nodes counts u) before after None
    unfolding next_block
    made-done h s = rw (e, le-ltb next count h, next_block) s
