-- A walk's answer as a row: its tiles stand at the front of a buffer as long as the word's columns.
use mathlib.Core.Path.{◌≡◌, sym, ap, ◌∙◌}
use mathlib.Core.List.{List}
use Prim.Native.Nat.{ℕ, suc, min}
use native.Mathlib.Omega.{arith}
use lib.Dec.{ltb}
use borrow.Author.Tests.{lt-ltb, le-ltb}
use lib.ListN.{length, drop, length-append, length-drop}
use Rattle.answers.specs.Answers.{Answer}
use Rattle.graph.specs.Words.{Word}
use Rattle.lookup.specs.Said.{said_word, WordPut}
use Rattle.lookup.specs.WalkedLaws.{WalkLeaves, tiles-front}
use Rattle.std.specs.Prelude.{Result, Ok, Err, Option as Maybe, None, Some}
use Rattle.lookup.specs.declared.refusals.LookupRefusal.{LookupRefusal}
use Rattle.lookup.specs.declared.refusals.WordRefusal.{WordRefusal}
use Rattle.lookup.specs.declared.refusals.WordRefusal.TheVariants as W
use Rattle.page.specs.Shown.{shown_by}
use Rattle.page.specs.Held.{held_word}
use Rattle.page.specs.Said.{RowPut, found_try}

-- a walk with room for so many tiles, and what it leaves in a buffer of that length
pub record Walked (columns : ℕ) (walk : Word × Answer) (before after : List ℕ) (r : Result (Maybe ℕ) WordRefusal) : Type 0 where
  pub leaves : WalkLeaves columns 0 walk
  pub put : WordPut walk before after r
  pub size : length before ≡ columns

module _ {columns : ℕ} {walk : Word × Answer} {before after : List ℕ} {r : Result (Maybe ℕ) WordRefusal} (w : Walked columns walk before after r) where
  answered : {v : Result (Maybe ℕ) WordRefusal} → r ≡ v → walk.1 ≡ said_word v
  answered e = sym w.put.answer ∙ ap said_word e

  long : length after ≡ columns
  long =
      let tiles = walk.0 in
      let rest = drop (length tiles) before in
      ap length w.put.front ∙ omega (arith, w.size, length-append tiles rest, length-drop (length tiles) before, w.leaves.fits)

  -- the first tiles of the buffer are the walk's
  held-is : (n tiles : ℕ) → min tiles columns ≡ length walk.0
      → held_word (length after) n after tiles ≡ record { number = n; tiles = walk.0; more = ltb columns tiles }
  held-is n tiles e =
      let front = tiles-front w.put (min tiles columns) e in
      rw (long, front)

  row_put : {n : ℕ} {f : Result (Maybe ℕ) LookupRefusal} → found_try n f after ≡ shown_by n walk → RowPut n walk before after f
  row_put e = record { size = long ∙ sym w.size; found = e; tiles = w.put.front }

  module _ {n : ℕ} where
    pub row-found : (found : Maybe ℕ) → r ≡ Ok found → RowPut n walk before after (Ok found)
    row-found (Some count) e =
        let c = w.leaves.given count (answered e) in
        let few = le-ltb columns count (omega (arith, c, w.leaves.fits)) in
        row_put (rw (answered e, held-is n count (omega (arith, c, w.leaves.fits)), few))
    row-found None e = row_put (rw (answered e))

    pub row-full : r ≡ Err W.BufferFull → RowPut n walk before after (Ok (Some (suc columns)))
    row-full e =
        let more = lt-ltb columns (suc columns) (omega arith) in
        row_put (rw (answered e, held-is n (suc columns) (omega (arith, w.leaves.full (answered e))), more))
