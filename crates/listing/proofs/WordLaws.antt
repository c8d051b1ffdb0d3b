-- One number of a block: its walk's tiles in the buffer, and its line, for each answer of the walk.
use mathlib.Core.Path.{◌≡◌, sym, ap, ◌∙◌, subst}
use mathlib.Core.List.{List, [], ◌∷◌}
use Prim.Native.Nat.{ℕ, ◌≤◌, ◌<◌}
use native.Mathlib.Omega.{arith}
use lib.ListN.{length, take}
use Rattle.answers.specs.Answers.{Answer, gives, refused}
use Rattle.endian.specs.Puts.{Puts}
use Rattle.graph.specs.Words.{Word}
use Rattle.lookup.specs.Said.{said_word, WordPut}
use Rattle.lookup.specs.Walks.{word_by_index}
use Rattle.lookup.specs.WalkedLaws.{WalkLeaves, tiles-front}
use Rattle.std.specs.Prelude.{Result, Ok, Option as Maybe, Some}
use Rattle.std.proofs.Common.{Continue, Break}
use Rattle.lookup.specs.declared.refusals.WordRefusal.{WordRefusal}
use Rattle.listing.specs.Lines.{line, refusal_line}
use Rattle.listing.proofs.LinesLaws.{line-length, refusal-length}
use Rattle.listing.specs.Wordlist.{most_tiles}
use Rattle.listing.specs.Blocks.{longest, goes_on}
use Rattle.listing.specs.Printing.{walk_from}
use Rattle.listing.specs.Said.{PutWord}

-- the walk of a number left this answer and these tiles
pub record Tiled (walked : Word × Answer) (r : Result (Maybe ℕ) WordRefusal) (after : List ℕ) : Type 0 where
  pub before : List ℕ
  pub put : WordPut walked before after r

-- a buffer with room for the longest word takes the walk's tiles
pub tiled : (nodes counts : List ℕ) (start number lent : ℕ) {before after : List ℕ} {r : Result (Maybe ℕ) WordRefusal}
    → WordPut (word_by_index counts nodes lent start number) before after r
    → lent ≡ most_tiles → Tiled (walk_from nodes counts start number) r after
tiled nodes counts start number lent {before} {after} {r} p e =
    record { before = before; put = subst (λ l. WordPut (word_by_index counts nodes l start number) before after r) e p }

-- the first so many of the buffer are the walk's word
pub record WordIn (walked : Word × Answer) (n : ℕ) (buffer : List ℕ) : Type 0 where
  pub answer : walked.1 ≡ gives (n ∷ [])
  pub word : take n buffer ≡ walked.0
  pub size : n ≡ length walked.0
  pub few : n ≤ most_tiles

pub word_in : {walked : Word × Answer} {after : List ℕ} {r : Result (Maybe ℕ) WordRefusal} {n : ℕ} → WalkLeaves most_tiles 0 walked → Tiled walked r after
    → r ≡ Ok (Some n) → WordIn walked n after
word_in {walked} {after} {r} {n} w t e =
    let a : walked.1 ≡ gives (n ∷ []) = sym t.put.answer ∙ ap said_word e in
    let s : n ≡ length walked.0 = w.given n a ∙ omega arith in
    record {
      answer = a;
      word = tiles-front t.put n s;
      size = s;
      few = omega (arith, w.fits);
    }

pub line-room : (number : ℕ) (walked : Word × Answer) {n : ℕ} {buffer : List ℕ} → number < 4_294_967_296 → WalkLeaves most_tiles 0 walked
    → WordIn walked n buffer → length (line number (take n buffer)) ≤ longest
line-room number walked h w i = rw i.word (line-length number walked.0 h w.fits w.tiles)

module _ (number : ℕ) (walked : Word × Answer) {out out' : List ℕ} {at end : ℕ} where
  pub word_line : {n : ℕ} {buffer : List ℕ} → number < 4_294_967_296 → WalkLeaves most_tiles 0 walked → WordIn walked n buffer
      → Puts (line number (take n buffer)) out at out' end → PutWord number walked out at out' (Continue end)
  word_line h w i p =
      record {
        more = sym (ap goes_on i.answer);
        puts = rw i.answer (rw i.word at p);
        within = omega (arith, p.place, line-room number walked h w i);
      }

  pub word_refused : (n : ℕ) {after vs : List ℕ} {r : Result (Maybe ℕ) WordRefusal} → n < 4_294_967_296 → Tiled walked r after
      → said_word r ≡ refused n vs → Puts (refusal_line n) out at out' end → PutWord number walked out at out' (Break end)
  word_refused n h t e p =
      let a = sym t.put.answer ∙ e in
      record { more = sym (ap goes_on a); puts = rw a p; within = omega (arith, p.place, refusal-length n h) }
