-- The flat answers of reading words as viewers type them, over the inputs read from a case, have the fields of the reply. Each tile put is that of
-- a label, so no tile is the mark; and the words of a batch are told by the lists that it puts.
use mathlib.Core.Path.{◌≡◌, refl, sym, ap, ap₂, ◌∙◌}
use mathlib.Core.List.{List, [], ◌∷◌, ◌++◌, append_assoc}
use mathlib.Core.Option.{some}
use Prim.Native.Nat.{ℕ, zero, suc, ◌<◌, min}
use native.Mathlib.Omega.{arith}
use borrow.Author.Tests.{ne_eqb}
use lib.Dec.{ltb}
use lib.ListN.{length, get_or, take, drop, replicate, length-replicate}
use lib.Seq.{take-append_seam}
use Rattle.laws.specs.Cases.{split, split_option}
use Rattle.laws.specs.Buffers.{Filled}
use Rattle.answers.specs.Answers.{Answer, gives, nothing, refused}
use Rattle.text.specs.Lines.{lines, first_line}
use Rattle.label_index.specs.Labels.{bad_line, labels_in}
use Rattle.label_index.specs.Matches.{Match, match_in}
use Rattle.label_index.specs.LabelLaws.{labels-good}
use Rattle.label_index.specs.MatchLaws.{taken}
use Rattle.lookup.specs.WalkedLaws.{Tiles}
use Rattle.typed.specs.Words.{TypedStep, tile_there, end_there, typed_step_in, typed_step, typed_from}
use Rattle.typed.specs.Texts.{line_start, word_of_line, word_from_place, next_word}
use Rattle.typed.specs.Batches.{Batch, batch_answer, read_words}
use Rattle.typed.specs.Said.{BatchPut}
use Rattle.typed.specs.Reading.{NoWord}
use Rattle.typed.specs.BatchReading.{read-lines, no-tiles}
use Rattle.flat.specs.FlatTyped.{typed_of, flat_typed, typed_list_of, flat_typed_list}
use Rattle.flat.specs.declared.typing.FlatTyped.{FlatTyped}
use Rattle.flat.specs.declared.typing.FlatTypedList.{FlatTypedList}
use Rattle.replay.specs.Lookups.{unmarked}
use Rattle.replay.specs.Typed.{typed_fields, typed_list_fields, typed_walk, typed_reply_in, typed_reply, typed_batch, typed_list_reply_in, typed_list_reply}
use Rattle.replay.proofs.TileLaws.{put-are}
use Rattle.replay.proofs.RoomLaws.{take_same, lent-size}

-- ---- tiles are those of labels
module _ (file line : List ℕ) (start : ℕ) where
  abbrev StepTile : TypedStep → Type 0
  StepTile (tile_there t j) = t < 64
  StepTile (end_there r) = Unit

  Match-tile : (m : Match) (s : List ℕ) → match_in (labels_in file) s ≡ some m → m.0 < 64
  Match-tile m s e =
      let t = taken (labels_in file) s m e in
      let g = (labels-good file t.label t.among).tile_high in
      let i = ap (λ (x : Match). x.0) t.is in omega arith

  step-tile_in : (s : List ℕ) (n i : ℕ) → StepTile (typed_step_in (labels_in file) line start s n i)
  step-tile_in [] n i = tt
  step-tile_in (b ∷ s) n i = split_option (match_in (labels_in file) (b ∷ s)) (λ e. rw e tt) (λ m e. rw e (Match-tile m (b ∷ s) e))

  step-tile : (n i : ℕ) → StepTile (typed_step (labels_in file) line start n i)
  unfolding typed_step
  step-tile n i = step-tile_in (drop i line) n i

  typed-tiles : (room n i : ℕ) → Tiles (typed_from (labels_in file) line start room n i).0
  unfolding typed_from
  typed-tiles zero n i = tt
  typed-tiles (suc room) n i = onward (typed_step (labels_in file) line start n i) (step-tile n i) (λ j. typed-tiles room (suc n) j)
    where
      onward : (x : TypedStep) → StepTile x → ((j : ℕ) → Tiles (typed_from (labels_in file) line start room (suc n) j).0)
          → Tiles (elim x as (λ _. List ℕ × Answer) [
            | end_there r ↦ ([], r)
            | tile_there t j ↦ let r = typed_from (labels_in file) line start room (suc n) j in (t ∷ r.0, r.1)
          ]).0
      onward (tile_there t j) h later = (h, later j)
      onward (end_there r) h later = tt

module _ (file text : List ℕ) (room at : ℕ) where
  place-tiles : Tiles (word_from_place (labels_in file) text room at).0
  unfolding word_from_place word_of_line
  place-tiles =
      let p = line_start text at in
      split (ltb p (length text)) (λ t. rw t (typed-tiles file (first_line (drop p text)) p room 0 0)) (λ t. rw t tt)

  next-tiles : Tiles (next_word file text room at).0
  unfolding next_word
  next-tiles = split_option (bad_line 1 (lines file)) (λ e. rw e place-tiles) (λ n e. rw e tt)

-- ---- one word
-- a word of marks is lent, of as many as the case asks for
module _ (ws bs : List ℕ) where
  walk-tiles : (room : ℕ) → Tiles (typed_walk ws bs room).0
  unfolding typed_walk
  walk-tiles room = next-tiles (take (get_or ws 2 0) bs) (drop (get_or ws 2 0) bs) room (get_or ws 0 0)

  typed-marks : (n : ℕ) → typed_reply_in ws bs (replicate n 165) ≡ typed_fields (flat_typed (typed_walk ws bs n).1) ++ (typed_walk ws bs n).0
  unfolding typed_reply_in
  typed-marks n = rw length-replicate (ap (typed_fields (flat_typed (typed_walk ws bs n).1) ++◌) (put-are (typed_walk ws bs n).0 n (walk-tiles n)))

  pub typed-reply : (room : ℕ) → room ≡ min (get_or ws 1 0) 64 → typed_reply_in ws bs (take room (replicate 64 165)) ≡ typed_reply ws bs
  unfolding typed_reply
  typed-reply room e = rw (take_same room 64 165 (omega arith), e) (typed-marks (min (get_or ws 1 0) 64))

  pub typed-fields : (r : FlatTyped) (lent after put labels text : List ℕ) (n at : ℕ) → n ≡ get_or ws 2 0 → at ≡ get_or ws 0 0 → labels ≡ take n bs
      → text ≡ drop n bs → Filled (next_word labels text (length lent) at) lent after (typed_of r) → r ≡ flat_typed (typed_of r) → put ≡ unmarked after
      → typed_fields r ++ put ≡ typed_reply_in ws bs lent
  unfolding typed_reply_in typed_walk
  typed-fields r lent after put labels text n at en ea el et walked flat eu =
      let w : next_word labels text (length lent) at ≡ next_word (take (get_or ws 2 0) bs) (drop (get_or ws 2 0) bs) (length lent) (get_or ws 0 0)
      = rw (el, et, en, ea) in
      let walk = next_word (take (get_or ws 2 0) bs) (drop (get_or ws 2 0) bs) (length lent) (get_or ws 0 0) in
      let head : r ≡ flat_typed walk.1 = flat ∙ ap flat_typed (walked.answer ∙ ap (λ (x : List ℕ × Answer). x.1) w) in
      let tiles : after ≡ walk.0 ++ drop (length walk.0) lent
      = walked.front ∙ ap (λ (x : List ℕ × Answer). x.0 ++ drop (length x.0) lent) w in
      rw (eu, tiles) (ap (λ (x : FlatTyped). typed_fields x ++ unmarked (walk.0 ++ drop (length walk.0) lent)) head)

-- ---- the fields tell the words of a batch in the lent lists: a batch without words has no tiles, and what stops a batch is no word
module _ (after : ℕ) (begun sizes_left tiles_left : List ℕ) where
  abbrev ListsTold : List ℕ → List ℕ → Answer → Type 0
  ListsTold sizes tiles stop =
      let r = flat_typed_list (batch_answer record { sizes = sizes; tiles = tiles; after = after; stop = stop; begun = begun }) in
      take r.words (sizes ++ sizes_left) ++ take r.tiles (tiles ++ begun ++ tiles_left) ≡ sizes ++ tiles

  lists-told : (sizes tiles : List ℕ) (stop : Answer) → NoWord stop → (length sizes ≡ 0 → tiles ≡ []) → ListsTold sizes tiles stop
  lists-told [] tiles (gives vs) h bare = absurd h
  lists-told [] tiles nothing h bare = sym (bare refl)
  lists-told [] tiles (refused r vs) h bare = sym (bare refl)
  lists-told (n ∷ ns) tiles stop h bare =
      rw (ne_eqb (length (n ∷ ns)) 0 (λ e. omega arith))
      (ap₂ ◌++◌ (take-append_seam (n ∷ ns) sizes_left)
      (ap (take (length tiles)) (append_assoc tiles begun tiles_left) ∙ take-append_seam tiles (begun ++ tiles_left)))

module _ (ws bs : List ℕ) where
  pub list-fields : (r : FlatTypedList) (lent_tiles tiles lent_sizes sizes labels text : List ℕ) (n at : ℕ) → n ≡ get_or ws 3 0 → at ≡ get_or ws 0 0
      → labels ≡ take n bs → text ≡ drop n bs
      → BatchPut (read_words labels text (length lent_sizes) (length lent_tiles) at) lent_tiles tiles lent_sizes sizes (typed_list_of r)
      → r ≡ flat_typed_list (typed_list_of r)
      → typed_list_fields r ++ (take r.words sizes ++ take r.tiles tiles) ≡ typed_list_reply_in ws bs (length lent_sizes) (length lent_tiles)
  unfolding typed_list_reply_in typed_batch
  list-fields r lent_tiles tiles lent_sizes sizes labels text n at en ea el et put flat =
      let w : read_words labels text (length lent_sizes) (length lent_tiles) at
      ≡ read_words (take (get_or ws 3 0) bs) (drop (get_or ws 3 0) bs) (length lent_sizes) (length lent_tiles) (get_or ws 0 0)
      = rw (el, et, en, ea) in
      let b = read_words labels text (length lent_sizes) (length lent_tiles) at in
      let l = read-lines labels text (length lent_sizes) (length lent_tiles) at in
      let head : r ≡ flat_typed_list (batch_answer b) = flat ∙ ap flat_typed_list put.answer in
      let lists : take (flat_typed_list (batch_answer b)).words sizes ++ take (flat_typed_list (batch_answer b)).tiles tiles ≡ b.sizes ++ b.tiles
      = rw (put.sizes, put.tiles)
      (lists-told b.after b.begun _ _ b.sizes b.tiles b.stop l.stop (no-tiles labels text b l)) in
      ap (λ (x : FlatTypedList). typed_list_fields x ++ (take x.words sizes ++ take x.tiles tiles)) head
      ∙ ap (typed_list_fields (flat_typed_list (batch_answer b)) ++◌) lists
      ∙ ap (λ (x : Batch). typed_list_fields (flat_typed_list (batch_answer x)) ++ (x.sizes ++ x.tiles)) w

  -- so many of the lists that a case has are lent
  pub list_reply : (room slots : ℕ) → room ≡ min (get_or ws 1 0) 64 → slots ≡ min (get_or ws 2 0) 16
      → typed_list_reply_in ws bs (length {A = ℕ} (take slots (replicate 16 0))) (length {A = ℕ} (take room (replicate 64 0))) ≡ typed_list_reply ws bs
  unfolding typed_list_reply
  list_reply room slots e f = rw (lent-size room 64 0 (omega arith), lent-size slots 16 0 (omega arith), e, f)
