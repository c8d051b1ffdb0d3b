-- The verdict on a case: malformed where it cannot be read or has no such call, and else whether the stored answer is the call's reply.
use Rattle.std.specs.Prelude.{◌≡◌, Bool, false, ◌&&◌, List, ℕ, ◌+◌, leb, length, drop, replicate}
use Rattle.std.proofs.Math.Option.{Option, none, some}
use Rattle.answers.specs.Answers.{Answer}
use Rattle.graph.specs.Counting.{IsCounted, count_limit}
use Rattle.stored.specs.Answers.{same, verdict_of}
use Rattle.stored.specs.Inputs.{list_in}
use Rattle.stored.specs.declared.answers.Verdict.{Verdict}
use Rattle.replay.specs.Nodes.{fields_reply, pack_reply, repack_node_reply}
use Rattle.replay.specs.Loads.{repack_reply, load_reply}
use Rattle.replay.specs.Counts.{count_reply}
use Rattle.replay.specs.Lookups.{index_reply, word_reply, seek_reply, step_reply}
use Rattle.replay.specs.Sets.{bits_reply, accepts_reply, cross_reply}
use Rattle.replay.specs.Files.{macondo_reply, lxd_reply}
use Rattle.replay.specs.Pages.{page_reply}
use Rattle.replay.specs.Typed.{typed_reply, typed_list_reply}
use Rattle.replay.specs.Builds.{build_reply}

-- ---- what a case holds: its inputs, a list of words and a list of bytes, and the stored answer
pub record Read : Type 0 where
  pub words : List ℕ
  pub bytes : List ℕ
  pub answer : List ℕ

abbrev pub after_bytes : List ℕ → List ℕ → Option (List ℕ) → Option Read
after_bytes ws rest none = none
after_bytes ws rest (some bs) = some record { words = ws; bytes = bs; answer = drop (length bs + 1) rest }

abbrev pub after_words : ℕ → List ℕ → Option (List ℕ) → Option Read
after_words byte_room case none = none
after_words byte_room case (some ws) = after_bytes ws (drop (length ws + 1) case) (list_in 255 byte_room (drop (length ws + 1) case))

-- with room for so many words and bytes
abbrev pub read_case : ℕ → ℕ → List ℕ → Option Read
read_case word_room byte_room case = after_words byte_room case (list_in 4294967295 word_room case)

-- ---- the calls by their numbers, with what each replies over the lists that it is lent
pub data Reply (ws bs : List ℕ) : ℕ → List ℕ → Type 0 where
  node-fields : Reply ws bs 1 (fields_reply ws)
  pack : Reply ws bs 2 (pack_reply ws)
  repack-node : Reply ws bs 3 (repack_node_reply ws)
  repack_in_place : Reply ws bs 4 (repack_reply ws bs)
  load : Reply ws bs 5 (load_reply ws bs (replicate 8192 0))
  counting : {a : Answer} {counts : List ℕ} → IsCounted count_limit ws (replicate 512 0) 1024 a counts → Reply ws bs 6 (count_reply ws a counts)
  word-to-number : Reply ws bs 7 (index_reply ws bs)
  number-to-word : Reply ws bs 8 (word_reply ws)
  run-lookup : Reply ws bs 9 (seek_reply ws)
  run_step : Reply ws bs 10 (step_reply ws)
  letter-bits : Reply ws bs 11 (bits_reply ws (replicate 512 0) (replicate 512 0))
  accepts-alpha : Reply ws bs 12 (accepts_reply ws bs)
  alpha-cross-set : Reply ws bs 13 (cross_reply ws bs)
  macondo : Reply ws bs 14 (macondo_reply ws bs 4096 (replicate 4096 0))
  lxd : Reply ws bs 15 (lxd_reply ws 4096 (replicate 4096 0))
  pages : Reply ws bs 16 (page_reply ws bs (replicate 960 0))
  next_word : Reply ws bs 17 (typed_reply ws bs)
  read-words : Reply ws bs 18 (typed_list_reply ws bs)
  build : Reply ws bs 19 (build_reply ws bs)

-- whether the stored answer is a reply of the call
pub data Replied (ws bs : List ℕ) (call : ℕ) (stored : List ℕ) : Bool → Type 0 where
  by : {a : List ℕ} → Reply ws bs call a → Replied ws bs call stored (same stored a)

pub data Judged (word_room byte_room call : ℕ) (case : List ℕ) : Verdict → Type 0 where
  no_call : leb 1 call && leb call 19 ≡ false → Judged word_room byte_room call case Verdict.Malformed
  unread : read_case word_room byte_room case ≡ none → Judged word_room byte_room call case Verdict.Malformed
  compared : {r : Read} {b : Bool} → read_case word_room byte_room case ≡ some r → Replied r.words r.bytes call r.answer b
      → Judged word_room byte_room call case (verdict_of b)
