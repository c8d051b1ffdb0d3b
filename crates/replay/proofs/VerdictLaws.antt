-- A call's reply by its number; and the verdict on a case, by how much of it could be read.
use mathlib.Core.Path.{◌≡◌, sym, ap, subst, ◌∙◌}
use mathlib.Core.Bool.{Bool}
use mathlib.Core.List.{List}
use mathlib.Core.Option.{Option, some}
use Prim.Native.Nat.{ℕ, ◌+◌, ◌≤◌, ◌<◌}
use borrow.Author.Tests.{lt-leb, le-leb}
use lib.ListN.{length, take, drop, replicate}
use lib.Seq.{take-append_seam}
use Rattle.stored.specs.Answers.{same, verdict_of}
use Rattle.stored.specs.Inputs.{list_in, count_of, copied_to}
use Rattle.stored.specs.CountLaws.{not-counted, list_counted}
use Rattle.stored.specs.declared.answers.Verdict.{Verdict}
use Rattle.std.specs.Prelude.{Some, None}
use Rattle.replay.specs.Counts.{count_reply, CountReplied, replied}
use Rattle.replay.specs.Judged.{after_bytes, after_words, Reply, counting, Replied, by, Judged, no_call, unread, compared}

module _ {ws bs stored : List ℕ} {call : ℕ} {b : Bool} where
  pub replies_as : (k : ℕ) {a : List ℕ} → call ≡ k → Reply ws bs k a → b ≡ same stored a → Replied ws bs call stored b
  replies_as k e r s = subst (λ (n : ℕ). Replied ws bs n stored b) (sym e) (subst (Replied ws bs k stored) (sym s) (by r))

pub counts_as : {ws bs stored : List ℕ} {call : ℕ} {b : Bool} → call ≡ 6 → CountReplied ws (replicate 512 0) 1024 stored b → Replied ws bs call stored b
counts_as {ws} {bs} {stored} e (replied {a} {counts} c) =
    subst (λ (n : ℕ). Replied ws bs n stored (same stored (count_reply ws a counts))) (sym e) (by (counting c))

-- ---- reading a case
pub low-call : (wr br call : ℕ) (case : List ℕ) → call < 1 → Judged wr br call case Verdict.Malformed
low-call wr br call case h = no_call (rw (lt-leb 1 call h))

pub high-call : (wr br call : ℕ) (case : List ℕ) → 1 ≤ call → 19 < call → Judged wr br call case Verdict.Malformed
high-call wr br call case l h = no_call (rw (le-leb 1 call l, lt-leb call 19 h))

-- what was copied, of a lent list
pub copied-front : (lent : List ℕ) (o : Option (List ℕ)) (l : List ℕ) (n : ℕ) (after : List ℕ)
    → o ≡ some l → length l ≡ n → after ≡ copied_to lent o → take n after ≡ l
copied-front lent o l n after e s c = rw (c, e, ← s) (take-append_seam l (drop (length l) lent))

module _ (wr br call : ℕ) (case : List ℕ) where
  pub words-unread : count_of (list_in 4294967295 wr case) ≡ None → Judged wr br call case Verdict.Malformed
  words-unread e = unread (ap (after_words br case) (not-counted (list_in 4294967295 wr case) e))

  module _ (n : ℕ) (rest : List ℕ) (e : count_of (list_in 4294967295 wr case) ≡ Some n) (er : rest ≡ drop (n + 1) case) where
    pub bytes-unread : count_of (list_in 255 br rest) ≡ None → Judged wr br call case Verdict.Malformed
    bytes-unread f =
        let (ws, is, sized) = list_counted (list_in 4294967295 wr case) n e in
        let at : rest ≡ drop (length ws + 1) case = er ∙ ap (λ (k : ℕ). drop (k + 1) case) (sym sized) in
        unread (ap (after_words br case) is ∙ ap (λ (r : List ℕ). after_bytes ws r (list_in 255 br r)) (sym at)
        ∙ ap (after_bytes ws rest) (not-counted (list_in 255 br rest) f))

    pub case-judged : (m : ℕ) (words bytes after_words' after_bytes' stored part : List ℕ) {b : Bool} → count_of (list_in 255 br rest) ≡ Some m
        → wr ≡ length words → br ≡ length bytes → after_words' ≡ copied_to words (list_in 4294967295 wr case)
        → after_bytes' ≡ copied_to bytes (list_in 255 br rest) → stored ≡ drop (m + 1) rest → part ≡ take n after_words'
        → Replied part (take m after_bytes') call stored b → Judged wr br call case (verdict_of b)
    case-judged m words bytes aw ab stored part {b} f ew eb cw cb es ep r =
        let (ws, is, sized) = list_counted (list_in 4294967295 wr case) n e in
        let (bs, has, counts) = list_counted (list_in 255 br rest) m f in
        let at : rest ≡ drop (length ws + 1) case = er ∙ ap (λ (k : ℕ). drop (k + 1) case) (sym sized) in
        let front : part ≡ ws = ep ∙ copied-front words (list_in 4294967295 wr case) ws n aw is sized cw in
        let first : take m ab ≡ bs = copied-front bytes (list_in 255 br rest) bs m ab has counts cb in
        let end : stored ≡ drop (length bs + 1) rest = es ∙ ap (λ (k : ℕ). drop (k + 1) rest) (sym counts) in
        compared {r = record { words = ws; bytes = bs; answer = drop (length bs + 1) rest }} {b = b}
        (ap (after_words br case) is ∙ ap (λ (l : List ℕ). after_bytes ws l (list_in 255 br l)) (sym at) ∙ ap (after_bytes ws rest) has)
        (rw (← end, ← front, ← first) r)
