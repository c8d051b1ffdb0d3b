-- What the answers of the calls say, and those of their parts.
use Rattle.std.specs.Prelude.{Bool, true, List, [], ◌∷◌, ℕ, Result, Ok, Err, Option as Maybe, None, Some}
use Rattle.answers.specs.Answers.{Answer, gives, Refusal, refusing, as_answer, said_result}
use Rattle.lookup.specs.Steps.{Try, on, stop}
use Rattle.lookup.specs.Refusals.{not_lent_refusal, lookup_refusal}
use Rattle.lookup.specs.Said.{try_result}
use Rattle.lookup.specs.declared.refusals.NotLent.{NotLent}
use Rattle.in_play.specs.InPlay.{Played}
use Rattle.in_play.specs.declared.Remaining.{Remaining}
use Rattle.in_play.specs.declared.refusals.PlayRefusal.{PlayRefusal}
use Rattle.in_play.specs.declared.refusals.PlayRefusal.TheVariants as P
use Rattle.in_play.specs.declared.lexicon.InLexicon.{InLexicon}

-- "14 for a start not lent, 11 for too few bits, a refusal of word numbers, 29 for a word not in the lexicon [..] 30 for an arrival of a
-- word in play, 31 for leaving when it isn't"
abbrev pub play_refusal : PlayRefusal → Refusal
play_refusal (P.Lookup e) = lookup_refusal e
play_refusal P.TooFewBits = refusing 11 []
play_refusal P.NoWord = refusing 29 []
play_refusal P.AlreadyInPlay = refusing 30 []
play_refusal P.NotInPlay = refusing 31 []

abbrev pub said_left : Maybe Remaining → Answer
said_left None = gives (0 ∷ [])
said_left (Some r) = gives (r.count ∷ r.lowest ∷ [])

abbrev pub said_play : Result (Maybe Remaining) PlayRefusal → Answer
said_play r = said_result said_left play_refusal r

-- a call's result in the terms of its definition: the answer, and every byte of the record
abbrev pub played_as : Result (Maybe Remaining) PlayRefusal → List ℕ → Played
played_as r after = record { answer = said_play r; bits = after }

-- ---- parts of a call
abbrev pub start_says : Result ℕ NotLent → Try ℕ
start_says r = try_result not_lent_refusal r

abbrev pub found_as : Result InLexicon PlayRefusal → Try (ℕ × ℕ)
found_as (Ok f) = on (f.number, f.total)
found_as (Err e) = stop (as_answer (play_refusal e))

abbrev pub allowed_as : Result Unit PlayRefusal → Try Bool
allowed_as (Ok t) = on true
allowed_as (Err e) = stop (as_answer (play_refusal e))
