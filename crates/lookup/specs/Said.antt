-- What the answers of the calls say, and those of the walks' parts.
use Rattle.std.specs.Prelude.{List, [], ◌∷◌, ℕ, Result, Ok, Err, Option as Maybe, None, Some}
use Rattle.laws.specs.Buffers.{Filled}
use Rattle.answers.specs.Answers.{Answer, gives, nothing, Refusal, as_answer, said_result, said_option}
use Rattle.lookup.specs.Steps.{Try, on, stop}
use Rattle.lookup.specs.Refusals.{not_lent_refusal, lookup_refusal, word_refusal}
use Rattle.lookup.specs.declared.refusals.NotLent.{NotLent}
use Rattle.lookup.specs.declared.refusals.LookupRefusal.{LookupRefusal}
use Rattle.lookup.specs.declared.refusals.WordRefusal.{WordRefusal}
use Rattle.lookup.specs.declared.by_tile.Sought.{Sought}
use Rattle.lookup.specs.declared.by_tile.Passed.{Passed}

abbrev pub said_number : ℕ → Answer
said_number n = gives (n ∷ [])

abbrev pub said_sought : Sought → Answer
said_sought s = gives (s.node ∷ s.before ∷ [])

abbrev pub said_seek : Result (Maybe Sought) LookupRefusal → Answer
said_seek r = said_result (said_option said_sought) lookup_refusal r

abbrev pub said_index : Result (Maybe ℕ) LookupRefusal → Answer
said_index r = said_result (said_option said_number) lookup_refusal r

abbrev pub said_word : Result (Maybe ℕ) WordRefusal → Answer
said_word r = said_result (said_option said_number) word_refusal r

-- "After a refusal or none the tiles already put stay, the rest of the buffer as before."
abbrev pub WordPut : List ℕ × Answer → List ℕ → List ℕ → Result (Maybe ℕ) WordRefusal → Type 0
WordPut walk before after r = Filled walk before after (said_word r)

-- ---- parts of a walk
-- a result as a step of a walk
abbrev pub try_result : {A E : Type 0} → (E → Refusal) → Result A E → Try A
try_result why (Ok a) = on a
try_result why (Err e) = stop (as_answer (why e))

-- one that may find none
abbrev pub try_found : {A B E : Type 0} → (A → B) → (E → Refusal) → Result (Maybe A) E → Try B
try_found value why (Ok (Some a)) = on (value a)
try_found value why (Ok None) = stop nothing
try_found value why (Err e) = stop (as_answer (why e))

abbrev pub lent_try : Result ℕ NotLent → Try ℕ
lent_try r = try_result not_lent_refusal r

abbrev pub search_try : Result (Maybe ℕ) NotLent → Try ℕ
search_try r = try_found (λ i. i) not_lent_refusal r

abbrev pub between_try : Result ℕ LookupRefusal → Try ℕ
between_try r = try_result lookup_refusal r

abbrev pub passed_try : Result (Maybe Passed) LookupRefusal → Try (ℕ × ℕ)
passed_try r = try_found (λ (s : Passed). (s.node, s.before)) lookup_refusal r
