-- What the answers of the calls say, and that of a walk's part.
use Rattle.std.specs.Prelude.{Bool, List, [], ◌∷◌, ℕ, Result}
use Rattle.base.specs.Numbers.{flag}
use Rattle.answers.specs.Answers.{Answer, gives, said_result}
use Rattle.lookup.specs.Steps.{Try}
use Rattle.lookup.specs.Refusals.{not_lent_refusal}
use Rattle.lookup.specs.Said.{said_number, try_result}
use Rattle.lookup.specs.declared.refusals.NotLent.{NotLent}
use Rattle.letters.specs.LetterBits.{Lettered}
use Rattle.letters.specs.Refusals.{list_too_short_refusal, alpha_refusal}
use Rattle.letters.specs.declared.refusals.ListTooShort.{ListTooShort}
use Rattle.letters.specs.declared.refusals.AlphaRefusal.{AlphaRefusal}

abbrev pub said_bits : Result Unit ListTooShort → Answer
said_bits r = said_result (λ _. gives []) list_too_short_refusal r

-- the call's result in the terms of its definition
abbrev pub lettered_as : Result Unit ListTooShort → List ℕ → List ℕ → Lettered
lettered_as r all accepting = record { answer = said_bits r; all = all; accepting = accepting }

-- 1 for yes, 0 for no
abbrev pub said_alpha : Result Bool AlphaRefusal → Answer
said_alpha r = said_result (λ b. gives (flag b ∷ [])) alpha_refusal r

abbrev pub said_cross : Result ℕ AlphaRefusal → Answer
said_cross r = said_result said_number alpha_refusal r

-- ---- parts of a walk
abbrev pub completes_try : Result Bool NotLent → Try Bool
completes_try r = try_result not_lent_refusal r

abbrev pub said_tiles : Result ℕ NotLent → Answer
said_tiles r = said_result said_number not_lent_refusal r
