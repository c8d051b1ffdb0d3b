-- What the writer's answers say, and what its checks refuse by.
use Rattle.std.specs.Prelude.{List, [], ◌∷◌, ℕ, length, drop, Result}
use Rattle.std.proofs.Math.Option.{Option}
use Rattle.answers.specs.Answers.{Answer, gives, Refusal, refusing, said_result, refusal_of, first_of}
use Rattle.graph.specs.Runs.{Graph}
use Rattle.graph.specs.Checks.{graph_why}
use Rattle.export.specs.Written.{Written, written}
use Rattle.macondo_file.specs.File.{Format, dawg, gaddag, macondo_file}
use Rattle.macondo_file.specs.Row.{macondo_walk_row}
use Rattle.macondo.specs.declared.MacondoFormat.{MacondoFormat}
use Rattle.macondo.specs.declared.MacondoFormat.TheVariants.{Dawg, Gaddag}
use Rattle.macondo.specs.declared.MacondoRefusal.{MacondoRefusal}
use Rattle.macondo.specs.declared.MacondoRefusal.TheVariants as M

abbrev pub format_of : MacondoFormat → Format
format_of Dawg = dawg
format_of Gaddag = gaddag

abbrev pub macondo_refusal : MacondoRefusal → Refusal
macondo_refusal (M.Graph why) = graph_why why
macondo_refusal M.LabelCount = refusing 18 []
macondo_refusal M.NameTooLong = refusing 19 []
macondo_refusal M.NoLabel = refusing 21 []
macondo_refusal M.NotAscending = refusing 24 []
macondo_refusal M.WorkTooShort = refusing 11 []
macondo_refusal M.ChainTooLong = refusing 22 []
macondo_refusal M.NotOneCodePoint = refusing 23 []
macondo_refusal M.TooManyNodes = refusing 25 []
macondo_refusal M.FileTooShort = refusing 11 []

abbrev pub said_macondo : Result ℕ MacondoRefusal → Answer
said_macondo r = said_result (λ n. gives (n ∷ [])) macondo_refusal r

abbrev pub checked_refusal : {A : Type 0} → Result A MacondoRefusal → Option Answer
checked_refusal r = refusal_of macondo_refusal r

-- the call's result in the terms of its definition
abbrev pub macondo_written_as : Result ℕ MacondoRefusal → List ℕ → Written
macondo_written_as r bytes = record { answer = said_macondo r; bytes = bytes }

-- what it answers and leaves past the checks before the walk and the first k of the walk's own
abbrev pub written_past : ℕ → Graph → List ℕ → List ℕ → Format → List ℕ → Written
written_past k g labels name f lent = written (first_of (drop k (macondo_walk_row g labels name f (length lent)))) (macondo_file g labels f name) lent
