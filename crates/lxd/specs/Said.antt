-- What the call's answers say, and what its checks refuse by.
use Rattle.std.specs.Prelude.{◌≡◌, List, [], ◌∷◌, ℕ, length, Result}
use Rattle.std.proofs.Math.Option.{Option, some}
use Rattle.answers.specs.Answers.{Answer, gives, Refusal, refusing, as_answer, said_result, refusal_of, first_of}
use Rattle.graph.specs.Runs.{Graph}
use Rattle.graph.specs.Checks.{graph_why}
use Rattle.export.specs.Written.{Written, written}
use Rattle.lxd_file.specs.File.{lxd_file}
use Rattle.lxd_file.specs.Row.{lxd_walk_row}
use Rattle.lxd.specs.declared.LxdRefusal.{LxdRefusal}
use Rattle.lxd.specs.declared.LxdRefusal.TheVariants as L

abbrev pub lxd_refusal : LxdRefusal → Refusal
lxd_refusal (L.Graph why) = graph_why why
lxd_refusal L.TitleNotWindows1252 = refusing 20 []
lxd_refusal L.TitleTooLong = refusing 19 []
lxd_refusal L.DateNotWindows1252 = refusing 20 []
lxd_refusal L.DateTooLong = refusing 19 []
lxd_refusal L.NoLabel = refusing 21 []
lxd_refusal L.WorkTooShort = refusing 11 []
lxd_refusal L.ChainTooLong = refusing 22 []
lxd_refusal L.LetterNotWindows1252 = refusing 23 []
lxd_refusal L.TooManyWords = refusing 13 []
lxd_refusal L.TooManyNodes = refusing 25 []
lxd_refusal L.FileTooShort = refusing 11 []

abbrev pub said_lxd : Result ℕ LxdRefusal → Answer
said_lxd r = said_result (λ n. gives (n ∷ [])) lxd_refusal r

-- the call's result in the terms of its definition
abbrev pub lxd_written_as : Result ℕ LxdRefusal → List ℕ → Written
lxd_written_as r bytes = record { answer = said_lxd r; bytes = bytes }

-- what it answers and leaves past the checks before the walk
abbrev pub after_checks : Graph → List ℕ → List ℕ → List ℕ → List ℕ → Written
after_checks g labels title date lent = written (first_of (lxd_walk_row g labels title date (length lent))) (lxd_file g labels title date) lent

-- its refusal, whatever the texts and the file are
abbrev pub WalkRefuses : Graph → List ℕ → LxdRefusal → Type 0
WalkRefuses g labels r = (title date : List ℕ) (lent_file : ℕ) → first_of (lxd_walk_row g labels title date lent_file) ≡ some (as_answer (lxd_refusal r))

abbrev pub checked_refusal : {A : Type 0} → Result A LxdRefusal → Option Answer
checked_refusal r = refusal_of lxd_refusal r
