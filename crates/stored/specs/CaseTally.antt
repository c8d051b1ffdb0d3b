-- What the contracts on the tally cite: the tally of nothing, and a tally after a line or a verdict.
use Rattle.std.specs.Prelude.{ℕ, ◌+◌, ◌-◌, ◌^◌, min, get_or, set, replicate, ltb, List, [], ◌++◌, codes, decimal}
use Rattle.stored.specs.Inputs.{pick}
use Rattle.stored.specs.declared.answers.Verdict.{Verdict}
use Rattle.stored.specs.declared.tally.CaseTally.{CaseTally}

-- a count stays at the highest number
abbrev pub one_more_capped : ℕ → ℕ
one_more_capped count = min (count + 1) (2 ^ 64 - 1)

-- at the first line, with nothing counted of any of the 32 calls
abbrev pub new_tally : CaseTally
new_tally = record { line = 1; cases = replicate 32 0; malformed = 0; differences = 0 }

abbrev pub with_next_line : CaseTally → CaseTally
with_next_line t = record { line = one_more_capped t.line; cases = t.cases; malformed = t.malformed; differences = t.differences }

abbrev pub with_malformed : CaseTally → CaseTally
with_malformed t = record { line = t.line; cases = t.cases; malformed = one_more_capped t.malformed; differences = t.differences }

abbrev pub with_difference : CaseTally → CaseTally
with_difference t = record { line = t.line; cases = t.cases; malformed = t.malformed; differences = one_more_capped t.differences }

abbrev pub with_case : ℕ → CaseTally → CaseTally
with_case call t =
    record { line = t.line; cases = set t.cases call (one_more_capped (get_or t.cases call 0)); malformed = t.malformed; differences = t.differences }

abbrev pub case_tallied : ℕ → Verdict → CaseTally → CaseTally
case_tallied call Verdict.Same t = with_case call t
case_tallied call Verdict.Different t = with_case call (with_difference t)
case_tallied call Verdict.Malformed t = with_malformed t

-- a call that has no place makes its line malformed
abbrev pub with_verdict : ℕ → Verdict → CaseTally → CaseTally
with_verdict call verdict t = pick (ltb call 32) (case_tallied call verdict t) (with_malformed t)

-- a number as it is printed, between two texts
abbrev pub number_said : List ℕ → ℕ → List ℕ → List ℕ
number_said before number after = before ++ decimal number ++ after

-- what is printed of a line: its number, and what was found
abbrev pub line_said : ℕ → List ℕ → List ℕ
line_said line finding = number_said (codes "line ") line finding

abbrev pub malformed_said : ℕ → List ℕ
malformed_said line = line_said line (codes " malformed\n")

abbrev pub differs_said : ℕ → List ℕ
differs_said line = line_said line (codes " differs\n")

abbrev pub case_said : Verdict → ℕ → List ℕ
case_said Verdict.Same line = []
case_said Verdict.Different line = differs_said line
case_said Verdict.Malformed line = malformed_said line

-- of a call that has no place, its line is said to be malformed
abbrev pub verdict_said : ℕ → Verdict → ℕ → List ℕ
verdict_said call verdict line = pick (ltb call 32) (case_said verdict line) (malformed_said line)

-- what is printed in the end
abbrev pub findings_said : CaseTally → List ℕ
findings_said t = number_said (codes "malformed lines: ") t.malformed (codes "\n") ++ number_said (codes "differences: ") t.differences (codes "\n")
