-- Why letter bits and alpha sets are refused, as document 01 writes it.
use Rattle.std.specs.Prelude.{[]}
use Rattle.answers.specs.Answers.{Refusal, refusing}
use Rattle.letters.specs.declared.refusals.ListTooShort.{ListTooShort}
use Rattle.letters.specs.declared.refusals.AlphaRefusal.{AlphaRefusal}
use Rattle.letters.specs.declared.refusals.AlphaRefusal.TheVariants as A

-- "11+ a lent list too short"
abbrev pub list_too_short_refusal : ListTooShort → Refusal
list_too_short_refusal r = refusing 11 []

-- "17+ tally over 64; 14+ a step to a node or count not lent"
abbrev pub alpha_refusal : AlphaRefusal → Refusal
alpha_refusal A.NotLent = refusing 14 []
alpha_refusal A.TallyTooLong = refusing 17 []
