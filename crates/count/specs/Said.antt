-- What counting's answers say.
use Rattle.std.specs.Prelude.{[], ◌∷◌, Result}
use Rattle.answers.specs.Answers.{Answer, gives, Refusal, refusing, said_result}
use Rattle.graph.specs.Checks.{graph_why}
use Rattle.count.specs.declared.CountRefusal.{CountRefusal}
use Rattle.count.specs.declared.CountRefusal.TheVariants.{Graph, ListTooShort, Loops, TooMany}

abbrev pub count_refusal : CountRefusal → Refusal
count_refusal (Graph why) = graph_why why
count_refusal ListTooShort = refusing 11 []
count_refusal (Loops q) = refusing 12 (q ∷ [])
count_refusal TooMany = refusing 13 []

abbrev pub said_counting : Result Unit CountRefusal → Answer
said_counting r = said_result (λ _. gives []) count_refusal r
