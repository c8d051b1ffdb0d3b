-- Why a lookup is refused, as document 01 writes it.
use Rattle.std.specs.Prelude.{[]}
use Rattle.answers.specs.Answers.{Refusal, refusing}
use Rattle.lookup.specs.declared.refusals.NotLent.{NotLent}
use Rattle.lookup.specs.declared.refusals.LookupRefusal.{LookupRefusal}
use Rattle.lookup.specs.declared.refusals.LookupRefusal.TheVariants as L
use Rattle.lookup.specs.declared.refusals.WordRefusal.{WordRefusal}
use Rattle.lookup.specs.declared.refusals.WordRefusal.TheVariants as W

-- "14+ a step to a node or count not lent"
abbrev pub not_lent_refusal : NotLent → Refusal
not_lent_refusal r = refusing 14 []

-- "15+ a difference below 0 or sum above 4,294,967,295"
abbrev pub lookup_refusal : LookupRefusal → Refusal
lookup_refusal L.NotLent = refusing 14 []
lookup_refusal L.OutOfRange = refusing 15 []

-- "16 buffer"
abbrev pub word_refusal : WordRefusal → Refusal
word_refusal (W.Lookup e) = lookup_refusal e
word_refusal W.BufferFull = refusing 16 []
