-- The flat answers of letter bits and alpha sets.
use Rattle.std.specs.Prelude.{List, [], ◌∷◌, ℕ, eqb}
use Rattle.base.specs.Numbers.{flag}
use Rattle.answers.specs.Answers.{Answer, gives, refusal_in}
use Rattle.letters.specs.LetterBits.{Lettered}
use Rattle.flat.specs.Flat.{plainly, value_in}
use Rattle.flat.specs.declared.sets.FlatAccepts.{FlatAccepts}
use Rattle.flat.specs.declared.sets.FlatCross.{FlatCross}

abbrev pub bits_of : ℕ → List ℕ → List ℕ → Lettered
bits_of r all accepting = record { answer = plainly r (gives []); all = all; accepting = accepting }

abbrev pub accepts_of : FlatAccepts → Answer
accepts_of r = plainly r.refusal (gives (flag r.accepts ∷ []))

abbrev pub flat_accepts : Answer → FlatAccepts
flat_accepts a = record { refusal = refusal_in a; accepts = eqb (value_in a) 1 }

abbrev pub cross_of : FlatCross → Answer
cross_of r = plainly r.refusal (gives (r.tiles ∷ []))

abbrev pub flat_cross : Answer → FlatCross
flat_cross a = record { refusal = refusal_in a; tiles = value_in a }
