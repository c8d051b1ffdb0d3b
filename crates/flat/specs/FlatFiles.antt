-- The flat answer of the writers of files.
use Rattle.std.specs.Prelude.{true, false, List, [], ◌∷◌, ℕ, eqb}
use Rattle.answers.specs.Answers.{Answer, gives, refusal_in}
use Rattle.export.specs.Written.{Written}
use Rattle.macondo.specs.declared.MacondoFormat.{MacondoFormat}
use Rattle.macondo.specs.declared.MacondoFormat.TheVariants.{Dawg, Gaddag}
use Rattle.flat.specs.Flat.{refused_or, value_in, arc_carried}
use Rattle.flat.specs.declared.files.FlatFile.{FlatFile}

-- a format's number: 0 is a DAWG, every other number a GADDAG
abbrev pub format_numbered : ℕ → MacondoFormat
format_numbered n = elim (eqb n 0) [ true ↦ Dawg | false ↦ Gaddag ]

-- "A written file answers its length."
abbrev pub file_of : FlatFile → Answer
file_of r = refused_or r.refusal 0 0 r.arc (gives (r.written ∷ []))

abbrev pub file_written : FlatFile → List ℕ → Written
file_written r bytes = record { answer = file_of r; bytes = bytes }

abbrev pub flat_file : Answer → FlatFile
flat_file a = record { refusal = refusal_in a; arc = arc_carried a; written = value_in a }
