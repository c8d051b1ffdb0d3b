-- The flat answer of counting.
use Rattle.std.specs.Prelude.{[]}
use Rattle.answers.specs.Answers.{Answer, gives, refusal_in}
use Rattle.flat.specs.Flat.{refused_or, node_carried, arc_carried}
use Rattle.flat.specs.declared.counting.FlatCounted.{FlatCounted}

abbrev pub counted_of : FlatCounted → Answer
counted_of r = refused_or r.refusal r.node 0 r.arc (gives [])

abbrev pub flat_counted : Answer → FlatCounted
flat_counted a = record { refusal = refusal_in a; arc = arc_carried a; node = node_carried a }
