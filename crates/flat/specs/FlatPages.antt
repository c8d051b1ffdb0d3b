-- The flat answer of a page: the number of the refusal, or 0.
use Rattle.std.specs.Prelude.{List, [], ℕ}
use Rattle.answers.specs.Answers.{gives}
use Rattle.export.specs.Written.{Written}
use Rattle.flat.specs.Flat.{plainly}

abbrev pub page_of : ℕ → List ℕ → Written
page_of r bytes = record { answer = plainly r (gives []); bytes = bytes }
