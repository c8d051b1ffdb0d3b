-- The loop's invariant: the sets left, written where they go, give them all.
use Rattle.std.specs.Prelude.{◌+◌, ◌*◌}
use Rattle.letter_sets.specs.SetNumbers.{sets_in}
use Rattle.macondo_writing.proofs.SectionLaws.{SectionWriting}
use Rattle.macondo_writing.proofs.sections.write_sets.Given as goal

abbrev pub invariant-loop-i : goal.invariant-loop-i
invariant-loop-i l = SectionWriting 8 (sets_in l.n l.work l.count) l.initial.file (l.at + 4) l.i l.file (l.at + 4 + 8 * l.i)
