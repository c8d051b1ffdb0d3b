-- The loop's invariant: the entries before the one at hand are written.
use Rattle.macondo_writing.proofs.SectionLaws.{EachWritten}
use Rattle.macondo_writing.proofs.sections.write_each.Given as goal

abbrev pub invariant-loop-i : goal.invariant-loop-i
invariant-loop-i g l = EachWritten (goal.F-post g l.number) l.list l.fn.file l.at l.i l.file
