-- `write_text` meets its contract: the bytes left to write, written after those before, are the whole field.
use Rattle.std.proofs.Common.{◌≡◌, ◌+◌, drop}
use Rattle.std.proofs.lemmas.List.Edits.{sets}
use Rattle.lxd_file.specs.File.{field}
use Rattle.lxd.proofs.header.write_text.Given as goal

abbrev pub invariant-loop-i : goal.invariant-loop-i
invariant-loop-i l = sets l.file (l.from + l.i) (drop l.i (field l.size l.text)) ≡ sets l.initial.file l.from (field l.size l.text)
