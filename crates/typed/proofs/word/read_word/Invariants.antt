-- `word::read_word` meets its contract: each label's tile is put, and the walk from the place after it answers for the whole line.
use Rattle.std.proofs.Common.{◌-◌, ◌≤◌, length}
use Rattle.laws.specs.Buffers.{Left}
use Rattle.label_index.specs.Labels.{labels_in}
use Rattle.typed.specs.Words.{typed_from}
use Rattle.typed.proofs.word.read_word.Given as goal

abbrev pub invariant-loop-i : goal.invariant-loop-i
invariant-loop-i l =
    let ls = labels_in l.index.file.now in
    (l.i ≤ length l.line)
    × Left (typed_from ls l.line l.start (length l.initial.word) 0 0) l.initial.word l.n l.word (typed_from ls l.line l.start (length l.word - l.n) l.n l.i)

abbrev pub decreases-loop-i : goal.decreases-loop-i
decreases-loop-i l = length l.line - l.i
