-- `batch::batch_from` meets its contract: each line's tiles go into what is left of the buffer, and the batch from the place after it answers
-- for the whole.
use Rattle.std.proofs.Common.{◌≡◌, ◌-◌, length}
use Rattle.label_index.specs.Labels.{labels_in}
use Rattle.typed.specs.Batches.{batch_from}
use Rattle.typed.proofs.BatchLaws.{BatchLeft}
use Rattle.typed.proofs.batch.batch_from.Given as goal

abbrev pub invariant-loop-words : goal.invariant-loop-words
invariant-loop-words l =
    let ls = labels_in l.index.file.now in
    (l.read.words ≡ l.words)
    × BatchLeft (batch_from ls l.text (length l.initial.sizes) (length l.initial.tiles) l.at) l.initial.tiles l.initial.sizes l.words l.read.tiles l.tiles l.sizes
    (batch_from ls l.text (length l.sizes - l.words) (length l.tiles - l.read.tiles) l.read.after)
